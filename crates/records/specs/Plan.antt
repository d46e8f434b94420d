-- The plan record (01, "The two records" and refusals 11 to 14): the steps that bytes stand for, what makes them damaged, and the
-- record that steps are written as.
use Rattle.std.specs.Prelude.{ℕ, zero, suc, ◌+◌, ◌-◌, ◌*◌, Bool, not, ◌&&◌, List, [], ◌∷◌, ◌++◌, map, ◌≡◌, length, get_or, take, drop, ltb, leb, eqb, Result, Ok, Err}
use Rattle.std.specs.Result.{result_and}
use Rattle.records.specs.Base.{pick, all, sum_of}
use Rattle.records.specs.Bytes.{byte_at, be16, be32, bytes16, bytes32, version_of, known_version, AreBytes}
use Rattle.records.specs.Room.{rows}
use Rattle.records.specs.declared.plan.Move as row
use Rattle.records.specs.declared.plan.Source.{Source}
use Rattle.records.specs.declared.plan.Source.TheVariants.{Unnamed, Named}
use Rattle.records.specs.declared.faults.PlanFault.{PlanFault}
use Rattle.records.specs.declared.faults.PlanFault.TheVariants.{TooShort, Version, Length, Shape}

-- ---- what a record stands for

-- a move: a VM, the source that it names or none (02, Job 7), and the place it goes to, a node or `nowhere`
abbrev pub Move : Type 0
Move = row.Move

-- a step: the moves that run side by side
abbrev pub Step : Type 0
Step = List Move

-- a step whose moves name other sources, VMs and destinations staying
unfoldable pub with_sources : (Move → Source) → Step → Step
with_sources names step = map (λ move. record { vm = move.vm; source = names move; to = move.to }) step

-- move i of a step; nothing where there is none
abbrev pub no_move : Move
no_move = record { vm = 0; source = Unnamed; to = 0 }

unfoldable pub move_of : Step → ℕ → Move
move_of step i = get_or step i no_move

-- ---- reading

abbrev pub step_count : List ℕ → ℕ
step_count s = be16 s 5

-- version 1 names no sources, version 2 that of each move (02, Job 7)
unfoldable pub names_sources : ℕ → Bool
names_sources version = eqb version 2

-- so a move has two bytes or three: first its VM, last its destination, between them the source if there is one
abbrev pub width_in : ℕ → ℕ
width_in version = pick (names_sources version) 3 2

unfoldable pub move_width : List ℕ → ℕ
move_width s = width_in (version_of s)

unfoldable pub source_at : List ℕ → ℕ → Source
source_at s at = pick (names_sources (version_of s)) (Named (byte_at s at)) Unnamed

unfoldable pub move_at : List ℕ → ℕ → Move
move_at s at = record { vm = byte_at s at; source = source_at s (at + 1); to = byte_at s (at + move_width s - 1) }

-- a step is a count of two bytes and its moves; it ends where the last move does
abbrev pub move_count : List ℕ → ℕ → ℕ
move_count s at = be16 s at

unfoldable pub step_at : List ℕ → ℕ → Step
step_at s at = rows (move_at s) (move_width s) (at + 2) (move_count s at)

abbrev pub step_end : List ℕ → ℕ → ℕ
step_end s at = at + 2 + move_count s at * move_width s

-- so many steps from a place, and where the last one ends
unfoldable pub steps_from : List ℕ → ℕ → ℕ → List Step
steps_from s at zero = []
steps_from s at (suc n) = step_at s at ∷ steps_from s (step_end s at) n

unfoldable pub steps_end : List ℕ → ℕ → ℕ → ℕ
steps_end s at zero = at
steps_end s at (suc n) = steps_end s (step_end s at) n

-- the steps that a record stands for: the first starts behind the header. Past the end the count reads 0, so that 0 bytes stand for no
-- steps (`Laws.Steps.empty-steps`)
unfoldable pub steps_of : List ℕ → List Step
steps_of s = steps_from s 7 (step_count s)

-- ---- what makes a record damaged

-- how many moves the steps have in all
unfoldable pub move_total : List Step → ℕ
move_total steps = sum_of length steps

-- 14: counts in their ranges
unfoldable pub sized : Step → Bool
sized step = leb 1 (length step) && leb (length step) 256

-- the most steps that a plan has
abbrev pub most_steps : ℕ
most_steps = 512

unfoldable pub shaped : List Step → Bool
shaped steps = leb (length steps) most_steps && (all sized steps && leb (move_total steps) 1024)

-- the first fault in checking order, 11 to 14; 0 bytes are a whole record (02, Job 8)
abbrev pub refuse_plan : Bool → PlanFault → Result (Unit {0}) PlanFault → Result (Unit {0}) PlanFault
refuse_plan test fault rest = pick test (Err fault) rest

unfoldable pub plan_check : List ℕ → Result (Unit {0}) PlanFault
plan_check s =
    pick (eqb (length s) 0) (Ok tt)
    (refuse_plan (ltb (length s) 7) TooShort
    (refuse_plan (not (known_version (version_of s))) Version
    (refuse_plan (not (eqb (be32 s 1) (length s))) Length
    (refuse_plan (not (shaped (steps_of s) && eqb (steps_end s 7 (step_count s)) (length s))) Shape
    (Ok tt)))))

-- what reading a plan record gives: its steps, or that fault
abbrev pub plan_read : List ℕ → Result (List Step) PlanFault
plan_read s = result_and (plan_check s) (Ok (steps_of s))

-- the longest undamaged record: 512 steps and 1,024 moves of three bytes (`Laws.Steps.plan-most`)
abbrev pub longest_plan : ℕ
longest_plan = 4103

-- what reading a plan record answers: that fault, and for those who compute with the record that its elements are bytes
pub record PlanRead (s : List ℕ) (r : Result (Unit {0}) PlanFault) : Type 0 where
  pub is : r ≡ plan_check s
  pub bytes : AreBytes s

-- 01's number of each
abbrev pub plan_number : PlanFault → ℕ
plan_number TooShort = 11
plan_number Version = 12
plan_number Length = 13
plan_number Shape = 14

-- ---- writing

-- the bytes of a source, of a move, of a step's moves, of a step, of steps one behind the other
unfoldable pub source_bytes : Source → List ℕ
source_bytes Unnamed = []
source_bytes (Named node) = node ∷ []

unfoldable pub move_bytes : Move → List ℕ
move_bytes move = move.vm ∷ source_bytes move.source ++ (move.to ∷ [])

unfoldable pub moves_bytes : Step → List ℕ
moves_bytes [] = []
moves_bytes (move ∷ moves) = move_bytes move ++ moves_bytes moves

unfoldable pub step_bytes : Step → List ℕ
step_bytes step = bytes16 (length step) ++ moves_bytes step

unfoldable pub steps_bytes : List Step → List ℕ
steps_bytes [] = []
steps_bytes (step ∷ steps) = step_bytes step ++ steps_bytes steps

-- the header of a record of a version, of so many bytes and steps
unfoldable pub header_bytes : ℕ → ℕ → ℕ → List ℕ
header_bytes version size steps = version ∷ bytes32 size ++ bytes16 steps

-- the bytes of steps as a record of a version. They stand for these steps if every move names its source where the version does, and none does where it
-- does not (`Laws.RoundTrip.steps-of-record`)
unfoldable pub record_bytes : ℕ → List Step → List ℕ
record_bytes version steps = header_bytes version (7 + length (steps_bytes steps)) (length steps) ++ steps_bytes steps

-- the planner writes version 2, in which a move has three bytes
abbrev pub written_version : ℕ
written_version = 2

abbrev pub written_width : ℕ
written_width = 3

-- the planner's record
unfoldable pub plan_bytes : List Step → List ℕ
plan_bytes steps = record_bytes written_version steps

-- a plan that is written anew keeps its version; 0 bytes have none, and become version 2 (02, Job 9)
unfoldable pub kept_version : List ℕ → ℕ
kept_version s = pick (eqb (length s) 0) written_version (version_of s)

-- the record at the front of a buffer, as long as it says it is
unfoldable pub front_of : List ℕ → List ℕ
front_of buffer = take (be32 buffer 1) buffer

-- a buffer with bytes put at a place: all else stays
unfoldable pub written : List ℕ → ℕ → List ℕ → List ℕ
written buffer at bytes = take at buffer ++ (bytes ++ drop (at + length bytes) buffer)
