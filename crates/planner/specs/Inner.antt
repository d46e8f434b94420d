-- What inner functions answer, on the way to the definitions before. Nothing here has to be believed.
use Rattle.std.specs.Prelude.{ℕ, zero, suc, ◌+◌, ◌<◌, ◌≤◌, ◌^◌, Bool, true, false, not, ◌&&◌, List, [], ◌∷◌, ◌++◌, ◌≡◌, Option, Some, None, Result, Ok, Err, find, length, get_or, set, eqb}
use Rattle.records.specs.Base.{pick, all}
use Rattle.records.specs.Room.{Constraint, ban, fence, spread, latency, before, Room, vm_of, IsSound}
use Rattle.records.specs.Plan.{Step, with_sources, move_total, steps_bytes, written, shaped}
use Rattle.records.specs.Inner.{tells_sources}
use Rattle.records.specs.declared.plan.Source.TheVariants.{Unnamed}
use Rattle.records.specs.declared.faults.ReadFault.{ReadFault}
use Rattle.rules.specs.Moments.{Placement, place_of, current_of, target_of, at_target, bears_at, with_vm, tally_at, first_moment, all_running}
use Rattle.rules.specs.Orders.{spreads, some, meets_mate}
use Rattle.rules.specs.Rules.{allowed, sound_step}
use Rattle.rules.specs.Verdict.{home}
use Rattle.rules.specs.Promises.{after_all}
use Rattle.rules.specs.Inner.{held, no_move, dests_from, busy_from, Placed, Allows}
use Rattle.rules.specs.declared.tally.Tally.{Tally}
use Rattle.planner.specs.Picks.{moving, can_go, useful}
use Rattle.planner.specs.Answer.{steps_for}
use Rattle.planner.specs.declared.steps.Trail.{Trail}
use Rattle.planner.specs.declared.answer.BuildFault.{BuildFault}
use Rattle.planner.specs.declared.answer.Answer.{Answer}
use Rattle.planner.specs.declared.answer.Answer.TheVariants.{Plan, Blocked, Refused}

-- ---- pairs of VMs that one spread names, as a table of a row of 256 marks for each VM

-- each VM of a list marked in a row
abbrev pub pair_row : List Bool → List ℕ → List Bool
pair_row row [] = row
pair_row row (w ∷ ws) = pair_row (set row w true) ws

-- each VM of a list marked in the row of each of the last VMs
abbrev pub pair_rows : List (List Bool) → List ℕ → List ℕ → List (List Bool)
pair_rows table vms [] = table
pair_rows table vms (v ∷ vs) = pair_rows (set table v (pair_row (get_or table v []) vms)) vms vs

unfoldable pub paired : List (List Bool) → Constraint → List (List Bool)
paired table (ban vms nodes) = table
paired table (fence vms nodes) = table
paired table (spread vms) = pair_rows table vms vms
paired table (latency vms groups) = table
paired table (before first second) = table

unfoldable pub paired_all : List (List Bool) → List Constraint → List (List Bool)
paired_all table [] = table
paired_all table (k ∷ ks) = paired_all (paired table k) ks

-- the table tells which two VMs one spread names
pub record Pairs (room : Room) (table : List (List Bool)) : Type 0 where
  pub each : (v w : ℕ) → v < length room.vms → w < length room.vms → get_or (get_or table v []) w false ≡ some (spreads v w) room.constraints

-- ---- who waits, as a mark a VM

-- a constraint holds VM v back at a placement: it has a VM before v that is off its target
unfoldable pub holds_back : Room → Placement → ℕ → Constraint → Bool
holds_back room places v (ban vms nodes) = false
holds_back room places v (fence vms nodes) = false
holds_back room places v (spread vms) = false
holds_back room places v (latency vms groups) = false
holds_back room places v (before first second) = eqb second v && not (at_target room places first)

unfoldable pub held_back : Room → Placement → ℕ → Bool
held_back room places v = some (holds_back room places v) room.constraints

-- the second of two VMs marked, unless the first is on its target; the same of a constraint, and of all
unfoldable pub pair_held : Room → List ℕ → List Bool → ℕ → ℕ → List Bool
pair_held room places marks first second = pick (eqb (get_or places first 0) (vm_of room first).target) marks (set marks second true)

unfoldable pub part_held : Room → List ℕ → List Bool → Constraint → List Bool
part_held room places marks (ban vms nodes) = marks
part_held room places marks (fence vms nodes) = marks
part_held room places marks (spread vms) = marks
part_held room places marks (latency vms groups) = marks
part_held room places marks (before first second) = pair_held room places marks first second

unfoldable pub all_held : Room → List ℕ → List Bool → List Constraint → List Bool
all_held room places marks [] = marks
all_held room places marks (k ∷ ks) = all_held room places (part_held room places marks k) ks

-- the marks tell which VMs are held back at the places of an array
pub record Waiting (room : Room) (places : List ℕ) (marks : List Bool) : Type 0 where
  pub each : (v : ℕ) → v < length room.vms → get_or marks v false ≡ held_back room (held room places) v

-- ---- what a call knows: the tables of a room; at a placement, its marks and its places besides

pub record Tabled (room : Room) (allow pairs : List (List Bool)) : Type 0 where
  pub allowed : Allows room allow
  pub paired : Pairs room pairs

pub record Known (room : Room) (allow pairs : List (List Bool)) (waits : List Bool) (places : List ℕ) : Type 0 where
  pub sound : IsSound room
  pub allowed : Allows room allow
  pub paired : Pairs room pairs
  pub waiting : Waiting room places waits
  pub placed : Placed room places
  pub size : length places ≡ 256

-- ---- a move beside the moves of an array of destinations

-- a tally that a VM can be added to
pub record Light (tally : Tally) : Type 0 where
  pub memory : tally.memory < 2 ^ 40
  pub cpu : tally.cpu < 2 ^ 40

-- VM v may go to d, whose tally with those moves running is given if it is a node
unfoldable pub joins_in : Room → List ℕ → List ℕ → Tally → ℕ → ℕ → Bool
joins_in room places dests here v d =
    not (eqb (get_or places v 0) d) &&
    (allowed room v d &&
    (bears_at room d (with_vm here (vm_of room v)) (vm_of room v) &&
    (not (meets_mate room (busy_from places dests 0 (length room.vms)) v d) && not (held_back room (held room places) v))))

-- ---- pivots

-- the tally of node d with all VMs at rest
pub record Rested (room : Room) (places : List ℕ) (d : ℕ) (here : Tally) : Type 0 where
  pub is : here ≡ tally_at room d (all_running (first_moment room (held room places) []))
  pub light : Light here

-- VM v may go alone to node d, not its target
unfoldable pub aside : Room → Placement → ℕ → ℕ → Bool
aside room places v d = not (eqb d (place_of (target_of room) v)) && sound_step room places (moving v d ∷ [])

-- the first of the nodes where it may
unfoldable pub pivot_node : Room → Placement → ℕ → List ℕ → Option ℕ
pivot_node room places v ds = find (aside room places v) ds

-- VM u, which is not v, has a sound direct move to node p
unfoldable pub comer : Room → Placement → ℕ → ℕ → ℕ → Bool
comer room places v p u = eqb (place_of (target_of room) u) p && (not (eqb u v) && can_go room places u)

-- one of the VMs is such
unfoldable pub comes_to : Room → Placement → ℕ → ℕ → List ℕ → Bool
comes_to room places v p us = some (comer room places v p) us

-- the first of the nodes to which a pivot of VM v is useful
unfoldable pub useful_node : Room → Placement → ℕ → List ℕ → Option ℕ
useful_node room places v ds = find (useful room places v) ds

-- ---- a step as an array of destinations

-- a step without its sources
unfoldable pub bare : Step → Step
bare step = with_sources (λ move. Unnamed) step

-- VM v's move to a destination
unfoldable pub move_in : ℕ → ℕ → Step
move_in v d = pick (eqb d no_move) [] (moving v d ∷ [])

-- the moves of n VMs from v on
unfoldable pub moves_in : List ℕ → ℕ → ℕ → Step
moves_in dests v zero = []
moves_in dests v (suc n) = move_in v (get_or dests v 0) ++ moves_in dests (suc v) n

-- a step as an array, if it has a move
unfoldable pub array_for : Step → Option (List ℕ)
array_for [] = None
array_for (move ∷ moves) = Some (dests_from (move ∷ moves))

-- ---- the steps written

-- the steps of the planner stand in the buffer behind the place of the header, and nothing else has changed
pub record Trailed (room : Room) (old after : List ℕ) (r : Trail) : Type 0 where
  pub buffer : after ≡ written old 7 (steps_bytes (steps_for room))
  pub end : r.end ≡ 7 + length (steps_bytes (steps_for room))
  pub steps : r.steps ≡ length (steps_for room)
  pub moves : r.moves ≡ move_total (steps_for room)
  pub home : r.home ≡ home room (after_all (current_of room) (steps_for room))
  pub tells : all tells_sources (steps_for room) ≡ true
  pub shaped : shaped (steps_for room) ≡ true
  pub steps-most : length (steps_for room) ≤ 511
  pub moves-most : move_total (steps_for room) ≤ 511

-- ---- the answer

-- what a cluster that is not read is refused for
abbrev pub read_refusal : ReadFault → BuildFault
read_refusal ReadFault.Reserve = BuildFault.Reserve
read_refusal (ReadFault.Record fault) = BuildFault.Cluster fault

-- an answer that was found, or the refusal in its place
abbrev pub answered : Result Answer BuildFault → Answer
answered (Ok answer) = answer
answered (Err fault) = Refused fault

-- ---- the number returned

-- an answer's counts and cost have room in it
abbrev pub Packs : Answer → Type 0
Packs (Plan made) = (made.steps < 2 ^ 9) × (made.moves < 2 ^ 9) × (made.cost < 2 ^ 43)
Packs (Blocked made) = (made.steps < 2 ^ 9) × (made.moves < 2 ^ 9) × (made.cost < 2 ^ 43)
Packs (Refused fault) = Unit
