-- Stopping a plan in the middle (02, Job 1): where the VMs then are, the record that says so, and what is refused.
use Rattle.std.specs.Prelude.{ℕ, ◌+◌, ◌-◌, ◌*◌, ◌^◌, Bool, not, ◌&&◌, List, [], ◌∷◌, length, get_or, take, ltb, leb, eqb}
use Rattle.records.specs.Base.{pick, all}
use Rattle.records.specs.Room.{Room, room_of, updated}
use Rattle.records.specs.Plan.{Step, steps_of, written}
use Rattle.rules.specs.Moments.{Placement, current_of, after}
use Rattle.rules.specs.Verdict.{verdict_of, fault_number, fault_step}
use Rattle.rules.specs.Returned.{told_cost}
use Rattle.rules.specs.Promises.{after_all}
use Rattle.rules.specs.declared.faults.Verdict.{Verdict}
use Rattle.stop.specs.declared.outcome.StopFault.{StopFault}
use Rattle.stop.specs.declared.outcome.StopFault.TheVariants.{Check, NoStep, BadMark, Buffer}
use Rattle.stop.specs.declared.outcome.Outcome.{Outcome}
use Rattle.stop.specs.declared.outcome.Outcome.TheVariants.{Done, Refused}

-- ---- where the VMs are

-- step n of a plan, counted from 1 (that it is one of the plan's is asked by 20)
unfoldable pub numbered : List Step → ℕ → Step
numbered steps n = get_or steps (n - 1) []

-- a mark for each move of a step, in the plan's order: 1 if the move has ended, 0 if its VM stayed (it had not begun, or was called back).
-- The moves marked 1:
unfoldable pub ended_moves : Step → List ℕ → Step
ended_moves [] marks = []
ended_moves (move ∷ moves) [] = []
ended_moves (move ∷ moves) (mark ∷ marks) = pick (eqb mark 1) (move ∷ ended_moves moves marks) (ended_moves moves marks)

-- where the VMs are when a plan is stopped in step n: where the steps before it leave them, but for the moves that have ended, whose VMs are on
-- their destinations
unfoldable pub stopped_at : Room → List Step → ℕ → List ℕ → Placement
stopped_at room steps n marks = after (after_all (current_of room) (take (n - 1) steps)) (ended_moves (numbered steps n) marks)

-- the cluster record with these places as the current ones; no other byte differs
unfoldable pub stopped_record : List ℕ → List ℕ → ℕ → List ℕ → List ℕ
stopped_record cluster plan n marks = updated cluster (stopped_at (room_of cluster) (steps_of plan) n marks)

-- ---- what is refused

-- 20: the step is one of the plan's, and there are as many marks as it has moves
unfoldable pub marked : List Step → ℕ → List ℕ → Bool
marked steps n marks = leb 1 n && (leb n (length steps) && eqb (length marks) (length (numbered steps n)))

-- 21: no mark exceeds 1
unfoldable pub marks_ok : List ℕ → Bool
marks_ok marks = all (λ mark. leb mark 1) marks

-- what the checker says of the plan comes first
unfoldable pub on_verdict : Verdict → Outcome → Outcome
on_verdict (Verdict.Accepted cost) rest = rest
on_verdict (Verdict.Refused fault) rest = Refused (Check fault)

-- then 20, 21 and 22, the buffer being of a given size; else as many bytes are written as the record has
unfoldable pub accepted_stop : List ℕ → List ℕ → ℕ → List ℕ → ℕ → Outcome
accepted_stop cluster plan n marks size =
    pick (not (marked (steps_of plan) n marks)) (Refused NoStep)
    (pick (not (marks_ok marks)) (Refused BadMark)
    (pick (ltb size (length cluster)) (Refused Buffer)
    (Done (length cluster))))

unfoldable pub stop_of : ℕ → List ℕ → List ℕ → ℕ → List ℕ → ℕ → Outcome
stop_of reserve cluster plan n marks size = on_verdict (verdict_of reserve cluster plan) (accepted_stop cluster plan n marks size)

-- what is then in the buffer: on a refusal what was there, else the record at its front and behind it what was there
unfoldable pub buffer_of : Outcome → List ℕ → List ℕ → List ℕ
buffer_of (Refused fault) bytes buffer = buffer
buffer_of (Done size) bytes buffer = written buffer 0 bytes

-- ---- the number returned

-- the documents' number of each refusal, and the step that goes with it
abbrev pub stop_number : StopFault → ℕ
stop_number (Check fault) = fault_number fault
stop_number NoStep = 20
stop_number BadMark = 21
stop_number Buffer = 22

abbrev pub stop_step : StopFault → ℕ
stop_step (Check fault) = fault_step fault
stop_step NoStep = 0
stop_step BadMark = 0
stop_step Buffer = 0

-- an outcome as one number: the length written; of a refusal bit 63, the number from bit 16, the step below it
abbrev pub packed_stop : Outcome → ℕ
packed_stop (Done size) = size
packed_stop (Refused fault) = 2 ^ 63 + stop_number fault * 2 ^ 16 + stop_step fault

-- taken apart as the C header does it: the length stands where other calls have a cost, in bits 43 to 0; of a refusal it is 0
abbrev pub told_length : ℕ → ℕ
told_length r = told_cost r
