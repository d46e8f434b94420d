-- Dividing every step of a plan into single moves (02, Job 9): the steps that result, their record, and what is refused.
use Rattle.std.specs.Prelude.{ℕ, ◌+◌, ◌*◌, ◌/◌, ◌%◌, ◌^◌, List, [], ◌∷◌, ◌++◌, map, length, ltb, eqb}
use Rattle.records.specs.Base.{pick}
use Rattle.records.specs.Room.{Room, room_at}
use Rattle.records.specs.Plan.{Step, steps_of, most_steps, record_bytes, kept_version, written}
use Rattle.rules.specs.Cost.{cost_of}
use Rattle.rules.specs.Verdict.{verdict_of, fault_number, fault_step}
use Rattle.rules.specs.Returned.{told_outcome}
use Rattle.rules.specs.declared.faults.Verdict.{Verdict}
use Rattle.split.specs.declared.outcome.Divided.{Divided}
use Rattle.split.specs.declared.outcome.SplitFault.{SplitFault}
use Rattle.split.specs.declared.outcome.SplitFault.TheVariants.{Check, Buffer, TooMany}
use Rattle.split.specs.declared.outcome.Outcome.{Outcome}
use Rattle.split.specs.declared.outcome.Outcome.TheVariants.{Done, Refused}

-- ---- the steps

-- a step for each move of a step, in its order. The VMs of an accepted step rise, so that this is by VM number
unfoldable pub singles : Step → List Step
singles step = map (λ move. move ∷ []) step

-- the same of every step, one step behind the other
unfoldable pub all_singles : List Step → List Step
all_singles [] = []
all_singles (step ∷ steps) = singles step ++ all_singles steps

-- their record, in the plan's version
unfoldable pub split_record : List ℕ → List ℕ
split_record plan = record_bytes (kept_version plan) (all_singles (steps_of plan))

-- ---- what is refused

-- the least buffer that is taken, whatever the plan, of 0 bytes too: 7 + 512 × 5 bytes
abbrev pub least_split : ℕ
least_split = 2567

-- what is answered of steps: how many there are, and what they cost
unfoldable pub divided_into : Room → List Step → Divided
divided_into room steps = record { steps = length steps; cost = cost_of room steps }

-- what the checker says of the plan comes first
unfoldable pub on_verdict : Verdict → Outcome → Outcome
on_verdict (Verdict.Accepted cost) rest = rest
on_verdict (Verdict.Refused fault) rest = Refused (Check fault)

-- then 10, the buffer being of a given size, and 14; else the steps are written
unfoldable pub accepted_split : Room → List ℕ → ℕ → Outcome
accepted_split room plan size =
    pick (ltb size least_split) (Refused Buffer)
    (pick (ltb most_steps (length (all_singles (steps_of plan)))) (Refused TooMany)
    (Done (divided_into room (all_singles (steps_of plan)))))

unfoldable pub split_of : ℕ → List ℕ → List ℕ → ℕ → Outcome
split_of reserve cluster plan size = on_verdict (verdict_of reserve cluster plan) (accepted_split (room_at reserve cluster) plan size)

-- what is then in the buffer: on a refusal what was there, else the record at its front and behind it what was there
unfoldable pub buffer_of : Outcome → List ℕ → List ℕ → List ℕ
buffer_of (Refused fault) bytes buffer = buffer
buffer_of (Done divided) bytes buffer = written buffer 0 bytes

-- ---- the number returned

-- the documents' number of each refusal, and the step that goes with it
abbrev pub split_number : SplitFault → ℕ
split_number (Check fault) = fault_number fault
split_number Buffer = 10
split_number TooMany = 14

abbrev pub split_step : SplitFault → ℕ
split_step (Check fault) = fault_step fault
split_step Buffer = 0
split_step TooMany = 0

-- an outcome as one number: the steps from bit 44 on, the cost below; of a refusal bit 63, the number from bit 16, the step below it
abbrev pub packed_split : Outcome → ℕ
packed_split (Done divided) = divided.steps * 2 ^ 44 + divided.cost
packed_split (Refused fault) = 2 ^ 63 + split_number fault * 2 ^ 16 + split_step fault

-- taken apart as the C header does it: the steps have ten bits, 53 to 44, since they may be 512; of a refusal they are 0. The cost stands where `check` and
-- `build` have it (`told_cost`)
unfoldable pub told_singles : ℕ → ℕ
told_singles r = pick (eqb (told_outcome r) 2) 0 (r / 2 ^ 44 % 2 ^ 10)
