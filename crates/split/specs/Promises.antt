-- What `split` promises of its answer and of the buffer (02, Job 9).
use Rattle.std.specs.Prelude.{ℕ, ◌<◌, ◌≤◌, true, List, [], ◌↔◌, ◌⊎◌, ◌≡◌, length, eqb}
use Rattle.records.specs.Base.{all}
use Rattle.records.specs.Bytes.{version_of}
use Rattle.records.specs.Room.{rises, room_at}
use Rattle.records.specs.Plan.{move_total, steps_of, most_steps, header_bytes, kept_version, front_of}
use Rattle.records.specs.declared.faults.PlanFault.{PlanFault}
use Rattle.rules.specs.Cost.{cost_of}
use Rattle.rules.specs.Verdict.{verdict_of, packed}
use Rattle.rules.specs.Returned.{told_number, told_step, told_cost, SaysGood, SaysRefused}
use Rattle.rules.specs.Divides.{vms_in, Divides}
use Rattle.rules.specs.Promises.{Accepts}
use Rattle.rules.specs.declared.faults.Fault.{Fault}
use Rattle.rules.specs.declared.faults.Verdict.{Verdict}
use Rattle.split.specs.Splits.{all_singles, split_record, least_split, split_of, buffer_of, split_number, split_step, packed_split, told_singles}
use Rattle.split.specs.declared.outcome.Divided.{Divided}
use Rattle.split.specs.declared.outcome.Outcome.{Outcome}
use Rattle.split.specs.declared.outcome.Outcome.TheVariants.{Done, Refused}

-- ---- the record written

-- what holds of the bytes that a split of an accepted plan writes, of so many steps and at a cost
pub record SplitWell (reserve : ℕ) (cluster plan bytes : List ℕ) (divided : Divided) : Type 0 where
  pub is : bytes ≡ split_record plan
  -- its steps are the plan's, divided (`Divides`), each into single moves, by VM number: in the order of the step, in which the VMs rise
  pub steps : steps_of bytes ≡ all_singles (steps_of plan)
  pub divides : Divides (steps_of plan) (steps_of bytes)
  pub single : all (λ step. eqb (length step) 1) (steps_of bytes) ≡ true
  pub rising : all (λ step. rises (vms_in step)) (steps_of plan) ≡ true
  -- the version is the plan's; 0 bytes become a version 2 header
  pub version : version_of bytes ≡ kept_version plan
  pub empty : plan ≡ [] → bytes ≡ header_bytes 2 7 0
  -- the checker accepts it at the cost given, which is at least the plan's: by what `check` promises of any divided plan (`Checked`: `divided`)
  pub accepted : verdict_of reserve cluster bytes ≡ Verdict.Accepted divided.cost
  pub no-cheaper : (cost : ℕ) → verdict_of reserve cluster plan ≡ Verdict.Accepted cost → cost ≤ divided.cost
  -- the counts given are its own: as many steps as the plan has moves
  pub count : length (steps_of bytes) ≡ divided.steps
  pub moves : move_total (steps_of plan) ≡ divided.steps
  pub most : divided.steps ≤ most_steps
  pub cost : cost_of (room_at reserve cluster) (steps_of bytes) ≡ divided.cost
  -- it fits the least buffer
  pub small : length bytes ≤ least_split

-- ---- the answer

-- the steps and the cost that a returned number tells
abbrev pub told_divided : ℕ → Divided
told_divided r = record { steps = told_singles r; cost = told_cost r }

-- a number tells an outcome: taken apart it says good with steps and cost, or refused with the documents' number and step; what does not apply reads 0
abbrev pub TellsSplit : ℕ → Outcome → Type 0
TellsSplit r (Done divided) = SaysGood r × (told_singles r ≡ divided.steps) × (told_cost r ≡ divided.cost) × (told_number r ≡ 0) × (told_step r ≡ 0)
TellsSplit r (Refused fault) = SaysRefused r (split_number fault) (split_step fault) × (told_singles r ≡ 0) × (told_cost r ≡ 0)

-- an outcome is the one defined, and the buffer the one that goes with it
pub record Splits (reserve : ℕ) (cluster plan before after : List ℕ) (r : Outcome) : Type 0 where
  pub is : r ≡ split_of reserve cluster plan (length before)
  pub buffer : after ≡ buffer_of r (split_record plan) before

-- ---- the promises

-- a field each, on any reserve and bytes, and the number returned
pub record Split (reserve : ℕ) (cluster plan before after : List ℕ) (r : ℕ) : Type 0 where
  -- it is the outcome's, and tells it
  pub is : r ≡ packed_split (split_of reserve cluster plan (length before))
  pub told : TellsSplit r (split_of reserve cluster plan (length before))
  -- every byte of the buffer is as defined
  pub buffer : after ≡ buffer_of (split_of reserve cluster plan (length before)) (split_record plan) before
  -- what the checker refuses is refused with the very number that `check` returns
  pub checked : (fault : Fault) → verdict_of reserve cluster plan ≡ Verdict.Refused fault → r ≡ packed (verdict_of reserve cluster plan)
  -- of an accepted plan: 10, then 14, else it is done. The checker's own 14, of a damaged plan, comes before 10
  pub short : SaysRefused r 10 0 ↔ (Accepts reserve cluster plan × (length before < least_split))
  pub many : SaysRefused r 14 0 ↔
      ((verdict_of reserve cluster plan ≡ Verdict.Refused (Fault.Plan PlanFault.Shape)) ⊎
      (Accepts reserve cluster plan × (least_split ≤ length before) × (most_steps < move_total (steps_of plan))))
  pub done : SaysGood r ↔ (Accepts reserve cluster plan × (least_split ≤ length before) × (move_total (steps_of plan) ≤ most_steps))
  -- the record at the buffer's front, as long as it says it is
  pub written : SaysGood r → SplitWell reserve cluster plan (front_of after) (told_divided r)
