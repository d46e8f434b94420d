-- What functions inside the crate answer, on the way to the definitions of Splits. Nothing here has to be believed.
use Rattle.std.specs.Prelude.{ℕ, ◌+◌, ◌*◌, ◌<◌, ◌≤◌, ◌^◌, List, ◌≡◌, length, Result, Ok, Err}
use Rattle.records.specs.Plan.{Step, steps_bytes, most_steps, written}
use Rattle.split.specs.Splits.{split_step}
use Rattle.split.specs.declared.outcome.Divided.{Divided}
use Rattle.split.specs.declared.outcome.SplitFault.{SplitFault}
use Rattle.split.specs.declared.outcome.Outcome.{Outcome}
use Rattle.split.specs.declared.outcome.Outcome.TheVariants.{Done, Refused}

-- an outcome has room in one number
abbrev pub Packs : Outcome → Type 0
Packs (Done divided) = (divided.steps ≤ most_steps) × (divided.cost < 2 ^ 43)
Packs (Refused fault) = split_step fault ≤ 512

-- a division or a fault, as an outcome
abbrev pub as_outcome : Result Divided SplitFault → Outcome
as_outcome (Ok divided) = Done divided
as_outcome (Err fault) = Refused fault

-- steps of one move put into a buffer from a place on, and where the last one ends
pub record PutSteps (steps : List Step) (start : ℕ) (before after : List ℕ) (end : ℕ) : Type 0 where
  pub is : after ≡ written before start (steps_bytes steps)
  pub ends : end ≡ start + length (steps_bytes steps)
  pub low : end ≤ start + length steps * 5
