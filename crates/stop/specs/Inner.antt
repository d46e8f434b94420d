-- What functions inside the crate answer, on the way to the definitions of Stops. Nothing here has to be believed.
use Rattle.std.specs.Prelude.{ℕ, ◌-◌, ◌≤◌, not, List, ◌≡◌, length, take, ltb, Option, Some, None, Result, Ok, Err}
use Rattle.records.specs.Base.{pick}
use Rattle.records.specs.Room.{Room, updated}
use Rattle.records.specs.Plan.{Step}
use Rattle.rules.specs.Moments.{current_of, after}
use Rattle.rules.specs.Promises.{after_all}
use Rattle.rules.specs.Inner.{array_of}
use Rattle.stop.specs.Stops.{numbered, ended_moves, marked, marks_ok, buffer_of, stop_step}
use Rattle.stop.specs.declared.outcome.StopFault.{StopFault}
use Rattle.stop.specs.declared.outcome.StopFault.TheVariants.{NoStep, BadMark, Buffer}
use Rattle.stop.specs.declared.outcome.Outcome.{Outcome}
use Rattle.stop.specs.declared.outcome.Outcome.TheVariants.{Done, Refused}

-- an outcome has room in one number
abbrev pub Packs : Outcome → Type 0
Packs (Done size) = size ≤ 65535
Packs (Refused fault) = stop_step fault ≤ 512

-- a length written or a fault, as an outcome
abbrev pub as_outcome : Result ℕ StopFault → Outcome
as_outcome (Ok size) = Done size
as_outcome (Err fault) = Refused fault

-- 20: step n of a plan, if it is one of the plan's and has as many moves as there are marks
unfoldable pub marked_step : List Step → ℕ → List ℕ → Option Step
marked_step steps n marks = pick (marked steps n marks) (Some (numbered steps n)) None

-- the array of places when a plan is stopped in step n
unfoldable pub array_stopped : Room → List Step → ℕ → List ℕ → List ℕ
array_stopped room steps n marks = after (after_all (array_of (current_of room)) (take (n - 1) steps)) (ended_moves (numbered steps n) marks)

-- the same, behind the tests for 20 and 21
unfoldable pub stopped_places : Room → List Step → ℕ → List ℕ → Result (List ℕ) StopFault
stopped_places room steps n marks =
    pick (not (marked steps n marks)) (Err NoStep)
    (pick (not (marks_ok marks)) (Err BadMark)
    (Ok (array_stopped room steps n marks)))

-- the record with its VMs at these places put at the buffer's front, behind the test for 22
pub record Puts (cluster places before after : List ℕ) (r : Result ℕ StopFault) : Type 0 where
  pub is : r ≡ pick (ltb (length before) (length cluster)) (Err Buffer) (Ok (length cluster))
  pub buffer : after ≡ buffer_of (as_outcome r) (updated cluster places) before
