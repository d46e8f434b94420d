-- The verdict on a plan: the whole checking order, the numbers of the refusals, and the packing (01, "Numbers of the refusals"; 02, Jobs 5, 7 and 13).
use Rattle.std.specs.Prelude.{ℕ, suc, ◌+◌, ◌*◌, ◌^◌, Bool, List, [], ◌∷◌, length, ltb, Result, Ok, Err}
use Rattle.records.specs.Base.{pick, all}
use Rattle.records.specs.Room.{Room, most_reserve, room_at, cluster_check, cluster_number}
use Rattle.records.specs.Plan.{Step, steps_of, plan_check, plan_number}
use Rattle.records.specs.declared.faults.ReadFault.{ReadFault}
use Rattle.rules.specs.Moments.{Placement, current_of, at_target, after}
use Rattle.rules.specs.Rules.{from, target_check, step_check}
use Rattle.rules.specs.Cost.{cost_of}
use Rattle.rules.specs.declared.faults.TargetFault.{TargetFault}
use Rattle.rules.specs.declared.faults.StepFault.{StepFault}
use Rattle.rules.specs.declared.faults.Fault.{Fault}
use Rattle.rules.specs.declared.faults.Fault.TheVariants.{Reserve, Cluster, Target, Plan, Step as AtStep, OffTarget}
use Rattle.rules.specs.declared.faults.Verdict.{Verdict}
use Rattle.rules.specs.declared.faults.Verdict.TheVariants.{Accepted, Refused}

-- every VM is on its target
unfoldable pub home : Room → Placement → Bool
home room places = all (λ v. at_target room places v) (from 0 (length room.vms))

-- what each check says, and what follows if it finds nothing
unfoldable pub on_reserve : ℕ → Verdict → Verdict
on_reserve reserve rest = pick (ltb most_reserve reserve) (Refused Reserve) rest

unfoldable pub on_check : {E : Type 0} → (E → Fault) → Result (Unit {0}) E → Verdict → Verdict
on_check kind (Ok done) rest = rest
on_check kind (Err fault) rest = Refused (kind fault)

-- the steps one by one, `number` being that of the next: the first fault found, then 19, else `good`
unfoldable pub steps_verdict : Room → Verdict → Placement → ℕ → List Step → Verdict
steps_verdict room good places number [] = pick (home room places) good (Refused OffTarget)
steps_verdict room good places number (step ∷ steps) =
    let rest = steps_verdict room good (after places step) (suc number) steps in
    on_check (λ fault. AtStep fault number) (step_check room places step) rest

-- the verdict on steps for a room
unfoldable pub plan_verdict : Room → List Step → Verdict
plan_verdict room steps = steps_verdict room (Accepted (cost_of room steps)) (current_of room) 1 steps

-- the whole checking order at a reserve: 23 (02, Job 5), 1 to 7, 8 and 9, 11 to 14, then the steps
unfoldable pub verdict_of : ℕ → List ℕ → List ℕ → Verdict
verdict_of reserve cluster plan =
    on_reserve reserve
    (on_check Cluster (cluster_check cluster)
    (on_check Target (target_check (room_at reserve cluster))
    (on_check Plan (plan_check plan)
    (plan_verdict (room_at reserve cluster) (steps_of plan)))))

-- the fault that reading a cluster record tells
abbrev pub read_fault : ReadFault → Fault
read_fault ReadFault.Reserve = Reserve
read_fault (ReadFault.Record fault) = Cluster fault

-- the documents' number of each fault, and the step that goes with it (a fault of no step: 0)
abbrev pub target_number : TargetFault → ℕ
target_number TargetFault.Overfull = 8
target_number TargetFault.Broken = 9

abbrev pub step_number : StepFault → ℕ
step_number StepFault.Misnamed = 15
step_number StepFault.Elsewhere = 27
step_number StepFault.Forbidden = 16
step_number StepFault.Misfit = 17
step_number StepFault.Mate = 18
step_number StepFault.Early = 33

abbrev pub fault_number : Fault → ℕ
fault_number Reserve = 23
fault_number (Cluster fault) = cluster_number fault
fault_number (Target fault) = target_number fault
fault_number (Plan fault) = plan_number fault
fault_number (AtStep fault step) = step_number fault
fault_number OffTarget = 19

abbrev pub fault_step : Fault → ℕ
fault_step Reserve = 0
fault_step (Cluster fault) = 0
fault_step (Target fault) = 0
fault_step (Plan fault) = 0
fault_step (AtStep fault step) = step
fault_step OffTarget = 0

-- a verdict as one number: an accepted plan's cost; of a refusal bit 63, the number from bit 16, the step below it
abbrev pub packed : Verdict → ℕ
packed (Accepted cost) = cost
packed (Refused fault) = 2 ^ 63 + fault_number fault * 2 ^ 16 + fault_step fault
