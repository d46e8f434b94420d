-- Laws on the number returned: what packing puts together, taking apart gives back, and each number stands for one fault.
use Prim.Native.Nat.{ℕ, ◌+◌, ◌*◌, ◌≤◌, ◌<◌, ◌^◌}
use mathlib.Core.Bool.{false}
use mathlib.Core.Logic.{◌↔◌}
use mathlib.Core.Path.{◌≡◌, refl, sym, ap₂, ap, ◌∙◌}
use native.Mathlib.Omega.{arith}
use lib.Dec.{eqb}
use borrow.Author.Tests.{eq-eqb, ne_eqb}
use Rattle.records.specs.Base.{pick}
use Rattle.records.specs.declared.faults.ClusterFault.{ClusterFault}
use Rattle.records.specs.declared.faults.PlanFault.{PlanFault}
use Rattle.rules.specs.Verdict.{fault_number, fault_step, packed}
use Rattle.rules.specs.Returned.{told_outcome, told_number, told_step, told_steps, told_moves, told_cost, SaysGood, SaysRefused}
use Rattle.rules.specs.Promises.{TellsVerdict}
use Rattle.rules.specs.declared.faults.TargetFault.{TargetFault}
use Rattle.rules.specs.declared.faults.StepFault.{StepFault}
use Rattle.rules.specs.declared.faults.Fault.{Fault}
use Rattle.rules.specs.declared.faults.Verdict.{Verdict}

-- ---- a refusal

module _ (r n s : ℕ) (e : r ≡ 2 ^ 63 + n * 2 ^ 16 + s) (h : n < 256) (k : s < 65536) where
  pub refusal-outcome : told_outcome r ≡ 2
  unfolding told_outcome
  refusal-outcome = omega arith

  pub refusal-number : told_number r ≡ n
  unfolding told_number
  refusal-number = rw (eq-eqb (told_outcome r) 2 refusal-outcome) (omega arith)

  pub refusal-step : told_step r ≡ s
  unfolding told_step
  refusal-step = rw (eq-eqb (told_outcome r) 2 refusal-outcome) (omega arith)

  pub refusal-steps : told_steps r ≡ 0
  unfolding told_steps
  refusal-steps = rw (eq-eqb (told_outcome r) 2 refusal-outcome)

  pub refusal-moves : told_moves r ≡ 0
  unfolding told_moves
  refusal-moves = rw (eq-eqb (told_outcome r) 2 refusal-outcome)

  pub refusal-cost : told_cost r ≡ 0
  unfolding told_cost
  refusal-cost = rw (eq-eqb (told_outcome r) 2 refusal-outcome)

-- ---- anything else: b is 1 if blocked

module _ (r b steps moves cost : ℕ) (e : r ≡ b * 2 ^ 62 + (steps * 2 ^ 53 + moves * 2 ^ 44 + cost)) (o : b ≤ 1) (h : steps < 2 ^ 9) (k : moves < 2 ^ 9)
    (l : cost < 2 ^ 43) where
  pub made-outcome : told_outcome r ≡ b
  unfolding told_outcome
  made-outcome = omega arith

  not-refused : eqb (told_outcome r) 2 ≡ false
  not-refused = ne_eqb (told_outcome r) 2 (λ q. let m = made-outcome in omega arith)

  pub made-number : told_number r ≡ 0
  unfolding told_number
  made-number = rw not-refused

  pub made-step : told_step r ≡ 0
  unfolding told_step
  made-step = rw not-refused

  pub made-steps : told_steps r ≡ steps
  unfolding told_steps
  made-steps = rw not-refused (omega arith)

  pub made-moves : told_moves r ≡ moves
  unfolding told_moves
  made-moves = rw not-refused (omega arith)

  pub made-cost : told_cost r ≡ cost
  unfolding told_cost
  made-cost = rw not-refused (omega arith)

-- ---- a verdict

-- a number is below 256
pub number-most : (f : Fault) → fault_number f < 256
number-most Fault.Reserve = omega arith
number-most (Fault.Cluster ClusterFault.TooShort) = omega arith
number-most (Fault.Cluster ClusterFault.Version) = omega arith
number-most (Fault.Cluster ClusterFault.Length) = omega arith
number-most (Fault.Cluster ClusterFault.Counts) = omega arith
number-most (Fault.Cluster ClusterFault.Fill) = omega arith
number-most (Fault.Cluster ClusterFault.VmRow) = omega arith
number-most (Fault.Cluster ClusterFault.Constraint) = omega arith
number-most (Fault.Target TargetFault.Overfull) = omega arith
number-most (Fault.Target TargetFault.Broken) = omega arith
number-most (Fault.Plan PlanFault.TooShort) = omega arith
number-most (Fault.Plan PlanFault.Version) = omega arith
number-most (Fault.Plan PlanFault.Length) = omega arith
number-most (Fault.Plan PlanFault.Shape) = omega arith
number-most (Fault.Step StepFault.Misnamed s) = omega arith
number-most (Fault.Step StepFault.Elsewhere s) = omega arith
number-most (Fault.Step StepFault.Forbidden s) = omega arith
number-most (Fault.Step StepFault.Misfit s) = omega arith
number-most (Fault.Step StepFault.Mate s) = omega arith
number-most (Fault.Step StepFault.Early s) = omega arith
number-most Fault.OffTarget = omega arith

pub tells-accepted : (cost : ℕ) → cost < 2 ^ 43 → TellsVerdict (packed (Verdict.Accepted cost)) (Verdict.Accepted cost)
tells-accepted cost h =
    let e : cost ≡ 0 * 2 ^ 62 + (0 * 2 ^ 53 + 0 * 2 ^ 44 + cost) = omega arith in
    let z : 0 ≤ 1 = omega arith in let y : 0 < 2 ^ 9 = omega arith in (
      made-outcome cost 0 0 0 cost e z y y h,
      made-cost cost 0 0 0 cost e z y y h,
      made-number cost 0 0 0 cost e z y y h,
      made-step cost 0 0 0 cost e z y y h,
    )

pub tells-refused : (f : Fault) → fault_step f ≤ 512 → TellsVerdict (packed (Verdict.Refused f)) (Verdict.Refused f)
tells-refused f h =
    let n = number-most f in
    let s : fault_step f < 65536 = omega arith in
    let r : ℕ = packed (Verdict.Refused f) in (
      (refusal-outcome r (fault_number f) (fault_step f) refl n s, refusal-number r (fault_number f) (fault_step f) refl n s, refusal-step r (fault_number f) (fault_step f) refl n s),
      refusal-cost r (fault_number f) (fault_step f) refl n s,
    )

-- the fault that a number and a step stand for
unfoldable pub fault_from : ℕ → ℕ → Fault
fault_from n s =
    pick (eqb n 1) (Fault.Cluster ClusterFault.TooShort)
    (pick (eqb n 2) (Fault.Cluster ClusterFault.Version)
    (pick (eqb n 3) (Fault.Cluster ClusterFault.Length)
    (pick (eqb n 4) (Fault.Cluster ClusterFault.Counts)
    (pick (eqb n 5) (Fault.Cluster ClusterFault.Fill)
    (pick (eqb n 6) (Fault.Cluster ClusterFault.VmRow)
    (pick (eqb n 7) (Fault.Cluster ClusterFault.Constraint)
    (pick (eqb n 8) (Fault.Target TargetFault.Overfull)
    (pick (eqb n 9) (Fault.Target TargetFault.Broken)
    (pick (eqb n 11) (Fault.Plan PlanFault.TooShort)
    (pick (eqb n 12) (Fault.Plan PlanFault.Version)
    (pick (eqb n 13) (Fault.Plan PlanFault.Length)
    (pick (eqb n 14) (Fault.Plan PlanFault.Shape)
    (pick (eqb n 15) (Fault.Step StepFault.Misnamed s)
    (pick (eqb n 16) (Fault.Step StepFault.Forbidden s)
    (pick (eqb n 17) (Fault.Step StepFault.Misfit s)
    (pick (eqb n 18) (Fault.Step StepFault.Mate s)
    (pick (eqb n 23) Fault.Reserve
    (pick (eqb n 27) (Fault.Step StepFault.Elsewhere s)
    (pick (eqb n 33) (Fault.Step StepFault.Early s)
    Fault.OffTarget)))))))))))))))))))

fault-from : (f : Fault) → fault_from (fault_number f) (fault_step f) ≡ f
unfolding fault_from
fault-from Fault.Reserve = refl
fault-from (Fault.Cluster ClusterFault.TooShort) = refl
fault-from (Fault.Cluster ClusterFault.Version) = refl
fault-from (Fault.Cluster ClusterFault.Length) = refl
fault-from (Fault.Cluster ClusterFault.Counts) = refl
fault-from (Fault.Cluster ClusterFault.Fill) = refl
fault-from (Fault.Cluster ClusterFault.VmRow) = refl
fault-from (Fault.Cluster ClusterFault.Constraint) = refl
fault-from (Fault.Target TargetFault.Overfull) = refl
fault-from (Fault.Target TargetFault.Broken) = refl
fault-from (Fault.Plan PlanFault.TooShort) = refl
fault-from (Fault.Plan PlanFault.Version) = refl
fault-from (Fault.Plan PlanFault.Length) = refl
fault-from (Fault.Plan PlanFault.Shape) = refl
fault-from (Fault.Step StepFault.Misnamed s) = refl
fault-from (Fault.Step StepFault.Elsewhere s) = refl
fault-from (Fault.Step StepFault.Forbidden s) = refl
fault-from (Fault.Step StepFault.Misfit s) = refl
fault-from (Fault.Step StepFault.Mate s) = refl
fault-from (Fault.Step StepFault.Early s) = refl
fault-from Fault.OffTarget = refl

-- so two faults with one number and one step are one
pub fault-same : (f g : Fault) → fault_number f ≡ fault_number g → fault_step f ≡ fault_step g → f ≡ g
fault-same f g n s = sym (fault-from f) ∙ ap₂ fault_from n s ∙ fault-from g

-- what a number says is what the verdict is
pub says-accepted : (r : ℕ) (v : Verdict) → TellsVerdict r v → SaysGood r → v ≡ Verdict.Accepted (told_cost r)
says-accepted r (Verdict.Accepted cost) t g = ap Verdict.Accepted (sym t.1)
says-accepted r (Verdict.Refused fault) t g = let q = t.0.0 in absurd (omega arith)

pub accepted-says : (r : ℕ) (v : Verdict) (cost : ℕ) → TellsVerdict r v → v ≡ Verdict.Accepted cost → SaysGood r
accepted-says r v cost t e = let u : TellsVerdict r (Verdict.Accepted cost) = rw e at t in u.0

pub says-refused : (r : ℕ) (v : Verdict) (f : Fault) → TellsVerdict r v → SaysRefused r (fault_number f) (fault_step f) ↔ (v ≡ Verdict.Refused f)
says-refused r v f t = (told v t, λ e. let u : TellsVerdict r (Verdict.Refused f) = rw e at t in u.0)
  where
    told : (v : Verdict) → TellsVerdict r v → SaysRefused r (fault_number f) (fault_step f) → v ≡ Verdict.Refused f
    told (Verdict.Accepted cost) t s = let q = t.0 in let p = s.0 in absurd (omega arith)
    told (Verdict.Refused fault) t s = ap Verdict.Refused (fault-same fault f (sym t.0.1 ∙ s.1) (sym t.0.2 ∙ s.2))
