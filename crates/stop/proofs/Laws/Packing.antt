-- Laws on an outcome as one number: taken apart it tells the outcome, and 20, 21 and 22 are the stop's own.
use Prim.Native.Nat.{ℕ, ◌+◌, ◌*◌, ◌≤◌, ◌<◌, ◌^◌}
use mathlib.Core.Logic.{◌⊎◌, inl, inr, ⊎_elim}
use mathlib.Core.Path.{◌≡◌, refl, sym, ap}
use native.Mathlib.Omega.{arith}
use Rattle.records.specs.declared.faults.ClusterFault.{ClusterFault}
use Rattle.records.specs.declared.faults.PlanFault.{PlanFault}
use Rattle.rules.specs.Verdict.{fault_number}
use Rattle.rules.specs.Returned.{SaysGood, SaysRefused}
use Rattle.rules.specs.declared.faults.TargetFault.{TargetFault}
use Rattle.rules.specs.declared.faults.StepFault.{StepFault}
use Rattle.rules.specs.declared.faults.Fault.{Fault}
use Rattle.rules.proofs.Laws.Returned.{refusal-outcome, refusal-number, refusal-step, refusal-cost, made-outcome, made-number, made-step, made-cost, number-most}
use Rattle.stop.specs.Stops.{stop_number, stop_step, packed_stop, told_length}
use Rattle.stop.specs.Promises.{TellsStop}
use Rattle.stop.specs.Inner.{Packs}
use Rattle.stop.specs.declared.outcome.StopFault.{StopFault}
use Rattle.stop.specs.declared.outcome.StopFault.TheVariants.{Check, NoStep, BadMark, Buffer}
use Rattle.stop.specs.declared.outcome.Outcome.{Outcome}
use Rattle.stop.specs.declared.outcome.Outcome.TheVariants.{Done, Refused}

stop-number-most : (f : StopFault) → stop_number f < 256
stop-number-most (Check f) = number-most f
stop-number-most NoStep = omega arith
stop-number-most BadMark = omega arith
stop-number-most Buffer = omega arith

pub tells-stop : (o : Outcome) → Packs o → TellsStop (packed_stop o) o
tells-stop (Done size) h =
    let e : size ≡ 0 * 2 ^ 62 + (0 * 2 ^ 53 + 0 * 2 ^ 44 + size) = omega arith in
    let z : 0 ≤ 1 = omega arith in let y : 0 < 2 ^ 9 = omega arith in let l : size < 2 ^ 43 = omega arith in (
      made-outcome size 0 0 0 size e z y y l,
      made-cost size 0 0 0 size e z y y l,
      made-number size 0 0 0 size e z y y l,
      made-step size 0 0 0 size e z y y l,
    )
tells-stop (Refused f) h =
    let n = stop-number-most f in
    let s : stop_step f < 65536 = omega arith in
    let r : ℕ = packed_stop (Refused f) in (
      (refusal-outcome r (stop_number f) (stop_step f) refl n s, refusal-number r (stop_number f) (stop_step f) refl n s, refusal-step r (stop_number f) (stop_step f) refl n s),
      refusal-cost r (stop_number f) (stop_step f) refl n s,
    )

-- the checker has no number from 20 to 22
checkers : (f : Fault) → (fault_number f ≤ 19) ⊎ (23 ≤ fault_number f)
checkers Fault.Reserve = inr (omega arith)
checkers (Fault.Cluster ClusterFault.TooShort) = inl (omega arith)
checkers (Fault.Cluster ClusterFault.Version) = inl (omega arith)
checkers (Fault.Cluster ClusterFault.Length) = inl (omega arith)
checkers (Fault.Cluster ClusterFault.Counts) = inl (omega arith)
checkers (Fault.Cluster ClusterFault.Fill) = inl (omega arith)
checkers (Fault.Cluster ClusterFault.VmRow) = inl (omega arith)
checkers (Fault.Cluster ClusterFault.Constraint) = inl (omega arith)
checkers (Fault.Target TargetFault.Overfull) = inl (omega arith)
checkers (Fault.Target TargetFault.Broken) = inl (omega arith)
checkers (Fault.Plan PlanFault.TooShort) = inl (omega arith)
checkers (Fault.Plan PlanFault.Version) = inl (omega arith)
checkers (Fault.Plan PlanFault.Length) = inl (omega arith)
checkers (Fault.Plan PlanFault.Shape) = inl (omega arith)
checkers (Fault.Step StepFault.Misnamed s) = inl (omega arith)
checkers (Fault.Step StepFault.Elsewhere s) = inr (omega arith)
checkers (Fault.Step StepFault.Forbidden s) = inl (omega arith)
checkers (Fault.Step StepFault.Misfit s) = inl (omega arith)
checkers (Fault.Step StepFault.Mate s) = inl (omega arith)
checkers (Fault.Step StepFault.Early s) = inr (omega arith)
checkers Fault.OffTarget = inl (omega arith)

-- what a number says is what the outcome is
module _ (r : ℕ) where
  pub says-done : (o : Outcome) → TellsStop r o → SaysGood r → o ≡ Done (told_length r)
  says-done (Done size) t g = ap Done (sym t.1)
  says-done (Refused f) t g = let q = t.0.0 in absurd (omega arith)

  pub done-says : (o : Outcome) (size : ℕ) → TellsStop r o → o ≡ Done size → SaysGood r
  done-says o size t e = let u : TellsStop r (Done size) = rw e at t in u.0

  pub refused_says : (o : Outcome) (f : StopFault) → TellsStop r o → o ≡ Refused f → SaysRefused r (stop_number f) (stop_step f)
  refused_says o f t e = let u : TellsStop r (Refused f) = rw e at t in u.0

  pub says-no-step : (o : Outcome) → TellsStop r o → SaysRefused r 20 0 → o ≡ Refused NoStep
  says-no-step (Done size) t s = let q = t.0 in let p = s.0 in absurd (omega arith)
  says-no-step (Refused (Check f)) t s = let q = t.0.1 in let p = s.1 in absurd (⊎_elim (λ l. omega arith) (λ l. omega arith) (checkers f))
  says-no-step (Refused NoStep) t s = refl
  says-no-step (Refused BadMark) t s = let q = t.0.1 in let p = s.1 in absurd (omega arith)
  says-no-step (Refused Buffer) t s = let q = t.0.1 in let p = s.1 in absurd (omega arith)

  pub says-bad-mark : (o : Outcome) → TellsStop r o → SaysRefused r 21 0 → o ≡ Refused BadMark
  says-bad-mark (Done size) t s = let q = t.0 in let p = s.0 in absurd (omega arith)
  says-bad-mark (Refused (Check f)) t s = let q = t.0.1 in let p = s.1 in absurd (⊎_elim (λ l. omega arith) (λ l. omega arith) (checkers f))
  says-bad-mark (Refused NoStep) t s = let q = t.0.1 in let p = s.1 in absurd (omega arith)
  says-bad-mark (Refused BadMark) t s = refl
  says-bad-mark (Refused Buffer) t s = let q = t.0.1 in let p = s.1 in absurd (omega arith)

  pub says-short : (o : Outcome) → TellsStop r o → SaysRefused r 22 0 → o ≡ Refused Buffer
  says-short (Done size) t s = let q = t.0 in let p = s.0 in absurd (omega arith)
  says-short (Refused (Check f)) t s = let q = t.0.1 in let p = s.1 in absurd (⊎_elim (λ l. omega arith) (λ l. omega arith) (checkers f))
  says-short (Refused NoStep) t s = let q = t.0.1 in let p = s.1 in absurd (omega arith)
  says-short (Refused BadMark) t s = let q = t.0.1 in let p = s.1 in absurd (omega arith)
  says-short (Refused Buffer) t s = refl
