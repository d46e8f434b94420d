-- Laws on an outcome as one number: taken apart it tells the outcome. 10 is the split's own; 14 may be the checker's.
use Prim.Native.Nat.{ℕ, ◌+◌, ◌*◌, ◌/◌, ◌%◌, ◌≤◌, ◌<◌, ◌^◌}
use mathlib.Core.Logic.{◌⊎◌, inl, inr}
use mathlib.Core.Path.{◌≡◌, refl, sym, ap}
use native.Mathlib.Omega.{arith}
use borrow.Author.Tests.{eq-eqb, ne_eqb}
use Rattle.records.specs.Plan.{most_steps}
use Rattle.records.specs.declared.faults.PlanFault.{PlanFault}
use Rattle.records.specs.declared.faults.ClusterFault.{ClusterFault}
use Rattle.rules.specs.Verdict.{fault_number}
use Rattle.rules.specs.Returned.{told_outcome, SaysGood, SaysRefused}
use Rattle.rules.specs.declared.faults.TargetFault.{TargetFault}
use Rattle.rules.specs.declared.faults.StepFault.{StepFault}
use Rattle.rules.specs.declared.faults.Fault.{Fault}
use Rattle.rules.proofs.Laws.Returned.{refusal-outcome, refusal-number, refusal-step, refusal-cost, made-outcome, made-number, made-step, made-cost, number-most, fault-same}
use Rattle.split.specs.Splits.{split_number, split_step, packed_split, told_singles}
use Rattle.split.specs.Promises.{told_divided, TellsSplit}
use Rattle.split.specs.Inner.{Packs}
use Rattle.split.specs.declared.outcome.Divided.{Divided}
use Rattle.split.specs.declared.outcome.SplitFault.{SplitFault}
use Rattle.split.specs.declared.outcome.SplitFault.TheVariants.{Check, Buffer, TooMany}
use Rattle.split.specs.declared.outcome.Outcome.{Outcome}
use Rattle.split.specs.declared.outcome.Outcome.TheVariants.{Done, Refused}

split-number-most : (f : SplitFault) → split_number f < 256
split-number-most (Check f) = number-most f
split-number-most Buffer = omega arith
split-number-most TooMany = omega arith

singles-told : (r steps cost : ℕ) → r ≡ steps * 2 ^ 44 + cost → told_outcome r ≡ 0 → steps ≤ most_steps → cost < 2 ^ 43 → told_singles r ≡ steps
unfolding told_singles
singles-told r steps cost e o s c = let n : told_outcome r ≡ 2 → ⊥ = λ q. omega arith in rw (ne_eqb (told_outcome r) 2 n) (omega arith)

none_told : (r : ℕ) → told_outcome r ≡ 2 → told_singles r ≡ 0
unfolding told_singles
none_told r o = rw (eq-eqb (told_outcome r) 2 o)

-- 512 steps stand in the lowest bit of the steps of `build`
pub tells-split : (o : Outcome) → Packs o → TellsSplit (packed_split o) o
tells-split (Done d) p =
    let h = p.0 in let l = p.1 in
    let r : ℕ = packed_split (Done d) in
    let e : packed_split (Done d) ≡ 0 * 2 ^ 62 + (d.steps / 512 * 2 ^ 53 + d.steps % 512 * 2 ^ 44 + d.cost) = omega arith in
    let z : 0 ≤ 1 = omega arith in let x : d.steps / 512 < 2 ^ 9 = omega arith in let y : d.steps % 512 < 2 ^ 9 = omega arith in
    let o = made-outcome r 0 (d.steps / 512) (d.steps % 512) d.cost e z x y l in (
      o,
      singles-told r d.steps d.cost refl o h l,
      made-cost r 0 (d.steps / 512) (d.steps % 512) d.cost e z x y l,
      made-number r 0 (d.steps / 512) (d.steps % 512) d.cost e z x y l,
      made-step r 0 (d.steps / 512) (d.steps % 512) d.cost e z x y l,
    )
tells-split (Refused f) p =
    let n = split-number-most f in
    let s : split_step f < 65536 = omega arith in
    let r : ℕ = packed_split (Refused f) in
    let o = refusal-outcome r (split_number f) (split_step f) refl n s in (
      (o, refusal-number r (split_number f) (split_step f) refl n s, refusal-step r (split_number f) (split_step f) refl n s),
      none_told r o,
      refusal-cost r (split_number f) (split_step f) refl n s,
    )

-- the checker has no number 10
not-ten : (f : Fault) → fault_number f ≡ 10 → ⊥
not-ten Fault.Reserve e = omega arith
not-ten (Fault.Cluster ClusterFault.TooShort) e = omega arith
not-ten (Fault.Cluster ClusterFault.Version) e = omega arith
not-ten (Fault.Cluster ClusterFault.Length) e = omega arith
not-ten (Fault.Cluster ClusterFault.Counts) e = omega arith
not-ten (Fault.Cluster ClusterFault.Fill) e = omega arith
not-ten (Fault.Cluster ClusterFault.VmRow) e = omega arith
not-ten (Fault.Cluster ClusterFault.Constraint) e = omega arith
not-ten (Fault.Target TargetFault.Overfull) e = omega arith
not-ten (Fault.Target TargetFault.Broken) e = omega arith
not-ten (Fault.Plan PlanFault.TooShort) e = omega arith
not-ten (Fault.Plan PlanFault.Version) e = omega arith
not-ten (Fault.Plan PlanFault.Length) e = omega arith
not-ten (Fault.Plan PlanFault.Shape) e = omega arith
not-ten (Fault.Step StepFault.Misnamed s) e = omega arith
not-ten (Fault.Step StepFault.Elsewhere s) e = omega arith
not-ten (Fault.Step StepFault.Forbidden s) e = omega arith
not-ten (Fault.Step StepFault.Misfit s) e = omega arith
not-ten (Fault.Step StepFault.Mate s) e = omega arith
not-ten (Fault.Step StepFault.Early s) e = omega arith
not-ten Fault.OffTarget e = omega arith

-- what a number says is what the outcome is
module _ (r : ℕ) where
  pub says-done : (o : Outcome) → TellsSplit r o → SaysGood r → o ≡ Done (told_divided r)
  says-done (Done d) t g = ap Done (λ i. record { steps = sym t.1 i; cost = sym t.2 i })
  says-done (Refused f) t g = let q = t.0.0 in absurd (omega arith)

  pub done-says : (o : Outcome) (d : Divided) → TellsSplit r o → o ≡ Done d → SaysGood r
  done-says o d t e = let u : TellsSplit r (Done d) = rw e at t in u.0

  pub refused_says : (o : Outcome) (f : SplitFault) → TellsSplit r o → o ≡ Refused f → SaysRefused r (split_number f) (split_step f)
  refused_says o f t e = let u : TellsSplit r (Refused f) = rw e at t in u.0

  pub says-short : (o : Outcome) → TellsSplit r o → SaysRefused r 10 0 → o ≡ Refused Buffer
  says-short (Done d) t s = let q = t.0 in let p = s.0 in absurd (omega arith)
  says-short (Refused (Check f)) t s = let q = t.0.1 in let p = s.1 in absurd (not-ten f (omega arith))
  says-short (Refused Buffer) t s = refl
  says-short (Refused TooMany) t s = let q = t.0.1 in let p = s.1 in absurd (omega arith)

  pub says-many : (o : Outcome) → TellsSplit r o → SaysRefused r 14 0 → (o ≡ Refused (Check (Fault.Plan PlanFault.Shape))) ⊎ (o ≡ Refused TooMany)
  says-many (Done d) t s = let q = t.0 in let p = s.0 in absurd (omega arith)
  says-many (Refused (Check f)) t s =
      let n = t.0.1 in let k = t.0.2 in let p = s.1 in let l = s.2 in
      inl (ap (λ (g : Fault). Refused (Check g)) (fault-same f (Fault.Plan PlanFault.Shape) (omega arith) (omega arith)))
  says-many (Refused Buffer) t s = let q = t.0.1 in let p = s.1 in absurd (omega arith)
  says-many (Refused TooMany) t s = inr refl
