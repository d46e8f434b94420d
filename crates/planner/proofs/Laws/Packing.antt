-- Laws on an answer as one number.
use Prim.Native.Nat.{ℕ, ◌+◌, ◌*◌, ◌≤◌, ◌<◌, ◌^◌}
use mathlib.Core.Path.{◌≡◌, sym, ap}
use native.Mathlib.Omega.{arith}
use Rattle.records.specs.declared.faults.ClusterFault.{ClusterFault}
use Rattle.rules.specs.Returned.{SaysGood, SaysBlocked}
use Rattle.rules.specs.declared.faults.TargetFault.{TargetFault}
use Rattle.rules.proofs.Laws.Returned.{refusal-outcome, refusal-number, refusal-step, refusal-steps, refusal-moves, refusal-cost, made-outcome, made-number, made-step, made-steps, made-moves, made-cost}
use Rattle.planner.specs.Answer.{build_number, packed_made, packed_answer}
use Rattle.planner.specs.Promises.{told_made, TellsAnswer}
use Rattle.planner.specs.Inner.{Packs}
use Rattle.planner.specs.declared.answer.Made.{Made}
use Rattle.planner.specs.declared.answer.BuildFault.{BuildFault}
use Rattle.planner.specs.declared.answer.Answer.{Answer}
use Rattle.planner.specs.declared.answer.Answer.TheVariants.{Plan, Blocked, Refused}

-- ---- taking it apart

number-most : (f : BuildFault) → build_number f < 256
number-most BuildFault.Reserve = omega arith
number-most (BuildFault.Cluster ClusterFault.TooShort) = omega arith
number-most (BuildFault.Cluster ClusterFault.Version) = omega arith
number-most (BuildFault.Cluster ClusterFault.Length) = omega arith
number-most (BuildFault.Cluster ClusterFault.Counts) = omega arith
number-most (BuildFault.Cluster ClusterFault.Fill) = omega arith
number-most (BuildFault.Cluster ClusterFault.VmRow) = omega arith
number-most (BuildFault.Cluster ClusterFault.Constraint) = omega arith
number-most (BuildFault.Target TargetFault.Overfull) = omega arith
number-most (BuildFault.Target TargetFault.Broken) = omega arith
number-most BuildFault.Buffer = omega arith

pub tells-answer : (a : Answer) → Packs a → TellsAnswer (packed_answer a) a
tells-answer (Plan m) p =
    let r : ℕ = packed_made m in
    let e : packed_made m ≡ 0 * 2 ^ 62 + (m.steps * 2 ^ 53 + m.moves * 2 ^ 44 + m.cost) = omega arith in
    let z : 0 ≤ 1 = omega arith in (
      made-outcome r 0 m.steps m.moves m.cost e z p.0 p.1 p.2,
      (
        made-steps r 0 m.steps m.moves m.cost e z p.0 p.1 p.2,
        made-moves r 0 m.steps m.moves m.cost e z p.0 p.1 p.2,
        made-cost r 0 m.steps m.moves m.cost e z p.0 p.1 p.2,
      ),
      made-number r 0 m.steps m.moves m.cost e z p.0 p.1 p.2,
      made-step r 0 m.steps m.moves m.cost e z p.0 p.1 p.2,
    )
tells-answer (Blocked m) p =
    let r : ℕ = 2 ^ 62 + packed_made m in
    let e : 2 ^ 62 + packed_made m ≡ 1 * 2 ^ 62 + (m.steps * 2 ^ 53 + m.moves * 2 ^ 44 + m.cost) = omega arith in
    let z : 1 ≤ 1 = omega arith in (
      made-outcome r 1 m.steps m.moves m.cost e z p.0 p.1 p.2,
      (
        made-steps r 1 m.steps m.moves m.cost e z p.0 p.1 p.2,
        made-moves r 1 m.steps m.moves m.cost e z p.0 p.1 p.2,
        made-cost r 1 m.steps m.moves m.cost e z p.0 p.1 p.2,
      ),
      made-number r 1 m.steps m.moves m.cost e z p.0 p.1 p.2,
      made-step r 1 m.steps m.moves m.cost e z p.0 p.1 p.2,
    )
tells-answer (Refused f) p =
    let r : ℕ = packed_answer (Refused f) in
    let e : 2 ^ 63 + build_number f * 2 ^ 16 ≡ 2 ^ 63 + build_number f * 2 ^ 16 + 0 = omega arith in
    let n = number-most f in
    let z : 0 < 65536 = omega arith in (
      (refusal-outcome r (build_number f) 0 e n z, refusal-number r (build_number f) 0 e n z, refusal-step r (build_number f) 0 e n z),
      refusal-steps r (build_number f) 0 e n z,
      refusal-moves r (build_number f) 0 e n z,
      refusal-cost r (build_number f) 0 e n z,
    )

-- what a number says is what the answer is
pub says-plan : (r : ℕ) (a : Answer) → TellsAnswer r a → SaysGood r → a ≡ Plan (told_made r)
says-plan r (Plan m) t g = ap Plan (λ i. record { steps = sym t.1.0 i; moves = sym t.1.1 i; cost = sym t.1.2 i })
says-plan r (Blocked m) t g = let q = t.0 in absurd (omega arith)
says-plan r (Refused f) t g = let q = t.0.0 in absurd (omega arith)

pub says-blocked : (r : ℕ) (a : Answer) → TellsAnswer r a → SaysBlocked r → a ≡ Blocked (told_made r)
says-blocked r (Plan m) t g = let q = t.0 in absurd (omega arith)
says-blocked r (Blocked m) t g = ap Blocked (λ i. record { steps = sym t.1.0 i; moves = sym t.1.1 i; cost = sym t.1.2 i })
says-blocked r (Refused f) t g = let q = t.0.0 in absurd (omega arith)

pub blocked-says : (r : ℕ) (a : Answer) (m : Made) → TellsAnswer r a → a ≡ Blocked m → SaysBlocked r
blocked-says r a m t e = let u : TellsAnswer r (Blocked m) = rw e at t in u.0
