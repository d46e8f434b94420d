-- Laws on a plan that `judged` accepts, for the calls that go on with it: the reserve, the cluster and the plan are taken.
use Prim.Native.Nat.{ℕ, ◌≤◌}
use mathlib.Core.List.{List}
use mathlib.Core.Path.{◌≡◌, sym, ap, ◌∙◌}
use Rattle.std.specs.Prelude.{Result, Ok}
use Rattle.records.specs.Room.{most_reserve, cluster_check}
use Rattle.records.specs.Plan.{plan_check}
use Rattle.rules.specs.Verdict.{verdict_of}
use Rattle.rules.specs.Promises.{Accepts}
use Rattle.rules.specs.Inner.{verdict_from}
use Rattle.rules.specs.declared.faults.Fault.{Fault}
use Rattle.rules.proofs.Laws.Verdicts.{only-holds}

module _ (reserve : ℕ) (cluster plan : List ℕ) where
  -- it accepts where it gives a cost
  pub accepts-at : (r : Result ℕ Fault) (cost : ℕ) → verdict_from r ≡ verdict_of reserve cluster plan → r ≡ Ok cost → Accepts reserve cluster plan
  accepts-at r cost e was = (cost, sym e ∙ ap verdict_from was)

  pub reserve-taken : Accepts reserve cluster plan → reserve ≤ most_reserve
  reserve-taken a = (only-holds reserve cluster plan a.0 a.1).0.taken.reserve-taken

  pub cluster-whole : Accepts reserve cluster plan → cluster_check cluster ≡ Ok tt
  cluster-whole a = (only-holds reserve cluster plan a.0 a.1).0.taken.cluster-whole

  pub plan-whole : Accepts reserve cluster plan → plan_check plan ≡ Ok tt
  plan-whole a = (only-holds reserve cluster plan a.0 a.1).0.plan-whole
