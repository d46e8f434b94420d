use Rattle.std.proofs.Common.{sym, ◌∙◌}
use borrow.Author.Rules.{rules}
use Rattle.rules.proofs.Laws.Turns.{cluster-unread, target-fault, plan-unread, plan-verdict, handed-on}
use Rattle.rules.proofs.verdict.judged.Goals as goal

pub returns-in_err-cluster : goal.returns-in_err-cluster
returns-in_err-cluster c =
    handed-on _ _ _ c.from_residual.ensures.1 (cluster-unread c.args.reserve c.args.cluster.now c.args.plan.now c.in_err-cluster.field-0.0 (sym c.in_err-cluster.ensures.read))

pub returns-in_err-target_check : goal.returns-in_err-target_check
returns-in_err-target_check c =
    handed-on _ _ _ c.from_residual-in_err-target_check.ensures.1
    (target-fault c.args.reserve c.args.cluster.now c.args.plan.now _ (search rules) c.in_err-target_check.field-0.0 (sym c.in_err-target_check.ensures))

pub returns-in_err-plan : goal.returns-in_err-plan
returns-in_err-plan c =
    handed-on _ _ _ c.from_residual-in_err-plan.ensures.1
    (plan-unread c.args.reserve c.args.cluster.now c.args.plan.now _ (search rules) (sym c.in_ok-target_check.ensures) c.in_err-plan.field-0.0 (sym c.in_err-plan.ensures))

pub returns : goal.returns
returns c =
    c.plan_judged.ensures ∙
    plan-verdict c.args.reserve c.args.cluster.now c.args.plan.now c.in_ok-cluster.cluster (sym c.in_ok-cluster.ensures.read) (search rules) c.in_ok-plan.plan (sym c.in_ok-plan.ensures)
