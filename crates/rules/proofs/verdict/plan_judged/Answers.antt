use Rattle.std.proofs.Common.{ℕ, ◌+◌, ap, ◌∙◌}
use Rattle.rules.specs.declared.faults.Fault.{Fault}
use Rattle.rules.specs.declared.faults.Verdict.{Verdict}
use Rattle.rules.proofs.Laws.Allow.{table-allows}
use Rattle.rules.proofs.Laws.Turns.{walking_start, turn-faulty, turn-sound, end-home, end-away}
use Rattle.rules.proofs.verdict.plan_judged.Goals as goal

pub loop-before-init : goal.loop-before-init
loop-before-init c =
    rw (c.into_iter-before-iterator.ensures.into_iter_gives, c.enumerate-before-items.ensures.source, c.enumerate-before-items.ensures.count, c.steps.ensures.is)
    (walking_start c.args.cluster.now c.args.plan.now c.current_places-places.result c.current_places-places.ensures c.fill_allow_table.ensures.sound c.steps.ensures.shaped)

pub step_check-requires-clause-table : goal.step_check-requires-clause-table
step_check-requires-clause-table c = table-allows c.args.cluster.now c.fill_allow_table.new.table c.fill_allow_table.ensures.table c.fill_allow_table.ensures.sound

pub returns-in-Err : goal.returns-in-Err
returns-in-Err c =
    ap (λ (n : ℕ). Verdict.Refused (Fault.Step c.in-Err.fault (n + 1))) c.in-Some.ensures.steps.1 ∙
    turn-faulty c.args.cluster.now c.args.plan.now c.loop-before.places _ _ c.loop-before.invariant c.in-Some.step _ c.in-Some.ensures.steps.0 c.in-Err.fault c.in-Err.ensures

pub loop-before-preserved : goal.loop-before-preserved
loop-before-preserved c =
    rw (c.moved-places.ensures, c.in-Some.ensures.steps.2)
    (turn-sound c.args.cluster.now c.args.plan.now c.loop-before.places _ _ c.loop-before.invariant c.in-Some.step _ c.in-Some.ensures.steps.0 c.in_default.ensures)

pub returns-then-at_home : goal.returns-then-at_home
returns-then-at_home c =
    ap Verdict.Accepted c.plan_cost.ensures.cost ∙
    end-home c.args.cluster.now c.args.plan.now c.loop-before.places _ _ c.loop-before.invariant c.in-None.ensures.steps.0.0 c.if-at_home.ensures

pub returns-else-at_home : goal.returns-else-at_home
returns-else-at_home c = end-away c.args.cluster.now c.args.plan.now c.loop-before.places _ _ c.loop-before.invariant c.in-None.ensures.steps.0.0 c.if-at_home.ensures
