use mathlib.Core.Path.{sym, ap, ◌∙◌}
use Rattle.rules.specs.Cost.{cost_of}
use Rattle.planner.proofs.Laws.Answers.{part_low, part_length, part-whole, answer-plan, answer-blocked}
use Rattle.rules.proofs.Laws.Allow.{table-allows}
use Rattle.planner.proofs.plan.planned.Goals as goal

pub invariant_of-tables : goal.invariant_of-tables
invariant_of-tables c = record {
  known = record { allowed = table-allows _ _ c.fill_allow_table.ensures.table c.fill_allow_table.ensures.sound; paired = c.pair_table.ensures.pairs };
}

pub slice_bounds-whole-end : goal.slice_bounds-whole-end
slice_bounds-whole-end c = part_low _ _ _ _ c.write_steps-trail.ensures c.requires _ c.finish_record.ensures

pub slice_bounds-whole-end-2 : goal.slice_bounds-whole-end-2
slice_bounds-whole-end-2 c = sym (part_length _ _ _ _ c.write_steps-trail.ensures c.requires _ c.finish_record.ensures)

pub whole-plan-requires : goal.whole-plan-requires
whole-plan-requires c = part-whole _ _ _ _ c.write_steps-trail.ensures c.requires _ c.finish_record.ensures

pub returns-then-trail : goal.returns-then-trail
returns-then-trail c =
    let cost = c.plan_cost.ensures.cost ∙ ap (cost_of c.args.cluster.now) c.whole-plan.ensures in
    answer-plan _ _ _ _ c.write_steps-trail.ensures c.requires _ c.finish_record.ensures _ cost c.if-trail.true

pub returns-else-trail : goal.returns-else-trail
returns-else-trail c =
    let cost = c.plan_cost.ensures.cost ∙ ap (cost_of c.args.cluster.now) c.whole-plan.ensures in
    answer-blocked _ _ _ _ c.write_steps-trail.ensures c.requires _ c.finish_record.ensures _ cost c.if-trail.false
