use Rattle.planner.proofs.Laws.Waits.{waits-more, waits_end, ok-here, ok-later}
use Rattle.planner.proofs.waits.waiting.Goals as goal

pub hold_part-requires : goal.hold_part-requires
hold_part-requires c = ok-here _ _ _ _ _ c.in-Some.ensures.steps c.loop-constraint.invariant.in_range

pub loop-constraint-preserved : goal.loop-constraint-preserved
loop-constraint-preserved c = record {
  rest = waits-more _ _ _ _ _ _ _ _ c.in-Some.ensures.steps c.hold_part.ensures c.loop-constraint.invariant.rest;
  in_range = ok-later _ _ _ _ _ c.in-Some.ensures.steps c.loop-constraint.invariant.in_range;
}

pub returns : goal.returns
returns c = record { marks = waits_end _ _ _ _ c.constraints-constraint-items.ensures.sound c.loop-constraint.invariant.rest c.in-None.ensures.steps.0; sound = c.constraints-constraint-items.ensures.sound }
