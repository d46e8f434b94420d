use Rattle.planner.proofs.Laws.Pairs.{pairs-more, pairs_end}
use Rattle.planner.proofs.mates.pair_table.Goals as goal

pub loop-constraint-preserved : goal.loop-constraint-preserved
loop-constraint-preserved c = pairs-more _ _ _ _ _ _ c.in-Some.ensures.steps c.pair_part.ensures c.loop-constraint.invariant

pub returns : goal.returns
returns c = record { pairs = pairs_end _ _ _ _ c.constraints-constraint-items.ensures.sound c.requires c.loop-constraint.invariant c.in-None.ensures.steps.0; sound = c.constraints-constraint-items.ensures.sound }
