use Rattle.std.proofs.Common.{arith}
use Rattle.std.proofs.lemmas.Grind.{common_steps}
use Rattle.records.specs.Base.{all}
use Rattle.rules.specs.Inner.{bound_check}
use Rattle.rules.proofs.loads.Running.bound_check.Goals as goal

pub returns-then-not-spread_kept : goal.returns-then-not-spread_kept
unfolding all bound_check
returns-then-not-spread_kept c = let e = c.in-Some.ensures.steps in grind (arith, common_steps, e)

pub turn_kept-in_turn-requires : goal.turn_kept-in_turn-requires
unfolding all
turn_kept-in_turn-requires c = let e = c.in-Some.ensures.steps in grind (arith, common_steps, e)

pub loop-constraint-preserved-then-in_turn : goal.loop-constraint-preserved-then-in_turn
unfolding all
loop-constraint-preserved-then-in_turn c = let e = c.in-Some.ensures.steps in grind (arith, common_steps, e)

pub loop-constraint-preserved : goal.loop-constraint-preserved
unfolding all
loop-constraint-preserved c = let e = c.in-Some.ensures.steps in grind (arith, common_steps, e)

pub returns-then-in_turn-2 : goal.returns-then-in_turn-2
unfolding all bound_check
returns-then-in_turn-2 c = let e = c.in-None.ensures.steps in grind (arith, common_steps, e)

pub returns-else-in_turn-2 : goal.returns-else-in_turn-2
unfolding all bound_check
returns-else-in_turn-2 c = let e = c.in-None.ensures.steps in grind (arith, common_steps, e)
