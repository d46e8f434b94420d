use Rattle.rules.specs.Inner.{held}
use Rattle.planner.proofs.Laws.Budget.{budget}
use Rattle.planner.proofs.Laws.Making.{Making}
use Rattle.planner.proofs.steps.write_steps.Given as goal

abbrev pub invariant-loop-dests : goal.invariant-loop-dests
invariant-loop-dests at = Making at.tables.cluster.now at.initial.out at.out at.places at.end at.steps at.moves

abbrev pub decreases-loop-dests : goal.decreases-loop-dests
decreases-loop-dests at = budget at.tables.cluster.now (held at.tables.cluster.now at.places)
