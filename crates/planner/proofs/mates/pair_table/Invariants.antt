use mathlib.Core.Path.{◌≡◌}
use Rattle.planner.specs.Inner.{paired_all}
use Rattle.planner.proofs.mates.pair_table.Given as goal

abbrev pub invariant-loop-constraint : goal.invariant-loop-constraint
invariant-loop-constraint at = paired_all at.table at.constraint-iterator ≡ paired_all at.initial.table at.cluster.constraints
