use mathlib.Core.Bool.{true}
use mathlib.Core.Path.{◌≡◌}
use lib.ListN.{replicate}
use Rattle.rules.specs.Inner.{applied_all}
use Rattle.rules.proofs.allow.fill_allow_table.Given as goal

abbrev pub invariant-loop-constraint : goal.invariant-loop-constraint
invariant-loop-constraint l = applied_all l.table l.constraint-iterator ≡ applied_all (replicate 256 (replicate 64 true)) l.cluster.constraints
