use mathlib.Core.Bool.{false}
use mathlib.Core.Path.{◌≡◌}
use lib.ListN.{drop}
use Rattle.rules.specs.Inner.{stopped, all_but}
use Rattle.rules.proofs.allow.all_but.Given as goal

abbrev pub invariant-loop-d : goal.invariant-loop-d
invariant-loop-d l = stopped l.marks false (drop l.d-index l.nodes) ≡ all_but l.nodes
