use mathlib.Core.Bool.{true}
use mathlib.Core.Path.{◌≡◌}
use lib.ListN.{drop}
use Rattle.rules.specs.Inner.{stopped, only}
use Rattle.rules.proofs.allow.only.Given as goal

abbrev pub invariant-loop-d : goal.invariant-loop-d
invariant-loop-d l = stopped l.marks true (drop l.d-index l.nodes) ≡ only l.nodes
