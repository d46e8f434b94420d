use mathlib.Core.Path.{◌≡◌}
use lib.ListN.{drop}
use Rattle.rules.specs.Inner.{go_unmet}
use Rattle.rules.proofs.spread.arrive_apart.Given as goal

abbrev pub invariant-loop-v : goal.invariant-loop-v
invariant-loop-v l = go_unmet l.marks l.dests (drop l.v-index l.vms) ≡ go_unmet l.initial.marks l.dests l.vms
