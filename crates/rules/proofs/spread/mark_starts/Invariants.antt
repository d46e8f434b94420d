use mathlib.Core.Path.{◌≡◌}
use lib.ListN.{drop}
use Rattle.rules.specs.Inner.{start_marks}
use Rattle.rules.proofs.spread.mark_starts.Given as goal

abbrev pub invariant-loop-v : goal.invariant-loop-v
invariant-loop-v l = start_marks l.marks l.places (drop l.v-index l.vms) ≡ start_marks l.initial.marks l.places l.vms
