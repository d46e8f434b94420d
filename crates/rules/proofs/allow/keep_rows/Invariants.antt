use mathlib.Core.Path.{◌≡◌}
use lib.ListN.{drop}
use Rattle.rules.specs.Inner.{list_kept}
use Rattle.rules.proofs.allow.keep_rows.Given as goal

abbrev pub invariant-loop-v : goal.invariant-loop-v
invariant-loop-v l = list_kept l.table l.stop (drop l.v-index l.vms) ≡ list_kept l.initial.table l.stop l.vms
