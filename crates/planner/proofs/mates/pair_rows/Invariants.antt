use mathlib.Core.Path.{◌≡◌}
use lib.ListN.{drop}
use Rattle.planner.specs.Inner.{pair_rows}
use Rattle.planner.proofs.mates.pair_rows.Given as goal

abbrev pub invariant-loop-v : goal.invariant-loop-v
invariant-loop-v at = pair_rows at.table at.vms (drop at.v-index at.vms) ≡ pair_rows at.initial.table at.vms at.vms
