use mathlib.Core.Path.{◌≡◌}
use lib.ListN.{drop}
use Rattle.planner.specs.Inner.{pair_row}
use Rattle.planner.proofs.mates.pair_row.Given as goal

abbrev pub invariant-loop-w : goal.invariant-loop-w
invariant-loop-w at = pair_row at.row (drop at.w-index at.vms) ≡ pair_row at.initial.row at.vms
