use Prim.Native.Nat.{◌-◌}
use mathlib.Core.Path.{◌≡◌}
use Rattle.rules.specs.Moments.{after}
use Rattle.planner.specs.Inner.{moves_in}
use Rattle.planner.proofs.steps.placement_after.Given as goal

abbrev pub invariant-loop-v : goal.invariant-loop-v
invariant-loop-v at = after at.places (moves_in at.dests at.v (at.vms - at.v)) ≡ after at.initial.places (moves_in at.dests 0 at.vms)
