use Prim.Native.Nat.{◌-◌}
use mathlib.Core.Path.{◌≡◌}
use lib.ListN.{length}
use Rattle.rules.specs.Rules.{from}
use Rattle.rules.specs.Inner.{held}
use Rattle.planner.specs.Picks.{pivot_first, pivot_step}
use Rattle.planner.proofs.board.Board.pivot_step.Given as goal

abbrev pub invariant-loop-v : goal.invariant-loop-v
invariant-loop-v at =
    pivot_first at.self.cluster.now (held at.self.cluster.now at.self.places.now) (from at.v (length at.self.cluster.now.vms - at.v)) ≡
    pivot_step at.self.cluster.now (held at.self.cluster.now at.self.places.now)
