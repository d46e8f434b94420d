use Prim.Native.Nat.{◌-◌}
use mathlib.Core.Bool.{◌||◌}
use mathlib.Core.Path.{◌≡◌}
use lib.ListN.{length}
use Rattle.rules.specs.Inner.{busy_from}
use Rattle.rules.specs.Orders.{meets_mate}
use Rattle.planner.proofs.board.Board.meets.Given as goal

abbrev pub invariant-loop-w : goal.invariant-loop-w
invariant-loop-w at =
    (at.met || meets_mate at.self.cluster.now (busy_from at.self.places.now at.dests at.w (length at.self.cluster.now.vms - at.w)) at.v at.d) ≡
    meets_mate at.self.cluster.now (busy_from at.self.places.now at.dests 0 (length at.self.cluster.now.vms)) at.v at.d

abbrev pub invariant-loop-w-2 : goal.invariant-loop-w-2
invariant-loop-w-2 at =
    (at.met || meets_mate at.self.cluster.now (busy_from at.self.places.now at.dests at.w (length at.self.cluster.now.vms - at.w)) at.v at.d) ≡
    meets_mate at.self.cluster.now (busy_from at.self.places.now at.dests 0 (length at.self.cluster.now.vms)) at.v at.d
