use Rattle.planner.proofs.Laws.Turning.{Directing}
use Rattle.planner.proofs.board.Board.direct_step.Given as goal

abbrev pub invariant-loop-v : goal.invariant-loop-v
invariant-loop-v at = Directing at.self.cluster.now at.self.places.now at.dests at.v at.sums
