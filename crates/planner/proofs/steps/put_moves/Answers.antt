use borrow.Author.Rules.{rules}
use native.Mathlib.Omega.{arith}
use Rattle.planner.specs.Inner.{moves_in}
use Rattle.planner.proofs.Laws.Moves.{put-start, put-room, put-more, put-count, put-same, put-still}
use Rattle.planner.proofs.steps.put_moves.Goals as goal
use Rattle.planner.proofs.steps.put_moves.Goals.{then-dests-v-ne-NO_MOVE, else-dests-v-ne-NO_MOVE}

pub loop-v-init : goal.loop-v-init
unfolding moves_in
loop-v-init c = search (rules, put-start)

pub append_move-requires : goal.append_move-requires
append_move-requires c = search (rules, put-room)

pub loop-v-preserved : goal.loop-v-preserved
loop-v-preserved c = elim c.if-dests-v-ne-NO_MOVE.branch [
  | then-dests-v-ne-NO_MOVE w ↦ record {
    few = omega arith;
    counted = rw w.count-is (search (rules, put-count));
    bytes = rw w.out-is (search (rules, put-more));
  }
  | else-dests-v-ne-NO_MOVE w ↦ record {
    few = omega arith;
    counted = rw w.count-is (search (rules, put-still));
    bytes = rw w.out-is (search (rules, put-same));
  }
]
