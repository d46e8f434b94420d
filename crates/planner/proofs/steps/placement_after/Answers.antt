use borrow.Author.Rules.{rules}
use Rattle.planner.proofs.Laws.Moves.{moved-goes, moved-stays, moved-end}
use Rattle.planner.proofs.steps.placement_after.Goals as goal
use Rattle.planner.proofs.steps.placement_after.Goals.{then-dests-v-ne-NO_MOVE, else-dests-v-ne-NO_MOVE}

pub loop-v-preserved : goal.loop-v-preserved
loop-v-preserved c = elim c.if-dests-v-ne-NO_MOVE.branch [
  | then-dests-v-ne-NO_MOVE w ↦ rw w.places-is (search (rules, moved-goes))
  | else-dests-v-ne-NO_MOVE w ↦ rw w.places-is (search (rules, moved-stays))
]

pub returns : goal.returns
returns c = search (rules, moved-end)
