use borrow.Author.Rules.{rules}
use Rattle.planner.proofs.Laws.Lone.{comer-elsewhere, comer-same, comer-goes}
use Rattle.planner.proofs.board.Board.comes.Goals as goal
use Rattle.planner.proofs.board.Board.comes.Goals.{then-target-p, else-target-p}

pub returns-then-u-v : goal.returns-then-u-v
returns-then-u-v c = comer-goes _ _ _ _ _ _ c.target.ensures.target c.if-u-v.true.0 _ c.goes_alone.ensures c.if-u-v.true.1

pub returns-else-u-v : goal.returns-else-u-v
returns-else-u-v c = elim c.if-target-p.branch [
  | then-target-p w ↦ search (rules, comer-same)
  | else-target-p w ↦ search (rules, comer-elsewhere)
]
