use mathlib.Core.Bool.{not}
use mathlib.Core.Path.{ap, ◌∙◌}
use borrow.Author.Tests.{eq-eqb}
use Rattle.planner.proofs.Laws.Lone.{aside-target, aside-sound}
use Rattle.planner.proofs.board.Board.goes_aside.Goals as goal

pub returns-then-target-d : goal.returns-then-target-d
returns-then-target-d c = aside-sound _ _ _ _ _ c.target.ensures.target _ c.goes_alone.ensures c.if-target-d.true

pub returns-else-target-d : goal.returns-else-target-d
returns-else-target-d c = ap not (eq-eqb _ _ c.if-target-d.false) ∙ aside-target _ _ _ _ _ c.target.ensures.target c.if-target-d.false
