use Rattle.planner.proofs.Laws.Joining.{node-place}
use Rattle.planner.proofs.Laws.Lone.{lone-sound}
use borrow.Author.Rules.{rules}
use Rattle.planner.proofs.board.Board.goes_alone.Goals as goal

pub may_join-requires-clause-place : goal.may_join-requires-clause-place
may_join-requires-clause-place c = search (rules, node-place)

pub returns : goal.returns
returns c = search (rules, lone-sound)
