use borrow.Author.Rules.{rules}
use Rattle.planner.proofs.Laws.Pairs.{meets-turn, meets-end}
use Rattle.planner.proofs.board.Board.meets.Goals as goal

pub loop-w-preserved : goal.loop-w-preserved
loop-w-preserved c = search (rules, meets-turn)

pub loop-w-2-preserved : goal.loop-w-2-preserved
loop-w-2-preserved c = search (rules, meets-turn)

pub returns : goal.returns
returns c =
    meets-end c.args.self.now.cluster.now c.args.self.now.places.now c.args.dests.now c.args.v c.args.d c.loop-w-2.w c.loop-w-2.met _ c.loop-w-2.invariant
    (search rules)
