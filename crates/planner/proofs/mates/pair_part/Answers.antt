use Rattle.planner.proofs.Laws.Pairs.{part-spread, part-other}
use borrow.Author.Rules.{rules}
use Rattle.planner.proofs.mates.pair_part.Goals as goal

pub returns-in-Spread : goal.returns-in-Spread
returns-in-Spread c = search (rules, part-spread)

pub returns-in_default : goal.returns-in_default
returns-in_default c = search (rules, part-other)
