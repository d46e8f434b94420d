use borrow.Author.Rules.{rules}
use Rattle.records.proofs.Laws.Groups.{mark-more, mark-end}
use Rattle.records.proofs.groups.mark.Goals as goal

pub loop-node-preserved : goal.loop-node-preserved
loop-node-preserved c = record { rest = search (rules, mark-more) }

pub returns : goal.returns
returns c = search (rules, mark-end)
