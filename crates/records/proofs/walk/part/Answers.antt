use borrow.Author.Rules.{rules}
use Rattle.records.proofs.Laws.Parts.{part_is}
use Rattle.records.proofs.walk.part.Goals as goal

pub returns : goal.returns
returns c = search (rules, part_is)
