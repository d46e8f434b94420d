use borrow.Author.Rules.{rules}
use Rattle.split.proofs.Laws.Writing.{singles-size, singles-written}
use Rattle.split.proofs.singles.write_singles.Goals as goal

pub returns : goal.returns
returns c = record { length = search (rules, singles-size); written = search (rules, singles-written) }
