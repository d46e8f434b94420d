use Rattle.rules.proofs.Laws.Turns.{verdict-packs, checked-packed}
use borrow.Author.Rules.{rules}
use Rattle.rules.proofs.check.Goals as goal

pub pack-requires : goal.pack-requires
pack-requires c = search (rules, verdict-packs)

pub returns : goal.returns
returns c = search (rules, checked-packed)
