use borrow.Author.Rules.{rules}
use Rattle.split.proofs.Laws.Promised.{split-packs, split-promised}
use Rattle.split.proofs.split.Goals as goal

pub pack-requires : goal.pack-requires
pack-requires c = split-packs _ _ _ _ _ (search rules) _ c.outcome_of.ensures

pub returns : goal.returns
returns c = split-promised _ _ _ _ _ (search rules) _ c.outcome_of.ensures _ c.pack.ensures
