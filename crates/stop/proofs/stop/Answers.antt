use borrow.Author.Rules.{rules}
use Rattle.stop.proofs.Laws.Promised.{stop-packs, stopped}
use Rattle.stop.proofs.stop.Goals as goal

pub pack-requires : goal.pack-requires
pack-requires c = stop-packs _ _ _ _ _ _ _ _ c.outcome_of.ensures

pub returns : goal.returns
returns c = stopped _ _ _ _ _ _ _ (search rules) _ c.outcome_of.ensures _ c.pack.ensures
