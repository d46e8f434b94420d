use Rattle.planner.proofs.Laws.Promised.{answer-packs, built}
use borrow.Author.Rules.{rules}
use Rattle.planner.proofs.build.Goals as goal

pub pack-requires : goal.pack-requires
pack-requires c = answer-packs _ _ _ _ _ c.answer_to.ensures (search rules)

pub returns : goal.returns
returns c = built _ _ _ _ _ _ c.answer_to.ensures c.pack.ensures (search rules)
