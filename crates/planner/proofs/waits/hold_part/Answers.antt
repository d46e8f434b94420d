use mathlib.Core.Path.{refl, ◌∙◌}
use Rattle.records.specs.Room.{second_of}
use Rattle.planner.proofs.Laws.Waits.{pair-marked, pair_left, part-before, part-other, first-below}
use borrow.Author.Rules.{rules}
use Rattle.planner.proofs.waits.hold_part.Goals as goal

pub target-requires : goal.target-requires
target-requires c = first-below c.args.cluster.now _ _ _ c.requires c.kind.ensures c.in-Before.is (c.from-first.ensures ∙ c.first.ensures)

pub returns-then-places-first : goal.returns-then-places-first
returns-then-places-first c =
    part-before _ _ _ _ _ _ _ _ c.kind.ensures (pair-marked _ _ _ _ _ _ c.target.ensures.target c.if-places-first.true)
    (c.from-first.ensures ∙ c.first.ensures) (c.from.ensures ∙ c.second.ensures) c.in-Before.is

pub returns-else-places-first : goal.returns-else-places-first
returns-else-places-first c =
    part-before _ _ _ _ _ _ _ _ c.kind.ensures (pair_left _ _ _ _ (second_of c.args.constraint.now) _ c.target.ensures.target c.if-places-first.false)
    (c.from-first.ensures ∙ c.first.ensures) refl c.in-Before.is

pub returns-in_default : goal.returns-in_default
returns-in_default c = search (rules, part-other)
