use Rattle.std.proofs.Common.{◌≡◌, [], sym, ◌∙◌, arith}
use Rattle.std.proofs.lemmas.Grind.{common_steps}
use Rattle.records.proofs.Laws.Views.{groups_none, group_left, group_fits, group_next, group_is}
use Rattle.records.proofs.constraints.GroupsIterator.next.Goals as goal

pub returns-in_err-count-clause-steps : goal.returns-in_err-count-clause-steps
returns-in_err-count-clause-steps c =
    let e : c.args.self.now ≡ [] = sym c.self.view_is ∙ groups_none _ _ c.self.invariant c.in_err-count.ensures.cases in
    rw c.from_residual.ensures (e, e)

pub split_at-requires : goal.split_at-requires
split_at-requires c = rw c.from.ensures (group_fits _ _ c.self.invariant _ _ c.in_ok-count.ensures.cases.0)

pub overflow_sub-self : goal.overflow_sub-self
overflow_sub-self c = group_left _ _ c.self.invariant _ _ c.in_ok-count.ensures.cases.0

pub invariant_of-self : goal.invariant_of-self
invariant_of-self c = rw (c.split_at.ensures.back, c.from.ensures) (group_next _ _ c.self.invariant _ _ c.in_ok-count.ensures.cases.0)

pub returns-clause-steps : goal.returns-clause-steps
returns-clause-steps c = sym c.self.view_is ∙ (rw (c.split_at.ensures.front, c.split_at.ensures.back, c.from.ensures) (group_is _ _ c.self.invariant _ _ c.in_ok-count.ensures.cases.0))

pub returns-clause-goes : goal.returns-clause-goes
returns-clause-goes c = let e = returns-clause-steps c in grind (arith, common_steps, e)
