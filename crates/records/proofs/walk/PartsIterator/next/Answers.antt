use Rattle.std.proofs.Common.{◌≡◌, [], refl, sym, ◌∙◌, arith}
use Rattle.std.proofs.lemmas.Grind.{common_steps}
use Rattle.records.proofs.Laws.Parts.{part_fits, part_long, parts_none, parts_left, parts_is}
use Rattle.records.proofs.walk.PartsIterator.next.Goals as goal

pub returns-then-self-eq0-clause-steps : goal.returns-then-self-eq0-clause-steps
returns-then-self-eq0-clause-steps c =
    let e : c.args.self.now ≡ [] = sym c.self.view_is ∙ parts_none _ _ _ c.if-self-eq0.true in (e, e)

pub part-first-requires : goal.part-first-requires
part-first-requires c = part_fits _ _ (omega arith) c.self.invariant

pub slice_bounds-self-count : goal.slice_bounds-self-count
slice_bounds-self-count c =
    let h = part_fits _ _ (omega arith) c.self.invariant in
    let l = part_long _ _ (omega arith) c.self.invariant _ [] c.part-first.ensures in
    omega arith

pub slice_bounds-self-start : goal.slice_bounds-self-start
slice_bounds-self-start c = slice_bounds-self-count c

pub invariant_of-self : goal.invariant_of-self
invariant_of-self c = parts_left _ _ (omega arith) c.self.invariant _ _ c.part-first.ensures refl

pub returns-clause-steps : goal.returns-clause-steps
returns-clause-steps c = sym c.self.view_is ∙ parts_is _ _ (omega arith) c.self.invariant _ _ c.part-first.ensures refl

pub returns-clause-goes : goal.returns-clause-goes
returns-clause-goes c = let e = returns-clause-steps c in grind (arith, common_steps, e)
