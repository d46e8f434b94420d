use Rattle.std.proofs.Common.{◌≡◌, ◌∙◌, length, refl, ap, arith}
use Rattle.records.specs.Room.{parts_of, parts_end}
use Rattle.records.proofs.Laws.Parts.{parts_within, rest_ends, rest_parts}
use Rattle.records.proofs.header.Header.parts.Goals as goal

pub slice_bounds-result-count : goal.slice_bounds-result-count
slice_bounds-result-count c = let g = parts_within _ _ _ c.requires in let h = ap length c.self.view_is in omega arith

pub slice_bounds-result-start : goal.slice_bounds-result-start
slice_bounds-result-start c = slice_bounds-result-count c

pub invariant_of-result : goal.invariant_of-result
invariant_of-result c =
    let ends : parts_end c.self.inside.bytes.now c.constraints_start-start.result c.constraints.result ≡ length c.self.inside.bytes.now = rw (c.constraints_start-start.ensures.0, c.constraints.ensures.0, c.self.view_is) c.requires in
    rest_ends _ _ _ ends _ refl

pub returns : goal.returns
unfolding parts_of
returns c =
    let ends : parts_end c.self.inside.bytes.now c.constraints_start-start.result c.constraints.result ≡ length c.self.inside.bytes.now = rw (c.constraints_start-start.ensures.0, c.constraints.ensures.0, c.self.view_is) c.requires in
    rest_parts _ _ _ ends _ refl ∙ rw (c.constraints_start-start.ensures.0, c.constraints.ensures.0, c.self.view_is) refl
