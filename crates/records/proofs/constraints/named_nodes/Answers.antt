use Rattle.std.proofs.Common.{◌∙◌, sym}
use Rattle.records.proofs.Laws.Constraints.{ban-or-fence, nodes-there, nodes-are}
use Rattle.records.proofs.Laws.Views.{no-nodes}
use Rattle.records.proofs.constraints.named_nodes.Goals as goal

pub lists-requires : goal.lists-requires
lists-requires c = (c.requires, λ k. ban-or-fence _ c.in-Ban.is (c.kind_at.ensures ∙ k))

pub slice_bounds-result-count : goal.slice_bounds-result-count
slice_bounds-result-count c = nodes-there _ c.requires _ (sym c.kind_at.ensures) c.in-Ban.is _ c.lists.ensures.1

pub slice_bounds-result-start : goal.slice_bounds-result-start
slice_bounds-result-start c = nodes-there _ c.requires _ (sym c.kind_at.ensures) c.in-Ban.is _ c.lists.ensures.1

pub returns-in-Ban : goal.returns-in-Ban
returns-in-Ban c = nodes-are _ c.requires _ (sym c.kind_at.ensures) c.in-Ban.is _ c.lists.ensures.1

pub returns-in_default : goal.returns-in_default
returns-in_default c = no-nodes _ (λ k. c.in_default.not-Ban (c.kind_at.ensures ∙ k)) (λ k. c.in_default.not-Fence (c.kind_at.ensures ∙ k))
