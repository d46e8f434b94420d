use Rattle.std.proofs.Common.{◌∙◌}
use Rattle.records.proofs.Laws.Constraints.{vms-fit, vms-are, others-are}
use Rattle.records.proofs.constraints.lists.Goals as goal

pub split_at-requires : goal.split_at-requires
split_at-requires c = vms-fit _ c.requires.0 c.requires.1 _ c.count16.ensures.0

pub returns : goal.returns
returns c =
    (c.split_at.ensures.front ∙ vms-are _ c.requires.0 c.requires.1 _ c.count16.ensures.0, c.split_at.ensures.back ∙ others-are _ c.requires.0 c.requires.1 _ c.count16.ensures.0)
