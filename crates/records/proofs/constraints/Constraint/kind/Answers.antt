use Rattle.std.proofs.Common.{◌∙◌, ap}
use Rattle.records.specs.Room.{kind_of}
use Rattle.records.proofs.Laws.Views.{formed_filled}
use Rattle.records.proofs.constraints.Constraint.kind.Goals as goal

pub kind_at-requires : goal.kind_at-requires
kind_at-requires c = formed_filled _ c.self.invariant

pub returns : goal.returns
returns c = c.kind_at.ensures ∙ ap kind_of c.self.view_is
