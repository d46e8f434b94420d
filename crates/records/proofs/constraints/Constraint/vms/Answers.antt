use Rattle.std.proofs.Common.{◌∙◌, ap}
use Rattle.records.specs.Room.{vms_of}
use Rattle.records.proofs.Laws.Views.{formed_filled}
use Rattle.records.proofs.constraints.Constraint.vms.Goals as goal

pub bound_vms-requires : goal.bound_vms-requires
bound_vms-requires c = formed_filled _ c.self.invariant

pub returns : goal.returns
returns c = c.bound_vms.ensures ∙ ap vms_of c.self.view_is
