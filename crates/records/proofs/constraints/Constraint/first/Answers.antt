use Rattle.std.proofs.Common.{◌∙◌, ap}
use Rattle.records.specs.Room.{kind_of, first_of}
use Rattle.records.proofs.Laws.Views.{formed_filled}
use Rattle.records.proofs.constraints.Constraint.first.Goals as goal

pub first_vm-requires : goal.first_vm-requires
first_vm-requires c = (formed_filled _ c.self.invariant, ap kind_of c.self.view_is ∙ c.requires)

pub returns : goal.returns
returns c = c.first_vm.ensures ∙ ap first_of c.self.view_is
