use Rattle.std.proofs.Common.{◌∙◌, ap}
use Rattle.records.specs.Room.{kind_of, second_of}
use Rattle.records.proofs.Laws.Views.{formed_filled}
use Rattle.records.proofs.constraints.Constraint.second.Goals as goal

pub second_vm-requires : goal.second_vm-requires
second_vm-requires c = (formed_filled _ c.self.invariant, ap kind_of c.self.view_is ∙ c.requires)

pub returns : goal.returns
returns c = c.second_vm.ensures ∙ ap second_of c.self.view_is
