use Rattle.std.proofs.Common.{refl}
use Rattle.records.proofs.Laws.Constraints.{first_read}
use Rattle.records.proofs.constraints.first_vm.Goals as goal

pub returns : goal.returns
returns c = first_read _ c.requires.0 c.requires.1 _ refl
