use Rattle.std.proofs.Common.{refl}
use Rattle.records.proofs.Laws.Constraints.{second-read}
use Rattle.records.proofs.constraints.second_vm.Goals as goal

pub returns : goal.returns
returns c = second-read _ c.requires.0 c.requires.1 _ refl
