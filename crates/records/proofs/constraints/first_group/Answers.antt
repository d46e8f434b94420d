use Rattle.std.proofs.Common.{arith}
use Rattle.records.proofs.Laws.Constraints.{of-latency, vms-length}
use Rattle.records.proofs.constraints.first_group.Goals as goal

pub lists-requires : goal.lists-requires
lists-requires c = (c.requires.0, of-latency _ c.requires.1)

pub returns : goal.returns
returns c =
    let l = vms-length _ c.requires.0 (of-latency _ c.requires.1) _ c.lists.ensures.0 in
    omega arith
