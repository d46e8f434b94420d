use Rattle.std.proofs.Common.{arith}
use Rattle.records.proofs.Laws.Constraints.{of-latency, groups-there, groups-count}
use Rattle.records.proofs.constraints.group_count.Goals as goal

pub lists-requires : goal.lists-requires
lists-requires c = (c.requires.0, of-latency _ c.requires.1)

pub bounds-lists-0 : goal.bounds-lists-0
bounds-lists-0 c = groups-there _ c.requires.0 c.requires.1 _ c.lists.ensures.1

pub returns : goal.returns
returns c = (groups-count _ c.requires.0 c.requires.1 _ c.lists.ensures.1 _ c.from.ensures, omega arith)
