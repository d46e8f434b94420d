use borrow.Author.Rules.{rules}
use Rattle.records.proofs.Laws.Constraints.{groups-short, groups-many, groups-fill, groups-bad}
use Rattle.records.proofs.constraints.groups_sound.Goals as goal

pub returns-in-empty : goal.returns-in-empty
returns-in-empty c = search (rules, groups-short)

pub returns-then-count-le64 : goal.returns-then-count-le64
returns-then-count-le64 c = search (rules, groups-fill, groups-bad)

pub returns-else-count-le64 : goal.returns-else-count-le64
returns-else-count-le64 c = search (rules, groups-many)
