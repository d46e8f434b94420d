use Rattle.std.proofs.Common.{refl}
use Rattle.records.proofs.Laws.Reading.{current_read, current_place}
use Rattle.records.proofs.room.Cluster.current.Goals as goal

pub returns-clause-current : goal.returns-clause-current
returns-clause-current c = rw c.current_at.ensures.0 (current_read _ _ _ c.self.invariant c.self.view_is _ _ refl c.requires)

pub returns-clause-place : goal.returns-clause-place
returns-clause-place c = rw c.current_at.ensures.0 (current_place _ _ _ c.self.invariant c.self.view_is _ _ refl c.requires)
