use Rattle.records.proofs.Laws.Reading.{target_read, target_place}
use Rattle.records.proofs.room.Cluster.target.Goals as goal

pub returns-clause-target : goal.returns-clause-target
returns-clause-target c = target_read _ _ _ c.self.invariant c.self.view_is _ _ c.vm_row.ensures.0 c.requires

pub returns-clause-place : goal.returns-clause-place
returns-clause-place c = target_place _ _ _ c.self.invariant c.self.view_is _ _ c.vm_row.ensures.0 c.requires
