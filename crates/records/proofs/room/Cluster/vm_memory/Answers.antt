use Rattle.std.proofs.Common.{◌∙◌}
use Rattle.records.proofs.Laws.Reading.{memory_read, memory_least}
use Rattle.records.proofs.room.Cluster.vm_memory.Goals as goal

pub returns-clause-memory : goal.returns-clause-memory
returns-clause-memory c = memory_read _ _ _ c.self.invariant c.self.view_is _ _ c.vm_row.ensures.0 c.requires _ (c.from.ensures ∙ c.be24.ensures.0)

pub returns-clause-least : goal.returns-clause-least
returns-clause-least c = memory_least _ _ _ c.self.invariant c.self.view_is _ _ c.vm_row.ensures.0 c.requires _ (c.from.ensures ∙ c.be24.ensures.0)
