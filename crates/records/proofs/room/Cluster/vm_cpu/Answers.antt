use Rattle.std.proofs.Common.{◌∙◌}
use Rattle.records.proofs.Laws.Reading.{cpu_read}
use Rattle.records.proofs.room.Cluster.vm_cpu.Goals as goal

pub returns-clause-cpu : goal.returns-clause-cpu
returns-clause-cpu c = cpu_read _ _ _ c.self.invariant c.self.view_is _ _ c.vm_row.ensures.0 c.requires _ (c.from.ensures ∙ c.be16.ensures)
