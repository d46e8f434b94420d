use Rattle.std.proofs.Common.{◌∙◌}
use Rattle.records.proofs.Laws.Reading.{node_cpu_read}
use Rattle.records.proofs.room.Cluster.node_cpu.Goals as goal

pub returns : goal.returns
returns c = node_cpu_read _ _ _ c.self.invariant c.self.view_is _ _ c.node_row.ensures.0 c.requires _ _ (c.from.ensures ∙ c.be16-cpu.ensures) c.usable_of.ensures
