use Rattle.std.proofs.Common.{◌∙◌}
use Rattle.records.proofs.Laws.Reading.{node_memory_read}
use Rattle.records.proofs.room.Cluster.node_memory.Goals as goal

pub returns : goal.returns
returns c = node_memory_read _ _ _ c.self.invariant c.self.view_is _ _ c.node_row.ensures.0 c.requires _ _ (c.from.ensures ∙ c.be24-memory.ensures.0) c.usable_of.ensures
