use Rattle.records.proofs.Laws.Cluster.{counts-nodes-most, filled-ends, filled-rows}
use Rattle.records.proofs.cluster.cluster_check.Goals as goal

pub vms_sound-requires : goal.vms_sound-requires
vms_sound-requires c = filled-rows _ c.filled.result c.filled.ensures c.if-not-filled.false

pub parts_sound-requires : goal.parts_sound-requires
parts_sound-requires c = (
  filled-ends _ c.filled.result c.filled.ensures c.if-not-filled.false,
  counts-nodes-most _ c.counts_within.result c.counts_within.ensures c.if-not-counts_within.false,
)
