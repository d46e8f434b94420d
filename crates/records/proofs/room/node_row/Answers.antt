use Rattle.records.proofs.Laws.Cluster.{nodes-most, whole-rows}
use native.Mathlib.Omega.{arith}
use Rattle.records.proofs.room.node_row.Goals as goal

pub overflow_mul-result : goal.overflow_mul-result
overflow_mul-result c = omega (arith, nodes-most)

pub overflow_add-result : goal.overflow_add-result
overflow_add-result c = omega (arith, nodes-most)

pub returns : goal.returns
returns c = omega (arith, whole-rows)
