use Rattle.records.proofs.Laws.Cluster.{vms-most, whole-rows}
use native.Mathlib.Omega.{arith}
use Rattle.records.proofs.room.vm_row.Goals as goal

pub overflow_mul-result : goal.overflow_mul-result
overflow_mul-result c = omega (arith, vms-most)

pub overflow_add-result : goal.overflow_add-result
overflow_add-result c = omega (arith, vms-most)

pub returns : goal.returns
returns c = omega (arith, whole-rows)
