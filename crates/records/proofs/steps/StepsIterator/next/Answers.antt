use Rattle.std.proofs.Common.{arith}
use Rattle.records.proofs.Laws.Steps.{more-steps}
use Rattle.records.proofs.steps.StepsIterator.next.Goals as goal

pub invariant_of-self : goal.invariant_of-self
invariant_of-self c = more-steps _ _ _ _ c.self.invariant (omega arith) (omega arith)
