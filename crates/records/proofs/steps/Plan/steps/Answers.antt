use Rattle.std.proofs.Common.{arith}
use Rattle.records.proofs.Laws.Steps.{first-steps, count-is}
use Rattle.records.proofs.steps.Plan.steps.Goals as goal

pub invariant_of-result : goal.invariant_of-result
invariant_of-result c = first-steps _ _ c.self.invariant (grind (arith, count-is))
