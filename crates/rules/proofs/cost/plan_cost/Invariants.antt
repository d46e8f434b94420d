use Rattle.std.proofs.Common.{◌≡◌, ◌+◌, ◌*◌, ◌≤◌, length}
use Rattle.records.specs.Plan.{move_total}
use Rattle.rules.specs.Cost.{cost_from, cost_of}
use Rattle.rules.proofs.cost.plan_cost.Given as goal

-- what is left and the total make the cost of all
abbrev pub invariant-loop-step : goal.invariant-loop-step
invariant-loop-step l = record {
  left : l.total + cost_from l.cluster l.steps_cost l.step-iterator ≡ cost_of l.cluster l.plan;
  steps-low : l.steps_cost + length l.step-iterator * 16777215 ≤ 8589934080;
  low : l.total + move_total l.step-iterator * 8589934080 ≤ 1024 * 8589934080;
}
