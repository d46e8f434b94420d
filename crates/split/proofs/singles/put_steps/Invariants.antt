use mathlib.Core.List.{◌++◌}
use mathlib.Core.Path.{◌≡◌}
use Rattle.split.specs.Splits.{all_singles}
use Rattle.split.specs.Inner.{PutSteps}
use Rattle.split.proofs.singles.put_steps.Given as goal

abbrev pub invariant-loop-step : goal.invariant-loop-step
invariant-loop-step l = record {
  put : PutSteps (all_singles l.yielded) 7 l.initial.out l.out l.end;
  left : l.yielded ++ l.step-iterator ≡ l.plan;
}
