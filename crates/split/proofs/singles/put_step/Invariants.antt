use mathlib.Core.List.{◌++◌}
use mathlib.Core.Path.{◌≡◌}
use Rattle.split.specs.Splits.{singles}
use Rattle.split.specs.Inner.{PutSteps}
use Rattle.split.proofs.singles.put_step.Given as goal

abbrev pub invariant-loop-step_move : goal.invariant-loop-step_move
invariant-loop-step_move l = record {
  put : PutSteps (singles l.yielded) l.start l.initial.out l.out l.end;
  left : l.yielded ++ l.step_move-iterator ≡ l.step;
}
