use mathlib.Core.Path.{◌≡◌}
use Rattle.rules.specs.Inner.{row_kept}
use Rattle.rules.proofs.allow.keep_row.Given as goal

abbrev pub invariant-loop-d : goal.invariant-loop-d
invariant-loop-d l = l.row ≡ row_kept l.initial.row l.stop l.d
