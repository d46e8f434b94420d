use Rattle.std.proofs.Common.{◌≡◌, ◌++◌, take, drop}
use Rattle.files.specs.Number.{values_of}
use Rattle.files.proofs.decimal.to_values.Given as goal

abbrev pub invariant-loop-c : goal.invariant-loop-c
invariant-loop-c l = l.text ≡ values_of (take l.c-index l.fn.text) ++ drop l.c-index l.fn.text
