use mathlib.Core.Path.{◌≡◌}
use lib.ListN.{length, take, drop}
use Rattle.stop.proofs.record.copy_front.Given as goal

abbrev pub invariant-loop-i : goal.invariant-loop-i
invariant-loop-i at = (length at.out ≡ length at.initial.out) × (take at.i at.out ≡ take at.i at.bytes) × (drop at.i at.out ≡ drop at.i at.initial.out)
