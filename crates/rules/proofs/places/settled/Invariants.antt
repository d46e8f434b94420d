use Rattle.std.proofs.Common.{◌≡◌}
use Rattle.rules.specs.Moments.{after}
use Rattle.rules.proofs.places.settled.Given as goal

abbrev pub invariant-loop-m : goal.invariant-loop-m
invariant-loop-m l = (after l.places l.m-iterator ≡ after l.initial.places l.fn.moves)
