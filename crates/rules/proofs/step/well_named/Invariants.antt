use Rattle.std.proofs.Common.{◌≡◌}
use Rattle.rules.specs.Rules.{named}
use Rattle.rules.specs.Inner.{held}
use Rattle.rules.proofs.step.well_named.Given as goal

abbrev pub invariant-loop-m : goal.invariant-loop-m
invariant-loop-m l = (named l.cluster (held l.cluster l.places) l.least l.m-iterator ≡ named l.cluster (held l.cluster l.places) 0 l.step)
