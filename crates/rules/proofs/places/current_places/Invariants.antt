use Rattle.rules.specs.Moments.{current_of}
use Rattle.rules.specs.Inner.{Filling}
use Rattle.rules.proofs.places.current_places.Given as goal

abbrev pub invariant-loop-v : goal.invariant-loop-v
invariant-loop-v l = Filling l.places (current_of l.cluster) l.v
