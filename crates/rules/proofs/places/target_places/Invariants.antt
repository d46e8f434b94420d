use Rattle.rules.specs.Moments.{target_of}
use Rattle.rules.specs.Inner.{Filling}
use Rattle.rules.proofs.places.target_places.Given as goal

abbrev pub invariant-loop-v : goal.invariant-loop-v
invariant-loop-v l = Filling l.places (target_of l.cluster) l.v
