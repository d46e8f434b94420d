use Rattle.rules.specs.Inner.{Loaded}
use Rattle.rules.proofs.loads.Running.loads.Given as goal

abbrev pub invariant-loop-v : goal.invariant-loop-v
invariant-loop-v l = Loaded l.self.cluster.now l.self.places.now l.self.dests.now l.v l.sums
