use Rattle.rules.proofs.Laws.Targets.{rest-ready}
use Rattle.rules.proofs.loads.loads_at_rest.Goals as goal

pub invariant_of-rest : goal.invariant_of-rest
invariant_of-rest c = record { ready = rest-ready c.args.cluster.now c.args.places.now }
