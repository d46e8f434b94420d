use lib.ListN.{length}
use Rattle.records.proofs.Laws.Walk.{pair-sound}
use Rattle.rules.proofs.Laws.Bound.{turn-pair, turn-none}
use Rattle.rules.proofs.loads.Running.turn_kept.Goals as goal

pub pair_in_turn-requires-clause-first : goal.pair_in_turn-requires-clause-first
pair_in_turn-requires-clause-first c =
    rw c.first.ensures (pair-sound (length c.args.self.now.cluster.now.vms) (length c.args.self.now.cluster.now.nodes) c.args.constraint.now c.requires (rw c.kind.ensures at c.in-Before.is)).0

pub pair_in_turn-requires-clause-second : goal.pair_in_turn-requires-clause-second
pair_in_turn-requires-clause-second c =
    rw c.second.ensures (pair-sound (length c.args.self.now.cluster.now.vms) (length c.args.self.now.cluster.now.nodes) c.args.constraint.now c.requires (rw c.kind.ensures at c.in-Before.is)).1

pub returns-in-Before : goal.returns-in-Before
returns-in-Before c =
    let e = turn-pair c.args.self.now.cluster.now c.args.self.now.places.now c.args.self.now.dests.now c.args.constraint.now (rw c.kind.ensures at c.in-Before.is) in cc

pub returns-in_default : goal.returns-in_default
returns-in_default c = turn-none c.args.self.now.cluster.now c.args.self.now.places.now c.args.self.now.dests.now c.args.constraint.now (rw c.kind.ensures at c.in_default.not-Before)
