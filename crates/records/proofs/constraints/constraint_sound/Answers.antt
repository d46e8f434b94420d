use borrow.Author.Rules.{rules}
use Rattle.std.proofs.Common.{refl}
use Rattle.records.proofs.Laws.Constraints.{constraint-short, constraint-unknown, constraint-pair, nodes-missing, nodes-behind-vms, spread-missing, nothing-behind-vms, latency-missing, groups-behind-vms}
use Rattle.records.proofs.constraints.constraint_sound.Goals as goal

pub returns-in_default : goal.returns-in_default
returns-in_default c = search (rules, constraint-short)

pub returns-in_default-of : goal.returns-in_default-of
returns-in_default-of c = search (rules, constraint-unknown)

pub returns-in-Ban : goal.returns-in-Ban
returns-in-Ban c =
    let missing = nodes-missing c.args.vms c.args.nodes _ _ refl c.in-len3-up.len_at_least c.vm_list.result c.in-Some.kind c.in-Some.ensures c.vm_list.ensures c.in-Ban.is in
    let behind = nodes-behind-vms c.args.vms c.args.nodes _ _ refl c.in-len3-up.len_at_least c.vm_list.result c.in-Some.kind c.in-Some.ensures c.vm_list.ensures c.in-Ban.is in
    search (rules, missing, behind)

pub returns-in-Spread : goal.returns-in-Spread
returns-in-Spread c = search (rules, spread-missing, nothing-behind-vms)

pub returns-in-Latency : goal.returns-in-Latency
returns-in-Latency c = search (rules, latency-missing, groups-behind-vms)

pub returns-in-Before : goal.returns-in-Before
returns-in-Before c = search (rules, constraint-pair)
