use Rattle.std.proofs.Common.{◌<◌, length, arith, rules}
use Rattle.rules.proofs.Laws.Places.{filling-start, target_more, target-end}
use Rattle.rules.proofs.places.target_places.Goals as goal

pub loop-v-init : goal.loop-v-init
loop-v-init c = filling-start _

pub loop-v-preserved : goal.loop-v-preserved
loop-v-preserved c =
    let h : c.loop-v.v < length c.args.cluster.now.vms = omega arith in
    target_more _ _ _ _ c.vm_count-v-end.ensures.sound c.target.ensures.target c.loop-v.invariant h

pub returns : goal.returns
returns c = search (rules, target-end)
