use Rattle.std.proofs.Common.{◌<◌, length, arith, rules}
use Rattle.rules.proofs.Laws.Loads.{loaded-start, loaded-more, loaded-end, light-memory, light-cpu, second-memory, second-cpu}
use Rattle.rules.proofs.loads.Running.loads.Goals as goal

pub loop-v-init : goal.loop-v-init
loop-v-init c = loaded-start _ _ _

pub with-requires : goal.with-requires
with-requires c = search (rules, light-memory, light-cpu)

pub with-requires-in-loop-v : goal.with-requires-in-loop-v
with-requires-in-loop-v c =
    let h : c.loop-v.v < length c.args.self.now.cluster.now.vms = omega arith in
    let q : c.from-to.result < 256 = omega arith in
    search (rules, second-memory, second-cpu)

pub loop-v-preserved : goal.loop-v-preserved
loop-v-preserved c =
    let h : c.loop-v.v < length c.args.self.now.cluster.now.vms = omega arith in
    let q : c.from-to.result < 256 = omega arith in
    let p : c.from-place.result < 256 = omega arith in
    loaded-more _ _ _ _ _ _ _ _ _ _ c.loop-v.invariant c.args.self.now.ready c.need_of-vm.ensures c.from-to.ensures c.from-place.ensures q p h (omega arith) c.with.ensures c.with-in-loop-v.ensures

pub returns : goal.returns
returns c = search (rules, loaded-end)
