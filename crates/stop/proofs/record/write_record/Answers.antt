use Rattle.std.proofs.Common.{◌∙◌, refl, arith}
use borrow.Author.Rules.{rules}
use Rattle.stop.proofs.Laws.Writing.{put-start, put-more, put-end, view-count, view-place, view-within}
use Rattle.stop.proofs.record.write_record.Goals as goal

pub loop-v-init : goal.loop-v-init
loop-v-init c = search (rules, put-start)

pub put_place-requires-clause-within : goal.put_place-requires-clause-within
put_place-requires-clause-within c =
    let n = view-count c.args.cluster.now c.whole-view.result c.whole-view.ensures.room in
    let k = view-within c.args.cluster.now c.whole-view.result c.whole-view.ensures.room c.loop-v.v c.requires.whole (omega arith) in
    let l = c.loop-v.auto.out in
    omega arith

pub loop-v-preserved : goal.loop-v-preserved
loop-v-preserved c =
    let n = view-count c.args.cluster.now c.whole-view.result c.whole-view.ensures.room in
    put-more _ _ _ _ _ _ _ _ (view-place _ _ c.whole-view.ensures.room _) refl c.put_place.ensures c.loop-v.invariant c.requires.whole (omega arith)

pub returns : goal.returns
returns c = put-end _ _ _ _ _ _ (c.vm_count-v-end.ensures.count ∙ view-count _ _ c.whole-view.ensures.room) c.loop-v.invariant (omega arith)
