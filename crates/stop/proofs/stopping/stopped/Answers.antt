use mathlib.Core.Path.{◌≡◌, sym, ap, ◌∙◌}
use borrow.Author.Rules.{rules}
use Rattle.std.proofs.lemmas.Result.{err_from_is_err_and}
use Rattle.records.specs.Room.{room_at}
use Rattle.records.specs.Plan.{steps_of}
use Rattle.rules.specs.Inner.{verdict_from}
use Rattle.rules.proofs.Laws.Taken.{accepts-at, reserve-taken, cluster-whole, plan-whole}
use Rattle.stop.specs.Inner.{stopped_places}
use Rattle.stop.proofs.Laws.Promised.{stops-refused, stops-fault, stops-put}
use Rattle.stop.proofs.stopping.stopped.Goals as goal
use Rattle.stop.proofs.stopping.stopped.Goals.{After-stopped_places}

-- where the VMs are is as defined
places-are : (c : After-stopped_places) → c.stopped_places.result ≡ stopped_places (room_at c.args.reserve c.args.cluster.now) (steps_of c.args.plan.now) c.args.step c.args.marks.now
places-are c = rw (← c.whole.ensures.room, ← c.whole-2.ensures) c.stopped_places.ensures

pub returns-in_err-judged : goal.returns-in_err-judged
returns-in_err-judged c =
    let p = err_from_is_err_and c.from_residual.result c.from_residual.ensures.1 in
    rw (p.1, p.2) (stops-refused _ _ _ _ _ _ _ (sym c.judged.ensures ∙ ap verdict_from c.in_err-judged.was))

pub whole-requires-clause-taken : goal.whole-requires-clause-taken
whole-requires-clause-taken c = reserve-taken _ _ _ (accepts-at _ _ _ _ _ c.judged.ensures c.in_ok-judged.was)

pub whole-requires-clause-whole : goal.whole-requires-clause-whole
whole-requires-clause-whole c = cluster-whole _ _ _ (accepts-at _ _ _ _ _ c.judged.ensures c.in_ok-judged.was)

pub whole-requires-2 : goal.whole-requires-2
whole-requires-2 c = plan-whole _ _ _ (accepts-at _ _ _ _ _ c.judged.ensures c.in_ok-judged.was)

pub returns-in_err-places : goal.returns-in_err-places
returns-in_err-places c =
    let p = err_from_is_err_and c.from_residual-in_err-places.result c.from_residual-in_err-places.ensures.1 in
    rw (p.1, p.2)
    (stops-fault _ _ _ (accepts-at _ _ _ _ _ c.judged.ensures c.in_ok-judged.was) _ _ _ _ (places-are (goal.at.returns-in_err-places c).After-stopped_places) _ c.in_err-places.was)

pub put_record-requires : goal.put_record-requires
put_record-requires c = cluster-whole _ _ _ (accepts-at _ _ _ _ _ c.judged.ensures c.in_ok-judged.was)

pub returns : goal.returns
returns c =
    stops-put _ _ _ (accepts-at _ _ _ _ _ c.judged.ensures c.in_ok-judged.was) _ _ _ _ (places-are (goal.at.returns c).After-stopped_places) _ c.in_ok-places.was _ _ c.put_record.ensures (search rules)
