use mathlib.Core.Path.{◌≡◌, sym, ap, ◌∙◌}
use native.Mathlib.Omega.{arith}
use Rattle.std.proofs.lemmas.Result.{err_from_is_err_and}
use Rattle.records.specs.Plan.{move_total, steps_of}
use Rattle.rules.specs.Inner.{verdict_from}
use Rattle.rules.proofs.Laws.Taken.{accepts-at, reserve-taken, cluster-whole, plan-whole}
use Rattle.split.specs.Splits.{all_singles, divided_into}
use Rattle.split.proofs.Laws.Promised.{splits-refused, splits-short, splits-many, splits-done}
use Rattle.split.proofs.splitting.split_plan.Goals as goal
use Rattle.split.proofs.splitting.split_plan.Goals.{After-moves_in-moves}

-- the moves are counted
count-is : (c : After-moves_in-moves) → c.moves_in-moves.result ≡ move_total (steps_of c.args.plan.now)
count-is c = c.moves_in-moves.ensures ∙ ap move_total c.whole.ensures

pub returns-in_err-judged : goal.returns-in_err-judged
returns-in_err-judged c =
    let p = err_from_is_err_and c.from_residual.result c.from_residual.ensures.1 in
    rw (p.1, p.2) (splits-refused _ _ _ _ _ (sym c.judged.ensures ∙ ap verdict_from c.in_err-judged.was))

pub whole-requires : goal.whole-requires
whole-requires c = plan-whole _ _ _ (accepts-at _ _ _ _ _ c.judged.ensures c.in_ok-judged.was)

pub returns-then-out-lt-LEAST_BUFFER : goal.returns-then-out-lt-LEAST_BUFFER
returns-then-out-lt-LEAST_BUFFER c = splits-short _ _ _ _ (accepts-at _ _ _ _ _ c.judged.ensures c.in_ok-judged.was) (omega arith)

pub returns-then-moves-gt-MOST_STEPS : goal.returns-then-moves-gt-MOST_STEPS
returns-then-moves-gt-MOST_STEPS c =
    splits-many _ _ _ _ (accepts-at _ _ _ _ _ c.judged.ensures c.in_ok-judged.was) _ (count-is (goal.at.returns-then-moves-gt-MOST_STEPS c).After-moves_in-moves) (omega arith)
    (omega arith)

pub whole-requires-2-clause-taken : goal.whole-requires-2-clause-taken
whole-requires-2-clause-taken c = reserve-taken _ _ _ (accepts-at _ _ _ _ _ c.judged.ensures c.in_ok-judged.was)

pub whole-requires-2-clause-whole : goal.whole-requires-2-clause-whole
whole-requires-2-clause-whole c = cluster-whole _ _ _ (accepts-at _ _ _ _ _ c.judged.ensures c.in_ok-judged.was)

pub divided-requires-clause-whole : goal.divided-requires-clause-whole
divided-requires-clause-whole c = plan-whole _ _ _ (accepts-at _ _ _ _ _ c.judged.ensures c.in_ok-judged.was)

pub returns : goal.returns
returns c =
    splits-done _ _ _ _ (accepts-at _ _ _ _ _ c.judged.ensures c.in_ok-judged.was) _ (count-is (goal.at.returns c).After-moves_in-moves) (omega arith) _ _
    (c.divided.ensures.divided ∙ ap (λ room. divided_into room (all_singles (steps_of c.args.plan.now))) c.whole-2.ensures.room) c.divided.ensures.written (omega arith)
