use borrow.Author.Rules.{rules}
use Rattle.split.proofs.Laws.Writing.{left-next, step-start, step-room, step-more, step-done}
use Rattle.split.proofs.singles.put_step.Goals as goal

pub loop-step_move-init : goal.loop-step_move-init
loop-step_move-init c = record { put = step-start _ _; left = search rules }

pub append_single-end-requires : goal.append_single-end-requires
append_single-end-requires c = step-room _ _ _ _ _ _ _ _ _ c.loop-step_move.invariant.put c.loop-step_move.invariant.left c.in-Some.ensures.steps c.requires

pub loop-step_move-preserved : goal.loop-step_move-preserved
loop-step_move-preserved c =
    let l = c.loop-step_move.invariant in
    let e = c.append_single-end.ensures in
    record {
      put = step-more _ _ _ _ _ _ _ _ _ l.put l.left c.in-Some.ensures.steps c.requires _ _ e.0 e.1;
      left = left-next _ _ _ _ _ l.left c.in-Some.ensures.steps;
    }

pub returns : goal.returns
returns c = step-done _ _ _ _ _ _ _ c.loop-step_move.invariant.put c.loop-step_move.invariant.left c.in-None.ensures.steps.0
