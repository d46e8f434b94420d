use borrow.Author.Rules.{rules}
use Rattle.split.proofs.Laws.Writing.{left-next, all-none, putting-room, putting-more, putting-end}
use Rattle.split.proofs.singles.put_steps.Goals as goal

pub loop-step-init : goal.loop-step-init
loop-step-init c = record { put = all-none _; left = search rules }

pub put_step-end-requires : goal.put_step-end-requires
put_step-end-requires c = putting-room _ _ _ _ _ _ _ _ c.loop-step.invariant.put c.loop-step.invariant.left c.in-Some.ensures.steps c.requires.few c.requires.long

pub loop-step-preserved : goal.loop-step-preserved
loop-step-preserved c =
    let l = c.loop-step.invariant in
    record {
      put = putting-more _ _ _ _ _ _ _ _ l.put l.left c.in-Some.ensures.steps c.requires.few c.requires.long _ _ c.put_step-end.ensures;
      left = left-next _ _ _ _ _ l.left c.in-Some.ensures.steps;
    }

pub returns : goal.returns
returns c = putting-end _ _ _ _ _ _ c.loop-step.invariant.put c.loop-step.invariant.left c.in-None.ensures.steps.0
