use Rattle.stop.proofs.Laws.Walks.{before_more, before-end}
use Rattle.stop.proofs.places.places_before.Goals as goal

pub loop-step-preserved : goal.loop-step-preserved
loop-step-preserved c = before_more _ _ _ _ _ _ _ _ c.in-Some.ensures.steps.0 c.in-Some.ensures.steps.1 c.moved-next.ensures c.loop-step.invariant

pub returns : goal.returns
returns c = rw (← c.current_places-places.ensures) (before-end _ _ _ _ (λ h. (c.in-None.ensures.steps h).0) c.loop-step.invariant)
