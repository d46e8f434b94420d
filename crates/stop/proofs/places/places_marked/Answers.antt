use mathlib.Core.Logic.{inl, inr, ⊎_elim}
use Rattle.stop.proofs.Laws.Walks.{marked-end}
use Rattle.stop.proofs.places.places_marked.Goals as goal

pub returns : goal.returns
returns c = marked-end _ _ _ _ c.loop-ended.invariant (⊎_elim (λ p. inl p.1.0) (λ p. inr p.1.0) c.in-None.ensures.steps)
