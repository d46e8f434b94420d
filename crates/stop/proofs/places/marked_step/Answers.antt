use mathlib.Core.List.{List}
use mathlib.Core.Path.{◌≡◌, sym, ◌∙◌}
use Rattle.std.specs.List.{slice_get}
use Rattle.std.proofs.lemmas.Iterator.Adapters.{option_map_id}
use Rattle.std.proofs.lemmas.Iterator.Consumers.{nth_from_yields_List, YieldsList-from_first}
use Rattle.records.specs.Plan.{Step}
use Rattle.stop.proofs.Laws.Walks.{marked-past, marked-when}
use Rattle.stop.proofs.places.marked_step.Goals as goal
use Rattle.stop.proofs.places.marked_step.Goals.{After-nth}

-- what stands at its place
nth-is : (c : After-nth) → c.nth.result ≡ slice_get c.args.plan.now c.args.n
nth-is c =
    sym (option_map_id c.nth.result) ∙ nth_from_yields_List _ _ _ c.nth.ensures.ran (YieldsList-from_first (λ (x : Step). x) (λ (s : List Step). s) c.args.plan.now c.steps.ensures.is)

pub returns-in_err-step : goal.returns-in_err-step
returns-in_err-step c = c.from_residual.ensures ∙ marked-past _ _ _ (sym (nth-is (goal.at.returns-in_err-step c).After-nth) ∙ c.in_err-step.was)

pub returns : goal.returns
returns c =
    c.then_some.ensures ∙ rw (c.len.ensures.count) (marked-when _ _ _ _ (sym (nth-is (goal.at.returns c).After-nth) ∙ c.in_ok-step.was))
