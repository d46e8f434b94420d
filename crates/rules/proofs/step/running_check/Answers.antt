use mathlib.Core.Path.{◌∙◌}
use borrow.Author.Rules.{rules}
use Rattle.rules.proofs.Laws.Places.{dests-after}
use Rattle.rules.proofs.Laws.Check.{held-aimed, held-ready, running-misfit, running-bound}
use Rattle.rules.proofs.step.running_check.Goals as goal

pub invariant_of-running : goal.invariant_of-running
invariant_of-running c =
    let e = c.moved-dests.ensures ∙ dests-after _ _ 0 _ c.requires.well-named in
    record { ready = held-ready _ _ _ c.requires _ e }

pub fits-requires : goal.fits-requires
fits-requires c = search (rules, held-aimed)

pub returns-then-not-fits : goal.returns-then-not-fits
returns-then-not-fits c =
    let e = c.moved-dests.ensures ∙ dests-after _ _ 0 _ c.requires.well-named in
    running-misfit _ _ _ c.requires _ e _ c.fits.ensures c.if-not-fits.true

pub returns : goal.returns
returns c =
    let e = c.moved-dests.ensures ∙ dests-after _ _ 0 _ c.requires.well-named in
    running-bound _ _ _ c.requires _ e _ c.fits.ensures _ c.bound_check.ensures c.if-not-fits.false
