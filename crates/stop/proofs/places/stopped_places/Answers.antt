use mathlib.Core.Path.{◌≡◌, ◌∙◌}
use native.Mathlib.Omega.{arith}
use borrow.Author.Rules.{rules}
use Rattle.std.specs.Prelude.{suc, ◌<◌, Err}
use Rattle.stop.specs.declared.outcome.StopFault.TheVariants.{NoStep}
use Rattle.stop.proofs.Laws.Walks.{places-zero, places-no-step, places-bad-mark, places-are}
use Rattle.stop.proofs.places.stopped_places.Goals as goal
use Rattle.stop.proofs.places.stopped_places.Goals.{In_ok-before}

pub returns-in_err-before : goal.returns-in_err-before
returns-in_err-before c =
    let z : c.args.number < 1 = grind arith in
    let e : c.from_residual.result ≡ Err NoStep = grind arith in
    e ∙ places-zero _ _ _ _ z

one-more : (c : In_ok-before) → c.args.number ≡ suc c.in_ok-before.before
one-more c = grind arith

pub returns-in_err-step : goal.returns-in_err-step
returns-in_err-step c =
    let e : c.from_residual-in_err-step.result ≡ Err NoStep = grind arith in
    e ∙ places-no-step _ _ _ _ _ (omega (arith, one-more (goal.at.returns-in_err-step c).In_ok-before)) _ c.marked_step.ensures (grind arith)

pub returns-then-not-marks_sound : goal.returns-then-not-marks_sound
returns-then-not-marks_sound c = places-bad-mark _ _ _ _ _ (omega (arith, one-more (goal.at.returns-then-not-marks_sound c).In_ok-before)) _ c.marked_step.ensures c.in_ok-step.step (grind arith) _ c.marks_sound.ensures (search rules)

pub returns : goal.returns
returns c = places-are _ _ _ _ _ (omega (arith, one-more (goal.at.returns c).In_ok-before)) _ c.marked_step.ensures c.in_ok-step.step (grind arith) _ c.marks_sound.ensures _ _ (search rules) c.places_before-places.ensures c.places_marked.ensures
