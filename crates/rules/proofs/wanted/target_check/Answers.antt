use Rattle.std.proofs.Common.{arith}
use Rattle.std.proofs.lemmas.Grind.{common_steps}
use Rattle.rules.specs.Rules.{target_check}
use Rattle.rules.proofs.Laws.Kept.{target-fits, target-kept}
use Rattle.rules.proofs.wanted.target_check.Goals as goal

pub returns-then-not-places_fit : goal.returns-then-not-places_fit
unfolding target_check
returns-then-not-places_fit c =
    let e = target-fits c.args.cluster.now c.target_places-places.result c.target_places-places.ensures c.places_fit.ensures.sound in
    grind (arith, common_steps, e)

pub returns-then-not-all_kept : goal.returns-then-not-all_kept
unfolding target_check
returns-then-not-all_kept c =
    let e = target-fits c.args.cluster.now c.target_places-places.result c.target_places-places.ensures c.places_fit.ensures.sound in
    let k = target-kept c.args.cluster.now c.target_places-places.result c.target_places-places.ensures c.places_fit.ensures.sound in
    grind (arith, common_steps, e, k)

pub returns : goal.returns
unfolding target_check
returns c =
    let e = target-fits c.args.cluster.now c.target_places-places.result c.target_places-places.ensures c.places_fit.ensures.sound in
    let k = target-kept c.args.cluster.now c.target_places-places.result c.target_places-places.ensures c.places_fit.ensures.sound in
    grind (arith, common_steps, e, k)
