use Rattle.std.specs.Prelude.{List}
use Rattle.std.proofs.Common.{rules, ◌∙◌}
use borrow.Author.Tests.{tests}
use Rattle.std.proofs.lemmas.Iterator.Consumers.{YieldsList-from_first}
use Rattle.std.proofs.lemmas.Iterator.Search.{all_from_yields_List}
use Rattle.records.specs.Plan.{Move}
use Rattle.rules.specs.Moments.{place_of}
use Rattle.rules.specs.Rules.{is_place, sourced}
use Rattle.records.proofs.Laws.Bools.{all-listed}
use Rattle.rules.proofs.step.well_sourced.Goals as goal

pub returns : goal.returns
unfolding sourced
returns c =
    all_from_yields_List (λ move. is_place move.source (place_of c.args.places.now move.vm)) _ _ _ c.all.ensures.ran
    (YieldsList-from_first (λ (x : Move). x) (λ (s : List Move). s) c.args.step.now c.moves.ensures.is) (λ x b q k. search (rules, tests)) ∙
    all-listed (λ move. is_place move.source (place_of c.args.places.now move.vm)) c.args.step.now
