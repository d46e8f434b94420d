use mathlib.Core.List.{List}
use mathlib.Core.Path.{◌∙◌}
use native.Mathlib.Omega.{arith}
use lib.ListN.{length}
use borrow.Author.Rules.{rules}
use borrow.Author.Tests.{tests}
use Rattle.std.proofs.lemmas.Iterator.{YieldsList-from_map}
use Rattle.std.proofs.lemmas.Iterator.Consumers.{sum_by_from_yields_List, fits_by_from_yields_list, YieldsList-from_first}
use Rattle.records.specs.Plan.{Step}
use Rattle.split.proofs.Laws.Writing.{total-by, total-most}
use Rattle.split.proofs.singles.moves_in.Goals as goal

pub sum-requires-clause-fits : goal.sum-requires-clause-fits
sum-requires-clause-fits c =
    fits_by_from_yields_list length c.args.plan.now _ _
    (YieldsList-from_map _ length (YieldsList-from_first (λ (x : Step). x) (λ (s : List Step). s) c.args.plan.now (cc)) c.map.ensures.closure (λ x r q k. search (rules, tests)))
    (let e = total-by c.args.plan.now in let l = total-most c.args.plan.now c.steps.ensures.shaped in omega arith)

pub returns : goal.returns
returns c =
    sum_by_from_yields_List length c.args.plan.now _ _ c.sum.ensures.ran
    (YieldsList-from_map _ length (YieldsList-from_first (λ (x : Step). x) (λ (s : List Step). s) c.args.plan.now (cc)) c.map.ensures.closure (λ x r q k. search (rules, tests))) ∙
    total-by c.args.plan.now
