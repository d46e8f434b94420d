use mathlib.Core.List.{List}
use mathlib.Core.Path.{◌∙◌}
use native.Mathlib.Omega.{arith}
use borrow.Author.Rules.{rules}
use borrow.Author.Tests.{tests}
use Rattle.std.proofs.Common.{◌+◌}
use Rattle.std.proofs.lemmas.Iterator.{YieldsList-from_map}
use Rattle.std.proofs.lemmas.Iterator.Consumers.{sum_by_from_yields_List, fits_by_from_yields_list, YieldsList-from_first}
use Rattle.records.specs.Plan.{Move}
use Rattle.rules.specs.Cost.{memory_of}
use Rattle.rules.proofs.Laws.Costs.{capped, few_together, summed-is, summed-most}
use Rattle.rules.proofs.cost.step_sum.Goals as goal

pub sum-requires-clause-fits : goal.sum-requires-clause-fits
sum-requires-clause-fits c =
    fits_by_from_yields_list (λ move. capped c.args.cluster.now move + c.args.before) c.args.step.now _ _
    (YieldsList-from_map _ (λ move. capped c.args.cluster.now move + c.args.before) (YieldsList-from_first (λ (x : Move). x) (λ (s : List Move). s) c.args.step.now (cc)) c.map.ensures.closure (λ x r q k. search (rules, tests)))
    (let l = summed-most c.args.cluster.now c.args.before c.args.step.now c.requires in let n = few_together c.args.step.now c.moves.ensures.sized in omega arith)

pub returns-clause-sum : goal.returns-clause-sum
returns-clause-sum c =
    sum_by_from_yields_List (λ move. memory_of c.args.cluster.now move + c.args.before) c.args.step.now _ _ c.sum.ensures.ran
    (YieldsList-from_map _ (λ move. memory_of c.args.cluster.now move + c.args.before) (YieldsList-from_first (λ (x : Move). x) (λ (s : List Move). s) c.args.step.now (cc)) c.map.ensures.closure (λ x r q k. search (rules, tests))) ∙
    summed-is c.args.cluster.now c.args.before c.args.step.now

pub returns-clause-most : goal.returns-clause-most
returns-clause-most c =
    let e = sum_by_from_yields_List (λ move. capped c.args.cluster.now move + c.args.before) c.args.step.now _ _ c.sum.ensures.ran
    (YieldsList-from_map _ (λ move. capped c.args.cluster.now move + c.args.before) (YieldsList-from_first (λ (x : Move). x) (λ (s : List Move). s) c.args.step.now (cc)) c.map.ensures.closure (λ x r q k. search (rules, tests))) in
    let l = summed-most c.args.cluster.now c.args.before c.args.step.now c.requires in omega arith
