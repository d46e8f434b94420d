use mathlib.Core.List.{List}
use mathlib.Core.Path.{◌∙◌, ap, sym}
use borrow.Author.Rules.{rules}
use borrow.Author.Tests.{tests}
use Rattle.std.proofs.Common.{arith}
use Rattle.std.specs.Option.{unwrap_or}
use Rattle.std.proofs.lemmas.Iterator.{YieldsList-from_map}
use Rattle.std.proofs.lemmas.Iterator.Adapters.{option_map_id}
use Rattle.std.proofs.lemmas.Iterator.Consumers.{max_from_yields_List, YieldsList-from_first}
use Rattle.records.specs.Plan.{Move}
use Rattle.rules.specs.Cost.{memory_of}
use Rattle.rules.proofs.Laws.Costs.{capped, largest-is, largest-low}
use Rattle.rules.proofs.cost.step_cost.Goals as goal

pub returns-clause-cost : goal.returns-clause-cost
returns-clause-cost c =
    let e = sym (option_map_id _) ∙ max_from_yields_List _ _ c.max.ensures.ran
    (YieldsList-from_map _ (memory_of c.args.cluster.now) (YieldsList-from_first (λ (x : Move). x) (λ (s : List Move). s) c.args.step.now (cc)) c.map.ensures.closure (λ x r q k. search (rules, tests))) in
    c.unwrap_or.ensures ∙ ap (λ o. unwrap_or o 0) e ∙ largest-is c.args.cluster.now c.args.step.now

pub returns-clause-most : goal.returns-clause-most
returns-clause-most c =
    let e = sym (option_map_id _) ∙ max_from_yields_List _ _ c.max.ensures.ran
    (YieldsList-from_map _ (capped c.args.cluster.now) (YieldsList-from_first (λ (x : Move). x) (λ (s : List Move). s) c.args.step.now (cc)) c.map.ensures.closure (λ x r q k. search (rules, tests))) in
    let f = c.unwrap_or.ensures ∙ ap (λ o. unwrap_or o 0) e in
    let g = largest-low c.args.cluster.now c.args.step.now in omega arith
