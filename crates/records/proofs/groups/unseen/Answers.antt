use Rattle.std.proofs.Common.{rules, ◌∙◌, ℕ, arith}
use mathlib.Core.Bool.{false, not}
use lib.ListN.{get_or}
use borrow.Author.Tests.{tests}
use Rattle.std.proofs.lemmas.Grind.{get_or_default_zero}
use Rattle.std.proofs.lemmas.Iterator.{YieldsList-from_slice}
use Rattle.std.proofs.lemmas.Iterator.Adapters.{serves_from_places}
use Rattle.std.proofs.lemmas.Iterator.Search.{all_from_yields_List}
use Rattle.records.specs.Inner.{unseen_in}
use Rattle.records.proofs.Laws.Bools.{all-listed}
use Rattle.records.proofs.groups.unseen.Goals as goal

pub all-requires-clause-callable : goal.all-requires-clause-callable
all-requires-clause-callable c =
    serves_from_places (YieldsList-from_slice c.args.nodes.now cc) (λ x q k. search (rules, tests))
    (λ x k h e lifetimes pointer name same fits from size.
    let below = c.requires.each k in
    let zero = get_or_default_zero c.args.nodes.now k x.now h in
    let index = from.ensures in
    omega arith)

pub returns : goal.returns
unfolding unseen_in
returns c =
    all_from_yields_List (λ (d : ℕ). not (get_or c.args.seen.now d false)) _ _ _ c.all.ensures.ran (YieldsList-from_slice c.args.nodes.now cc)
    (λ x b q k. search (rules, tests)) ∙
    all-listed (λ (d : ℕ). not (get_or c.args.seen.now d false)) c.args.nodes.now
