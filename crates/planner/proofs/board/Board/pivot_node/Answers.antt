use mathlib.Core.Path.{sym, ◌∙◌}
use native.Mathlib.Omega.{arith}
use lib.ListN.{length}
use borrow.Author.Rules.{rules}
use borrow.Author.Tests.{tests}
use Rattle.std.proofs.lemmas.Iterator.{YieldsList-from_range, serves_from_Range}
use Rattle.std.proofs.lemmas.Iterator.Adapters.{option_map_id}
use Rattle.std.proofs.lemmas.Iterator.Search.{find_from_yields_List}
use Rattle.rules.specs.Inner.{held}
use Rattle.planner.specs.Inner.{aside}
use Rattle.planner.proofs.Laws.Lone.{rested-still, nodes-ranged}
use Rattle.planner.proofs.board.Board.pivot_node.Goals as goal

pub find-requires-clause-callable : goal.find-requires-clause-callable
find-requires-clause-callable c =
    let k = c.args.self.now.known.sound in
    let m = k.nodes-most in
    let n = c.node_count.ensures.count in
    serves_from_Range (λ x q r. search rules)
    (λ x a b y same. (
      (λ t p g e f. record { fits = omega (arith, b, same) }),
      (λ t p g e f. omega (arith, b, same)),
      (λ t p g e f u h j. (c.requires.vm, (omega (arith, b, same), rested-still _ _ _ _ c.requires.sums k (omega (arith, b, same))))),
    ))

pub returns : goal.returns
returns c =
    let room = c.args.self.now.cluster.now in let places = held room c.args.self.now.places.now in
    sym (option_map_id _) ∙
    find_from_yields_List (aside room places c.args.v) _ _ c.find.result c.find.ensures.ran
    (YieldsList-from_range 0 (length room.nodes) (length room.nodes) (cc) (omega arith)) (λ x b q k. search (rules, tests)) ∙
    nodes-ranged room places c.args.v
