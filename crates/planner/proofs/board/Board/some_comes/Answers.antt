use mathlib.Core.Path.{◌∙◌}
use native.Mathlib.Omega.{arith}
use lib.ListN.{length}
use borrow.Author.Rules.{rules}
use borrow.Author.Tests.{tests}
use Rattle.std.proofs.lemmas.Iterator.{YieldsList-from_range, serves_from_Range}
use Rattle.std.proofs.lemmas.Iterator.Search.{any_from_yields_List}
use Rattle.rules.specs.Inner.{held}
use Rattle.planner.specs.Inner.{comer}
use Rattle.planner.proofs.Laws.Lone.{rested-still, vms-ranged}
use Rattle.planner.proofs.board.Board.some_comes.Goals as goal

pub any-requires-clause-callable : goal.any-requires-clause-callable
any-requires-clause-callable c =
    let n = c.vm_count.ensures.count in
    serves_from_Range (λ x q r. search rules)
    (λ x a b t p g e s u f h j. (omega (arith, b), (c.requires, rested-still _ _ _ _ c.loads_at_rest.ensures c.args.self.now.known.sound c.requires)))

pub returns : goal.returns
returns c =
    let room = c.args.self.now.cluster.now in let places = held room c.args.self.now.places.now in
    any_from_yields_List (comer room places c.args.v c.args.p) _ _ c.any.result c.any.ensures.ran
    (YieldsList-from_range 0 (length room.vms) (length room.vms) (cc) (omega arith)) (λ x b q k. search (rules, tests)) ∙
    vms-ranged room places c.args.v c.args.p
