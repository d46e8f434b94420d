use mathlib.Core.List.{List}
use mathlib.Core.Path.{◌∙◌}
use Prim.Native.Nat.{ℕ}
use borrow.Author.Rules.{rules}
use borrow.Author.Tests.{tests}
use Rattle.std.proofs.lemmas.Iterator.Adapters.{serves_from_places}
use Rattle.std.proofs.lemmas.Iterator.Consumers.{YieldsList-from_first}
use Rattle.std.proofs.lemmas.Iterator.Search.{any_from_yields_List}
use Rattle.records.specs.Room.{groups_of}
use Rattle.records.specs.Inner.{Below}
use Rattle.rules.specs.Inner.{group_holds}
use Rattle.rules.proofs.Laws.Targets.{groups-below, any-some}
use Rattle.rules.proofs.wanted.some_group_holds.Goals as goal

pub any-requires-clause-callable : goal.any-requires-clause-callable
any-requires-clause-callable c =
    serves_from_places (YieldsList-from_first (λ x. x.now) (λ (s : List (List ℕ)). s) (groups_of c.args.constraint.now) c.groups.ensures.groups) (λ x q r. search (rules, tests))
    (λ x k h e. let a : Below 64 x.now = groups-below x.now (groups_of c.args.constraint.now) k (rw c.groups.ensures.groups at c.groups.ensures.sound) h e in search (rules, tests, a))

pub returns : goal.returns
returns c =
    any_from_yields_List (group_holds c.args.places.now c.args.vms.now) _ _ c.any.result c.any.ensures.ran
    (YieldsList-from_first (λ x. x.now) (λ (s : List (List ℕ)). s) (groups_of c.args.constraint.now) c.groups.ensures.groups) (λ x b q k. search (rules, tests)) ∙
    any-some (group_holds c.args.places.now c.args.vms.now) (groups_of c.args.constraint.now)
