use mathlib.Core.List.{List}
use mathlib.Core.Path.{◌∙◌}
use borrow.Author.Rules.{rules}
use borrow.Author.Tests.{tests}
use Rattle.std.proofs.lemmas.Iterator.Consumers.{YieldsList-from_first}
use Rattle.std.proofs.lemmas.Iterator.Search.{all_from_yields_List}
use Rattle.records.specs.Room.{Constraint}
use Rattle.rules.specs.Inner.{keeps_in}
use Rattle.records.proofs.Laws.Bools.{all-listed}
use Rattle.rules.proofs.wanted.all_kept.Goals as goal

pub returns : goal.returns
returns c =
    all_from_yields_List (keeps_in c.args.places.now) _ _ _ c.all.ensures.ran
    (YieldsList-from_first (λ (x : Constraint). x) (λ (s : List Constraint). s) c.args.cluster.now.constraints c.constraints.ensures.constraints) (λ x b q k. search (rules, tests)) ∙
    all-listed (keeps_in c.args.places.now) c.args.cluster.now.constraints
