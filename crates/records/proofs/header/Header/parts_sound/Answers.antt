use mathlib.Core.List.{List}
use mathlib.Core.Path.{◌∙◌}
use borrow.Author.Rules.{rules}
use borrow.Author.Tests.{tests}
use Prim.Native.Nat.{ℕ}
use Rattle.std.proofs.lemmas.Iterator.Consumers.{YieldsList-from_first}
use Rattle.std.proofs.lemmas.Iterator.Search.{all_from_yields_List}
use Rattle.records.specs.Room.{parts_of, node_count, vm_count, well_formed}
use Rattle.records.proofs.Laws.Bools.{all-listed}
use Rattle.records.proofs.header.Header.parts_sound.Goals as goal

pub returns : goal.returns
returns c =
    all_from_yields_List (well_formed (vm_count c.args.self.now) (node_count c.args.self.now)) _ _ _ c.all.ensures.ran
    (YieldsList-from_first (λ x. x.now) (λ (s : List (List ℕ)). s) (parts_of c.args.self.now) c.parts.ensures) (λ x b q k. search (rules, tests)) ∙
    all-listed (well_formed (vm_count c.args.self.now) (node_count c.args.self.now)) (parts_of c.args.self.now)
