use mathlib.Core.List.{List}
use mathlib.Core.Path.{◌∙◌, ap}
use borrow.Author.Rules.{rules}
use borrow.Author.Tests.{tests}
use Prim.Native.Nat.{ℕ}
use Rattle.std.proofs.lemmas.Iterator.{YieldsList-from_slice}
use Rattle.std.proofs.lemmas.Iterator.Search.{all_from_yields_List}
use Rattle.records.specs.Base.{all}
use Rattle.records.specs.Room.{node_count, knows_nowhere, vm_ok, vm_row}
use Rattle.records.proofs.Laws.Bools.{all-listed}
use Rattle.records.proofs.Laws.Rows.{all-rows}
use Rattle.records.proofs.header.Header.vms_sound.Goals as goal

pub returns : goal.returns
returns c =
    let known = knows_nowhere c.args.self.now in
    let nodes = node_count c.args.self.now in
    all_from_yields_List (λ (row : List ℕ). vm_ok known nodes (vm_row row 0)) _ _ _ c.all.ensures.ran (YieldsList-from_slice c.vm_rows.result.now cc)
    (λ x b q k. search (rules, tests)) ∙
    all-listed (λ (row : List ℕ). vm_ok known nodes (vm_row row 0)) c.vm_rows.result.now ∙ all-rows (vm_ok known nodes) c.vm_rows.result.now ∙
    ap (all (vm_ok known nodes)) c.vm_rows.ensures
