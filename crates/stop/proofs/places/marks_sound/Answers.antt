use mathlib.Core.Path.{◌∙◌}
use lib.Dec.{leb}
use borrow.Author.Rules.{rules}
use borrow.Author.Tests.{tests}
use Rattle.std.proofs.lemmas.Iterator.{YieldsList-from_slice}
use Rattle.std.proofs.lemmas.Iterator.Search.{all_from_yields_List}
use Rattle.stop.proofs.Laws.Walks.{marks-are}
use Rattle.stop.proofs.places.marks_sound.Goals as goal

pub returns : goal.returns
returns c =
    all_from_yields_List (λ mark. leb mark 1) _ _ _ c.all.ensures.ran (YieldsList-from_slice c.args.marks.now cc) (λ x b q k. search (rules, tests)) ∙
    marks-are c.args.marks.now
