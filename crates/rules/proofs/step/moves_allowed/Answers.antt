use mathlib.Core.Bool.{false, ◌||◌}
use mathlib.Core.List.{List, []}
use mathlib.Core.Path.{◌∙◌}
use lib.Dec.{leb}
use lib.ListN.{length, get_or}
use borrow.Author.Rules.{rules}
use borrow.Author.Tests.{tests}
use Rattle.std.proofs.lemmas.Iterator.Consumers.{YieldsList-from_first}
use Rattle.std.proofs.lemmas.Iterator.Search.{all_from_yields_List}
use Rattle.records.specs.Plan.{Move}
use Rattle.rules.proofs.Laws.Fit.{permitted-listed}
use Rattle.rules.proofs.step.moves_allowed.Goals as goal

pub returns : goal.returns
returns c =
    all_from_yields_List (λ move. leb (length c.args.cluster.now.nodes) move.to || get_or (get_or c.args.table.now move.vm []) move.to false) _ _ _ c.all.ensures.ran
    (YieldsList-from_first (λ (x : Move). x) (λ (s : List Move). s) c.args.step.now c.moves.ensures.is) (λ x b q k. search (rules, tests)) ∙
    permitted-listed c.args.cluster.now c.node_count-nodes.ensures.sound c.args.table.now c.args.step.now c.requires.aimed c.requires.table
