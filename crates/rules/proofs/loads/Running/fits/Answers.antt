use mathlib.Core.Bool.{◌||◌}
use mathlib.Core.List.{List}
use mathlib.Core.Path.{◌∙◌}
use lib.Dec.{leb}
use lib.ListN.{length, get_or}
use borrow.Author.Rules.{rules}
use borrow.Author.Tests.{tests}
use Rattle.std.proofs.Common.{◌<◌}
use Rattle.std.proofs.lemmas.Iterator.Adapters.{serves_from_places}
use Rattle.std.proofs.lemmas.Iterator.Consumers.{YieldsList-from_first}
use Rattle.std.proofs.lemmas.Iterator.Search.{all_from_yields_List}
use Rattle.records.specs.Room.{node_of, vm_of}
use Rattle.records.specs.Plan.{Move}
use Rattle.rules.specs.Moments.{bears, empty_tally}
use Rattle.rules.proofs.Laws.Fit.{aimed-at, fits-listed}
use Rattle.rules.proofs.loads.Running.fits.Goals as goal

pub all-requires-clause-callable : goal.all-requires-clause-callable
all-requires-clause-callable c =
    serves_from_places (YieldsList-from_first (λ (x : Move). x) (λ (s : List Move). s) c.args.step.now c.moves.ensures.is) (λ x q r. search (rules, tests))
    (λ x k h e. let a : x.vm < length c.args.self.now.cluster.now.vms = aimed-at c.args.self.now.cluster.now c.node_count-nodes.ensures.sound x c.args.step.now k c.requires h e in search (rules, tests, a))

pub returns : goal.returns
returns c =
    all_from_yields_List (λ move. leb (length c.args.self.now.cluster.now.nodes) move.to || bears (node_of c.args.self.now.cluster.now move.to) (get_or c.loads-sums.result move.to empty_tally) (vm_of c.args.self.now.cluster.now move.vm))
    _ _ _ c.all.ensures.ran (YieldsList-from_first (λ (x : Move). x) (λ (s : List Move). s) c.args.step.now c.moves.ensures.is) (λ x b q k. search (rules, tests)) ∙
    fits-listed c.args.self.now.cluster.now c.node_count-nodes.ensures.sound c.args.self.now.places.now c.args.self.now.dests.now c.loads-sums.result c.args.step.now c.requires c.loads-sums.ensures
