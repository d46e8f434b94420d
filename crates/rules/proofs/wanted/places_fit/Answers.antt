use mathlib.Core.Path.{◌∙◌}
use lib.ListN.{length, get_or}
use borrow.Author.Rules.{rules}
use borrow.Author.Tests.{tests}
use Rattle.std.proofs.Common.{arith}
use Rattle.std.proofs.lemmas.Iterator.{YieldsList-from_range}
use Rattle.std.proofs.lemmas.Iterator.Search.{all_from_yields_List}
use Rattle.records.specs.Room.{node_of}
use Rattle.rules.specs.Moments.{within, empty_tally}
use Rattle.rules.proofs.Laws.Targets.{rest-counted}
use Rattle.rules.proofs.wanted.places_fit.Goals as goal

pub returns-clause-is : goal.returns-clause-is
returns-clause-is c =
    all_from_yields_List (λ d. within (node_of c.args.cluster.now d) (get_or c.loads_at_rest-sums.result d empty_tally)) _ _ _ c.all.ensures.ran
    (YieldsList-from_range 0 (length c.args.cluster.now.nodes) (length c.args.cluster.now.nodes) (cc) (omega arith)) (λ x b q k. search (rules, tests)) ∙
    rest-counted c.args.cluster.now c.args.places.now c.loads_at_rest-sums.result c.loads_at_rest-sums.ensures c.node_count.ensures.sound
