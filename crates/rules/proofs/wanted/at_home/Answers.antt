use mathlib.Core.Path.{◌∙◌}
use lib.Dec.{eqb}
use lib.ListN.{length, get_or}
use borrow.Author.Rules.{rules}
use borrow.Author.Tests.{tests}
use Rattle.std.proofs.Common.{arith}
use Rattle.std.proofs.lemmas.Iterator.{YieldsList-from_range}
use Rattle.std.proofs.lemmas.Iterator.Search.{all_from_yields_List}
use Rattle.records.specs.Room.{vm_of}
use Rattle.rules.proofs.Laws.Targets.{home-counted}
use Rattle.rules.proofs.wanted.at_home.Goals as goal

pub returns : goal.returns
returns c =
    all_from_yields_List (λ v. eqb (get_or c.args.places.now v 0) (vm_of c.args.cluster.now v).target) _ _ _ c.all.ensures.ran
    (YieldsList-from_range 0 (length c.args.cluster.now.vms) (length c.args.cluster.now.vms) (cc) (omega arith)) (λ x b q k. search (rules, tests)) ∙
    home-counted c.args.cluster.now c.args.places.now
