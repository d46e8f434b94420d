use Rattle.std.specs.Prelude.{◌-◌, length, drop, replicate, false}
use Rattle.std.proofs.Common.{◌∙◌, sym, ap, arith}
use Rattle.std.proofs.lemmas.List.{take_all, length-drop}
use Rattle.rules.specs.Inner.{start_marks, go_unmet}
use Rattle.rules.proofs.Laws.Mates.{unmet_first, unmet_none}
use Rattle.rules.proofs.spread.list_unmet.Goals as goal

pub returns-in_default : goal.returns-in_default
returns-in_default c =
    unmet_none (start_marks (replicate 256 false) c.args.places.now c.args.vms.now) c.args.dests.now c.args.vms.now (sym c.first_on_node.ensures ∙ c.in_default.is)

pub returns : goal.returns
returns c =
    let vms = c.args.vms.now in
    let first = c.in-Some.first in
    c.arrive_apart.ensures
    ∙ ap (go_unmet c.mark_starts.new.marks c.args.dests.now) (take_all (length vms - first) (drop first vms) (rw (length-drop first vms) (omega arith)))
    ∙ ap (λ marks. go_unmet marks c.args.dests.now (drop first vms)) c.mark_starts.ensures
    ∙ unmet_first (start_marks (replicate 256 false) c.args.places.now vms) c.args.dests.now vms first (sym c.first_on_node.ensures ∙ c.in-Some.is)
