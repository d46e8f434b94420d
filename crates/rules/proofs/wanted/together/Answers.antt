use Rattle.std.specs.Prelude.{◌-◌, ◌||◌, length, drop}
use Rattle.std.proofs.Common.{◌∙◌, sym, ap, arith}
use Rattle.std.proofs.lemmas.List.{take_all, length-drop}
use Rattle.records.specs.Room.{groups_of}
use Rattle.rules.specs.Orders.{some}
use Rattle.rules.specs.Inner.{all_down, group_holds}
use Rattle.rules.proofs.Laws.Targets.{together-none, together-first}
use Rattle.rules.proofs.wanted.together.Goals as goal

pub returns-in-Some : goal.returns-in-Some
returns-in-Some c =
    let vms = c.vms-vms.result.now in
    let groups = groups_of c.args.constraint.now in
    let first = c.in-Some.first in
    c.some_group_holds.ensures
    ∙ ap (λ left. some (group_holds c.args.places.now left) groups) (take_all (length vms - first) (drop first vms) (rw (length-drop first vms) (omega arith)))
    ∙ together-first c.args.places.now vms groups first (sym c.first_on_node.ensures ∙ c.in-Some.is)
    ∙ ap (λ vms. all_down c.args.places.now vms || some (group_holds c.args.places.now vms) groups) c.vms-vms.ensures

pub returns-in-None : goal.returns-in-None
returns-in-None c =
    together-none c.args.places.now c.vms-vms.result.now (groups_of c.args.constraint.now) (sym c.first_on_node.ensures ∙ c.in-None.is)
    ∙ ap (λ vms. all_down c.args.places.now vms || some (group_holds c.args.places.now vms) (groups_of c.args.constraint.now)) c.vms-vms.ensures
