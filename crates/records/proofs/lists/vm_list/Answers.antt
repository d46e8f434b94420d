use Rattle.std.proofs.Common.{◌∙◌}
use Rattle.records.proofs.Laws.Lists.{listed-behind}
use Rattle.records.proofs.lists.vm_list.Goals as goal

pub returns : goal.returns
returns c =
    let front = c.in_ok-count.ensures in
    rw front.0 at c.list_from.ensures ∙ listed-behind _ _ _ _ front.2 front.3
