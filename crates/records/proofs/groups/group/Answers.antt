use Rattle.std.proofs.Common.{ap}
use Rattle.records.specs.Inner.{shown}
use Rattle.records.proofs.Laws.Groups.{found_below, group-bad, group-new, group-old}
use Rattle.records.proofs.groups.group.Goals as goal

pub returns-in_err-nodes : goal.returns-in_err-nodes
returns-in_err-nodes c = rw c.from_residual.ensures (group-bad _ _ _ _ c.node_list.ensures _ (ap shown c.in_err-nodes.was))

pub unseen-requires : goal.unseen-requires
unseen-requires c = found_below _ _ _ _ _ c.node_list.ensures _ _ (ap shown c.in_ok-nodes.was) c.requires

pub returns-then-not-unseen : goal.returns-then-not-unseen
returns-then-not-unseen c = group-old _ _ _ _ c.node_list.ensures _ _ (ap shown c.in_ok-nodes.was) _ c.unseen.ensures _ c.if-not-unseen.true

pub mark-requires : goal.mark-requires
mark-requires c = found_below _ _ _ _ _ c.node_list.ensures _ _ (ap shown c.in_ok-nodes.was) c.requires

pub returns : goal.returns
returns c = group-new _ _ _ _ c.node_list.ensures _ _ (ap shown c.in_ok-nodes.was) _ c.unseen.ensures _ c.mark.ensures c.if-not-unseen.false
