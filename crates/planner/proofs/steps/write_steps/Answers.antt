use borrow.Author.Rules.{rules}
use Rattle.planner.proofs.Laws.Making.{making-start, turn-room, turn-fits, making-less, making-turn, making-end, array-none}
use Rattle.planner.proofs.steps.write_steps.Goals as goal

pub loop-dests-init : goal.loop-dests-init
loop-dests-init c =
    making-start _ _ _ c.current_places-places.ensures (search (rules, c.current_places-places.type_inv)) c.vm_count-vms.ensures.sound c.requires

pub put_moves-count-requires-clause-room : goal.put_moves-count-requires-clause-room
put_moves-count-requires-clause-room c =
    turn-room _ _ _ _ _ _ _ _ _ _ c.loop-dests.invariant c.next_step.ensures c.vm_count-vms.ensures.count c.vm_count-vms.ensures.sound c.in-Some.is c.requires

pub finish_step-end-requires : goal.finish_step-end-requires
finish_step-end-requires c =
    turn-fits _ _ _ _ _ _ _ _ _ _ c.loop-dests.invariant c.next_step.ensures c.vm_count-vms.ensures.count c.vm_count-vms.ensures.sound c.in-Some.is c.requires _ c.put_moves-count.ensures.count
    _ c.put_moves-count.ensures.bytes

pub loop-dests-smaller : goal.loop-dests-smaller
loop-dests-smaller c =
    making-less _ _ _ _ _ _ _ _ _ _ c.loop-dests.invariant c.next_step.ensures c.vm_count-vms.ensures.count c.vm_count-vms.ensures.sound c.in-Some.is c.requires _ c.put_moves-count.ensures.count
    _ c.put_moves-count.ensures.bytes _ _ _ c.finish_step-end.ensures.0 c.finish_step-end.ensures.1 c.placement_after-places.ensures

pub loop-dests-preserved : goal.loop-dests-preserved
loop-dests-preserved c =
    making-turn _ _ _ _ _ _ _ _ _ _ c.loop-dests.invariant c.next_step.ensures c.vm_count-vms.ensures.count c.vm_count-vms.ensures.sound c.in-Some.is c.requires _ c.put_moves-count.ensures.count
    _ c.put_moves-count.ensures.bytes _ _ _ c.finish_step-end.ensures.0 c.finish_step-end.ensures.1 c.placement_after-places.ensures

pub returns : goal.returns
returns c =
    making-end _ _ _ _ _ _ _ c.loop-dests.invariant c.vm_count-vms.ensures.sound (array-none _ _ c.next_step.ensures c.in_default.is) _ c.at_home.ensures
