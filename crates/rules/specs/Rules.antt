-- Which destinations are allowed, what the target owes, and the faults of a step (01, "Numbers of the refusals", 8, 9, 15 to 18; 02, Job 2,
-- Job 7, 27, and Job 13, 33).
use Rattle.std.specs.Prelude.{ℕ, zero, suc, Bool, true, false, not, ◌&&◌, ◌||◌, List, [], ◌∷◌, length, ltb, leb, eqb, Result, Ok, Err}
use Rattle.records.specs.Base.{pick, all}
use Rattle.records.specs.Room.{Constraint, ban, fence, spread, latency, before, has, vms_of, Room, node_of, vm_of, nowhere, on_node}
use Rattle.records.specs.Plan.{Step}
use Rattle.records.specs.declared.plan.Source.{Source}
use Rattle.records.specs.declared.plan.Source.TheVariants.{Unnamed, Named}
use Rattle.rules.specs.Moments.{Placement, place_of, target_of, at_target, within, bears_at, tally_at, first_moment, at_rest, all_running}
use Rattle.rules.specs.Orders.{some, meets_mate}
use Rattle.rules.specs.declared.faults.StepFault.{StepFault}
use Rattle.rules.specs.declared.faults.TargetFault.{TargetFault}
use Rattle.rules.specs.declared.faults.TargetFault.TheVariants.{Overfull, Broken}
use Rattle.rules.specs.declared.faults.StepFault.TheVariants.{Misnamed, Elsewhere, Forbidden, Misfit, Mate, Early}

-- ---- destinations

-- the nodes that a constraint keeps its VMs from: a ban those it names, a fence all others
unfoldable pub keeps_from : Constraint → ℕ → Bool
keeps_from (ban vms nodes) d = has nodes d
keeps_from (fence vms nodes) d = not (has nodes d)
keeps_from (spread vms) d = false
keeps_from (latency vms groups) d = false
keeps_from (before first second) d = false

-- VM v may go to d: d is no node, or no constraint that names v keeps it from d
unfoldable pub allowed : Room → ℕ → ℕ → Bool
allowed room v d = pick (on_node d) (all (λ k. not (has (vms_of k) v && keeps_from k d)) room.constraints) true

-- ---- the target

-- n numbers from v on
unfoldable pub from : ℕ → ℕ → List ℕ
from v zero = []
from v (suc n) = v ∷ from (suc v) n

-- 8: the tally of every node, all VMs at rest on a placement, is within what the node has, memory and CPU, idle VMs or not
unfoldable pub fits_all : Room → Placement → Bool
fits_all room places = all (λ d. within (node_of room d) (tally_at room d (at_rest room places))) (from 0 (length room.nodes))

-- the VMs are on nodes of their own
unfoldable pub spread_out : Placement → List ℕ → Bool
spread_out places [] = true
spread_out places (v ∷ vs) = all (λ w. not (eqb (place_of places v) (place_of places w))) vs && spread_out places vs

-- those of the VMs that are on a node
unfoldable pub on_nodes : Placement → List ℕ → List ℕ
on_nodes places [] = []
on_nodes places (v ∷ vs) = pick (on_node (place_of places v)) (v ∷ on_nodes places vs) (on_nodes places vs)

-- 9: a placement keeps a constraint. Its list is read without the VMs on no node, of which nothing is asked (02, Job 2). That one VM comes before
-- another binds the steps, and no placement (02, Job 13)
unfoldable pub keeps : Placement → Constraint → Bool
keeps places (ban vms nodes) = all (λ v. not (has nodes (place_of places v))) (on_nodes places vms)
keeps places (fence vms nodes) = all (λ v. has nodes (place_of places v)) (on_nodes places vms)
keeps places (spread vms) = spread_out places (on_nodes places vms)
keeps places (latency vms groups) =
    eqb (length (on_nodes places vms)) 0 || some (λ g. all (λ v. has g (place_of places v)) (on_nodes places vms)) groups
keeps places (before first second) = true

-- the target's fault
unfoldable pub target_check : Room → Result (Unit {0}) TargetFault
target_check room =
    pick (not (fits_all room (target_of room))) (Err Overfull)
    (pick (not (all (keeps (target_of room)) room.constraints)) (Err Broken)
    (Ok tt))

-- ---- a step

-- VM v can be sent to d: a node that there is, or no node if that is where the VM is wanted (02, Job 2)
unfoldable pub aims : Room → ℕ → ℕ → Bool
aims room v d = ltb d (length room.nodes) || (eqb d nowhere && eqb (place_of (target_of room) v) nowhere)

-- 15: each VM is there and above the one before it (`least` is the least that may come), each destination is one it can be sent to and not
-- its place
unfoldable pub named : Room → Placement → ℕ → Step → Bool
named room places least [] = true
named room places least (move ∷ moves) =
    (leb least move.vm && ltb move.vm (length room.vms)) &&
    ((aims room move.vm move.to && not (eqb move.to (place_of places move.vm))) && named room places (suc move.vm) moves)

-- 27: every source that is named is its VM's place at the step's start
unfoldable pub is_place : Source → ℕ → Bool
is_place Unnamed place = true
is_place (Named source) place = eqb source place

unfoldable pub sourced : Placement → Step → Bool
sourced places step = all (λ move. is_place move.source (place_of places move.vm)) step

-- 16: every destination is one that its VM may go to
unfoldable pub permitted : Room → Step → Bool
permitted room step = all (λ move. allowed room move.vm move.to) step

-- 17, as it is decided: with every move running, each destination bears its tally for the VM that is sent there. (Promises says what it means,
-- over every order, and that the two agree.)
unfoldable pub fitting : Room → Placement → Step → Bool
fitting room places step =
    all (λ move. bears_at room move.to (tally_at room move.to (all_running (first_moment room places step))) (vm_of room move.vm)) step

-- 18, as it is decided: with every move running, no mate of a moved VM counts on its destination
unfoldable pub unmet : Room → Placement → Step → Bool
unmet room places step =
    all (λ move. not (meets_mate room (all_running (first_moment room places step)) move.vm move.to)) step

-- a step has a move of VM v
unfoldable pub has_move : Step → ℕ → Bool
has_move step v = some (λ move. eqb move.vm v) step

-- a step respects a constraint: it moves the second of two VMs only if the first is on its target when the step starts and has no move in the
-- step, wherever the second goes, a launch or a shutdown too (02, Job 13)
unfoldable pub respects : Room → Placement → Step → Constraint → Bool
respects room places step (ban vms nodes) = true
respects room places step (fence vms nodes) = true
respects room places step (spread vms) = true
respects room places step (latency vms groups) = true
respects room places step (before first second) = pick (has_move step second) (at_target room places first && not (has_move step first)) true

-- 33: nobody moves before its turn
unfoldable pub in_turn : Room → Placement → Step → Bool
in_turn room places step = all (respects room places step) room.constraints

-- VM v waits for VM u: a constraint has u before v
unfoldable pub puts : ℕ → ℕ → Constraint → Bool
puts u v (ban vms nodes) = false
puts u v (fence vms nodes) = false
puts u v (spread vms) = false
puts u v (latency vms groups) = false
puts u v (before first second) = eqb first u && eqb second v

unfoldable pub waits_for : Room → ℕ → ℕ → Bool
waits_for room v u = some (puts u v) room.constraints

-- the first fault of a step in checking order
unfoldable pub step_check : Room → Placement → Step → Result (Unit {0}) StepFault
step_check room places step =
    pick (not (named room places 0 step)) (Err Misnamed)
    (pick (not (sourced places step)) (Err Elsewhere)
    (pick (not (permitted room step)) (Err Forbidden)
    (pick (not (fitting room places step)) (Err Misfit)
    (pick (not (unmet room places step)) (Err Mate)
    (pick (not (in_turn room places step)) (Err Early)
    (Ok tt))))))

-- a step is sound: it has none of the faults 15 to 18 and 33. A source that is named wrongly does not make it unsound. (Promises has the same over
-- every order of the step, and the two agree: Laws.Runs, sound-orders.)
unfoldable pub sound_step : Room → Placement → Step → Bool
sound_step room places step =
    named room places 0 step && (permitted room step && (fitting room places step && (unmet room places step && in_turn room places step)))
