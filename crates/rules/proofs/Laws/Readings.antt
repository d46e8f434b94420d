-- Wrong readings of the rules, each written beside the right one, and a small case that tells the two apart.
use Prim.Native.Nat.{ℕ, ◌+◌, ◌-◌, ◌*◌, ◌/◌}
use mathlib.Core.Bool.{Bool, true, false, not, ◌&&◌, ◌||◌}
use mathlib.Core.List.{[], ◌∷◌, map}
use mathlib.Core.Path.{◌≡◌, refl}
use lib.ListN.{length}
use lib.Dec.{eqb}
use Rattle.std.specs.Prelude.{Ok, Err}
use Rattle.records.specs.Base.{pick, all, sum_of}
use Rattle.records.specs.Room.{Room, Vm, Node, fence, spread, before, has, vms_of, node_of, vm_of, usable, usable_node, at_reserve, nowhere, on_node}
use Rattle.records.specs.Plan.{Step}
use Rattle.records.specs.declared.plan.Source.TheVariants.{Unnamed}
use Rattle.rules.specs.Moments.{Placement, place_of, current_of, target_of, at_target, after, within_memory, within_cpu, within, is_idle, bears, bears_at, with_vm, empty_tally, staying, waiting, running, ended, Cell, cell, Moment, number_of, counts_on, tally_at, phase_of, cells_from, first_moment, begun, all_running}
use Rattle.rules.specs.Orders.{fits, spreads, some, mates, meets_mate}
use Rattle.rules.specs.Rules.{from, spread_out, on_nodes, keeps, keeps_from, allowed, aims, named, is_place, sourced, permitted, fitting, unmet, has_move, respects, in_turn, step_check, sound_step, fits_all, target_check}
use Rattle.rules.specs.Cost.{memory_of, step_cost, cost_from, cost_of}
use Rattle.rules.specs.declared.faults.TargetFault.TheVariants.{Overfull}
use Rattle.rules.specs.declared.faults.StepFault.TheVariants.{Misnamed, Misfit, Early}
use Rattle.rules.specs.declared.tally.Tally.{Tally}
use Rattle.rules.proofs.Laws.Orders.{over_at, all_over}

-- ---- the cases

-- two VMs, of memory 3 and 2, that change places; the nodes have so much memory each
abbrev pub vm : ℕ → ℕ → ℕ → Vm
vm memory current target = record { memory = memory; cpu = 50; current = current; target = target }

abbrev pub node : ℕ → Node
node memory = record { memory = memory; cpu = 100 }

unfoldable pub swap : ℕ → Room
swap memory = record { nodes = node memory ∷ node memory ∷ []; vms = vm 3 0 1 ∷ vm 2 1 0 ∷ []; constraints = spread (0 ∷ 1 ∷ []) ∷ [] }

unfoldable pub both_moves : Step
both_moves = record { vm = 0; source = Unnamed; to = 1 } ∷ record { vm = 1; source = Unnamed; to = 0 } ∷ []

-- VM 1 runs, VM 0 is about to begin
unfoldable pub one_runs : Moment
one_runs = cell 0 0 (waiting 1) ∷ cell 1 1 (running 0) ∷ []

-- node 2 starts overfull, and VM 0 goes from node 0 to node 1
unfoldable pub overfull : Room
overfull = record { nodes = node 4 ∷ node 4 ∷ node 4 ∷ []; vms = vm 3 0 1 ∷ vm 5 2 2 ∷ []; constraints = [] }

unfoldable pub one_move : Step
one_move = record { vm = 0; source = Unnamed; to = 1 } ∷ []

-- on one node of memory 4, VM 0 is to shut down and VM 1 to be launched
unfoldable pub turnover : Room
turnover = record { nodes = node 4 ∷ []; vms = vm 3 0 nowhere ∷ vm 2 nowhere 0 ∷ []; constraints = [] }

unfoldable pub shutdown : Step
shutdown = record { vm = 0; source = Unnamed; to = nowhere } ∷ []

unfoldable pub launch : Step
launch = record { vm = 1; source = Unnamed; to = 0 } ∷ []

unfoldable pub both_at_once : Step
both_at_once = record { vm = 0; source = Unnamed; to = nowhere } ∷ record { vm = 1; source = Unnamed; to = 0 } ∷ []

-- both VMs are fenced in on node 0, and mates
unfoldable pub fenced : Room
fenced = record { nodes = node 4 ∷ []; vms = vm 3 0 nowhere ∷ vm 2 nowhere 0 ∷ []; constraints = fence (0 ∷ 1 ∷ []) (0 ∷ []) ∷ spread (0 ∷ 1 ∷ []) ∷ [] }

-- VM 0 of memory 3 is to stay on node 0
unfoldable pub killed : Room
killed = record { nodes = node 4 ∷ []; vms = vm 3 0 0 ∷ []; constraints = [] }

-- VM 2 has more CPU than node 1, where it is, and is to go `away`; VM 0, which is idle, and VM 1, of CPU 1, are to come there from node 0. Node 1
-- has so much memory; each VM takes 2 of it
unfoldable pub busy : ℕ → ℕ → Room
busy memory away = record {
  nodes = node 9 ∷ node memory ∷ record { memory = 9; cpu = 200 } ∷ [];
  vms = record { memory = 2; cpu = 0; current = 0; target = 1 } ∷ record { memory = 2; cpu = 1; current = 0; target = 1 } ∷ record { memory = 2; cpu = 150; current = 1; target = away } ∷ [];
  constraints = [];
}

unfoldable pub idle_comes : Step
idle_comes = record { vm = 0; source = Unnamed; to = 1 } ∷ []

unfoldable pub active_comes : Step
active_comes = record { vm = 1; source = Unnamed; to = 1 } ∷ []

unfoldable pub both_come : Step
both_come = record { vm = 0; source = Unnamed; to = 1 } ∷ record { vm = 1; source = Unnamed; to = 1 } ∷ []

unfoldable pub leaves : Step
leaves = record { vm = 2; source = Unnamed; to = 2 } ∷ []

-- VM 0, of memory 19, is to leave node 0, which has 20, and VM 1, of memory 1, is to come there
unfoldable pub lean : Room
lean = record {
  nodes = node 20 ∷ node 40 ∷ [];
  vms = vm 19 0 1 ∷ record { memory = 1; cpu = 40; current = 1; target = 0 } ∷ [];
  constraints = [];
}

unfoldable pub comes : Step
comes = record { vm = 1; source = Unnamed; to = 0 } ∷ []

-- VM 0, of CPU 91, is to go from node 0 to node 1, of CPU 100
unfoldable pub hot : Room
hot = record { nodes = node 9 ∷ node 9 ∷ []; vms = record { memory = 1; cpu = 91; current = 0; target = 1 } ∷ []; constraints = [] }

-- three nodes with room for all; VM 0, from `start` to `goal`, comes before VM 1, from `from` to node 1
unfoldable pub queue : ℕ → ℕ → ℕ → Room
queue start goal from = record { nodes = node 9 ∷ node 9 ∷ node 9 ∷ []; vms = vm 3 start goal ∷ vm 2 from 1 ∷ []; constraints = before 0 1 ∷ [] }

unfoldable pub second_goes : ℕ → Step
second_goes d = record { vm = 1; source = Unnamed; to = d } ∷ []

unfoldable pub both_go : ℕ → Step
both_go d = record { vm = 0; source = Unnamed; to = d } ∷ record { vm = 1; source = Unnamed; to = 1 } ∷ []

-- ---- the wrong readings

-- the source is freed when a move begins
unfoldable pub counts_freed : ℕ → Cell → Bool
counts_freed d (cell v place staying) = eqb place d
counts_freed d (cell v place (waiting to)) = eqb place d
counts_freed d (cell v place (running to)) = eqb to d
counts_freed d (cell v place (ended to)) = eqb to d

unfoldable pub tally_freed : Room → ℕ → Moment → Tally
tally_freed room d [] = empty_tally
tally_freed room d (c ∷ cs) = pick (counts_freed d c) (with_vm (tally_freed room d cs) (vm_of room (number_of c))) (tally_freed room d cs)

unfoldable pub fits_freed : Room → Moment → ℕ → ℕ → Bool
fits_freed room cs v d = within (node_of room d) (with_vm (tally_freed room d cs) (vm_of room v))

-- a departure in the same step pays for an arrival: the step is weighed once all its moves have ended
unfoldable pub fitting_ended : Room → Placement → Step → Bool
fitting_ended room places step = all (λ move. bears_at room move.to (tally_at room move.to (all_over (first_moment room places step))) (vm_of room move.vm)) step

-- spreads are tested at the step's end only
unfoldable pub unmet_ended : Room → Placement → Step → Bool
unmet_ended room places step = all (λ move. not (meets_mate room (all_over (first_moment room places step)) move.vm move.to)) step

-- an overfull start is refused: a move begins only if every node is within what it has
unfoldable pub fits_everywhere : Room → Moment → ℕ → ℕ → Bool
fits_everywhere room cs v d = fits room cs v d && all (λ e. within (node_of room e) (tally_at room e cs)) (from 0 (length room.nodes))

-- both sums are tested, whoever begins
unfoldable pub fits_both : Room → Moment → ℕ → ℕ → Bool
fits_both room cs v d = within (node_of room d) (with_vm (tally_at room d cs) (vm_of room v))

-- the memory alone is, whoever begins
unfoldable pub fits_memory : Room → Moment → ℕ → ℕ → Bool
fits_memory room cs v d = within_memory (node_of room d) (with_vm (tally_at room d cs) (vm_of room v))

-- an idle VM takes the test of the CPU from those that come beside it
unfoldable pub fitting_beside : Room → Placement → Step → Bool
fitting_beside room places step =
    let tally : ℕ → Tally = λ d. tally_at room d (all_running (first_moment room places step)) in
    all (λ move. within_memory (node_of room move.to) (tally move.to) &&
    (some (λ other. eqb other.to move.to && is_idle (vm_of room other.vm)) step || within_cpu (node_of room move.to) (tally move.to))) step

-- what is usable is rounded up
unfoldable pub usable_up : ℕ → ℕ → ℕ
usable_up reserve amount = (amount * (100 - reserve) + 99) / 100

-- a reserve is kept of the memory alone
unfoldable pub at_memory : ℕ → Room → Room
at_memory reserve room = record {
  nodes = map (λ n. record { memory = usable reserve n.memory; cpu = n.cpu }) room.nodes;
  vms = room.vms;
  constraints = room.constraints;
}

-- the first's place is asked when the step ends
unfoldable pub turn_at_end : Room → Placement → Step → ℕ → ℕ → Bool
turn_at_end room places step first second = pick (has_move step second) (at_target room (after places step) first) true

-- a move of the first in the same step does no harm
unfoldable pub turn_beside : Room → Placement → Step → ℕ → ℕ → Bool
turn_beside room places step first second = pick (has_move step second) (at_target room places first) true

-- only a move to its target waits: a pivot does not
unfoldable pub turn_homeward : Room → Placement → Step → ℕ → ℕ → Bool
turn_homeward room places step first second =
    pick (has_move step second && at_target room (after places step) second) (at_target room places first && not (has_move step first)) true

-- a VM on no node meets every constraint, so a launch does not wait
unfoldable pub turn_running : Room → Placement → Step → ℕ → ℕ → Bool
turn_running room places step first second =
    pick (has_move step second && on_node (place_of places second)) (at_target room places first && not (has_move step first)) true

-- ---- what tells them apart

pub record ToldApart : Type 0 where
  -- node 1 of memory 4 still has VM 1 when VM 0 begins
  pub source-wrong : fits_freed (swap 4) one_runs 0 1 ≡ true
  pub source-right : fits (swap 4) one_runs 0 1 ≡ false
  -- both in one step: once all has ended each node has one VM, but on the way one of them has two
  pub departure-wrong : fitting_ended (swap 4) (current_of (swap 4)) both_moves ≡ true
  pub departure-right : fitting (swap 4) (current_of (swap 4)) both_moves ≡ false
  -- the same of mates, on nodes of memory 9
  pub ends-wrong : unmet_ended (swap 9) (current_of (swap 9)) both_moves ≡ true
  pub ends-right : unmet (swap 9) (current_of (swap 9)) both_moves ≡ false
  -- node 2 is overfull, and no move touches it
  pub overfull-wrong : fits_everywhere overfull (first_moment overfull (current_of overfull) one_move) 0 1 ≡ false
  pub overfull-right : fits overfull (first_moment overfull (current_of overfull) one_move) 0 1 ≡ true
  pub overfull-sound : sound_step overfull (current_of overfull) one_move ≡ true
  -- a shutdown counts on its node until it has ended: it pays for no launch of its own step, but for one of the next
  pub shutdown-wrong : fitting_ended turnover (current_of turnover) both_at_once ≡ true
  pub shutdown-right : step_check turnover (current_of turnover) both_at_once ≡ Err Misfit
  pub launch-early : step_check turnover (current_of turnover) launch ≡ Err Misfit
  pub shutdown-sound : step_check turnover (current_of turnover) shutdown ≡ Ok tt
  pub launch-later : step_check turnover (after (current_of turnover) shutdown) launch ≡ Ok tt
  -- neither a fence nor a mate that is down is asked of a shutdown
  pub fence-free : step_check fenced (current_of fenced) shutdown ≡ Ok tt
  -- what is wanted on a node is not shut down
  pub goes_on : step_check killed (current_of killed) shutdown ≡ Err Misnamed
  -- a shutdown has memory 0, and still pays for the steps before it; a launch has its memory
  pub shutdown-cost : cost_of turnover (shutdown ∷ launch ∷ []) ≡ 2
  pub shutdown-later : cost_of turnover (launch ∷ shutdown ∷ []) ≡ 4
  -- an idle VM enters a node that is over its CPU, an active one does not, nor beside an idle one
  pub idle-wrong : fits_both (busy 9 2) (first_moment (busy 9 2) (current_of (busy 9 2)) idle_comes) 0 1 ≡ false
  pub idle-right : step_check (busy 9 2) (current_of (busy 9 2)) idle_comes ≡ Ok tt
  pub active-wrong : fits_memory (busy 9 2) (first_moment (busy 9 2) (current_of (busy 9 2)) active_comes) 1 1 ≡ true
  pub active-right : step_check (busy 9 2) (current_of (busy 9 2)) active_comes ≡ Err Misfit
  pub beside-wrong : fitting_beside (busy 9 2) (current_of (busy 9 2)) both_come ≡ true
  pub beside-right : step_check (busy 9 2) (current_of (busy 9 2)) both_come ≡ Err Misfit
  -- no idle VM enters a node that is full, and its memory counts for those beside it
  pub full : step_check (busy 3 2) (current_of (busy 3 2)) idle_comes ≡ Err Misfit
  pub full-beside : step_check (busy 3 2) (after (current_of (busy 3 2)) leaves) both_come ≡ Err Misfit
  pub full-alone : step_check (busy 3 2) (after (current_of (busy 3 2)) leaves) active_comes ≡ Ok tt
  pub side_by_side : step_check (busy 4 2) (after (current_of (busy 4 2)) leaves) both_come ≡ Ok tt
  -- the target fits both sums: with VM 2 to stay, node 1 is over its CPU
  pub target : target_check (busy 9 1) ≡ Err Overfull
  -- usable amounts are rounded down, memory and CPU each by itself
  pub usable-wrong : usable_up 10 4 ≡ 4
  pub usable-right : usable_node 10 (record { memory = 4; cpu = 101 }) ≡ record { memory = 3; cpu = 90 }
  pub usable-all : usable_node 0 (record { memory = 4; cpu = 101 }) ≡ record { memory = 4; cpu = 101 }
  pub usable-least : usable_node 90 (record { memory = 9; cpu = 10 }) ≡ record { memory = 0; cpu = 1 }
  -- a reserve is kept of the CPU too
  pub kept-wrong : step_check (at_memory 10 hot) (current_of hot) one_move ≡ Ok tt
  pub kept-right : step_check (at_reserve 10 hot) (current_of hot) one_move ≡ Err Misfit
  pub kept_less : step_check (at_reserve 9 hot) (current_of hot) one_move ≡ Ok tt
  -- node 0 is within its capacity, and at reserve 10 over what is usable of it: it takes nobody, may be left, and then takes VM 1
  pub lean-none : step_check (at_reserve 0 lean) (current_of lean) comes ≡ Ok tt
  pub lean-enters : step_check (at_reserve 10 lean) (current_of lean) comes ≡ Err Misfit
  pub lean-leaves : step_check (at_reserve 10 lean) (current_of lean) one_move ≡ Ok tt
  pub lean-later : step_check (at_reserve 10 lean) (after (current_of lean) one_move) comes ≡ Ok tt
  -- a target that fits at one reserve need not at a larger one
  pub target_fits : target_check (at_reserve 25 (swap 4)) ≡ Ok tt
  pub target-over : target_check (at_reserve 26 (swap 4)) ≡ Err Overfull
  -- the second waits for the step behind the one that brings the first home; the target is not bound
  pub end-wrong : turn_at_end (queue 0 2 0) (current_of (queue 0 2 0)) (both_go 2) 0 1 ≡ true
  pub end-right : step_check (queue 0 2 0) (current_of (queue 0 2 0)) (both_go 2) ≡ Err Early
  pub end_later : step_check (queue 0 2 0) (2 ∷ 0 ∷ []) (second_goes 1) ≡ Ok tt
  pub end-target : target_check (queue 0 2 0) ≡ Ok tt
  -- it does not go in the step that takes the first away
  pub beside-first-wrong : turn_beside (queue 2 2 0) (current_of (queue 2 2 0)) (both_go 0) 0 1 ≡ true
  pub beside-first-right : step_check (queue 2 2 0) (current_of (queue 2 2 0)) (both_go 0) ≡ Err Early
  -- nor aside, nor from no node
  pub aside-wrong : turn_homeward (queue 0 2 0) (current_of (queue 0 2 0)) (second_goes 2) 0 1 ≡ true
  pub aside-right : step_check (queue 0 2 0) (current_of (queue 0 2 0)) (second_goes 2) ≡ Err Early
  pub launch-wrong : turn_running (queue 0 2 nowhere) (current_of (queue 0 2 nowhere)) (second_goes 1) 0 1 ≡ true
  pub launch-right : step_check (queue 0 2 nowhere) (current_of (queue 0 2 nowhere)) (second_goes 1) ≡ Err Early
  -- a first that is down is on its target if it is wanted so, and only then
  pub down-home : step_check (queue nowhere nowhere 0) (current_of (queue nowhere nowhere 0)) (second_goes 1) ≡ Ok tt
  pub down-away : step_check (queue nowhere 2 0) (current_of (queue nowhere 2 0)) (second_goes 1) ≡ Err Early

pub told-apart : ToldApart
unfolding all has vms_of node_of vm_of on_node current_of target_of within bears counts_on tally_at phase_of cells_from first_moment begun all_running fits spreads some mates meets_mate from keeps_from allowed aims named permitted fitting unmet sound_step step_check after is_place sourced memory_of step_cost cost_from cost_of sum_of over_at all_over swap both_moves one_runs overfull one_move turnover both_at_once shutdown launch killed fenced counts_freed tally_freed fits_freed fitting_ended unmet_ended fits_everywhere bears_at fits_all target_check busy idle_comes active_comes both_come leaves fits_both fits_memory fitting_beside usable usable_node at_reserve lean comes hot usable_up at_memory spread_out on_nodes keeps has_move respects in_turn queue second_goes both_go turn_at_end turn_beside turn_homeward turn_running
told-apart = record {
  source-wrong = refl;
  source-right = refl;
  departure-wrong = refl;
  departure-right = refl;
  ends-wrong = refl;
  ends-right = refl;
  overfull-wrong = refl;
  overfull-right = refl;
  overfull-sound = refl;
  shutdown-wrong = refl;
  shutdown-right = refl;
  launch-early = refl;
  shutdown-sound = refl;
  launch-later = refl;
  fence-free = refl;
  goes_on = refl;
  shutdown-cost = refl;
  shutdown-later = refl;
  idle-wrong = refl;
  idle-right = refl;
  active-wrong = refl;
  active-right = refl;
  beside-wrong = refl;
  beside-right = refl;
  full = refl;
  full-beside = refl;
  full-alone = refl;
  side_by_side = refl;
  target = refl;
  usable-wrong = refl;
  usable-right = refl;
  usable-all = refl;
  usable-least = refl;
  kept-wrong = refl;
  kept-right = refl;
  kept_less = refl;
  lean-none = refl;
  lean-enters = refl;
  lean-leaves = refl;
  lean-later = refl;
  target_fits = refl;
  target-over = refl;
  end-wrong = refl;
  end-right = refl;
  end_later = refl;
  end-target = refl;
  beside-first-wrong = refl;
  beside-first-right = refl;
  aside-wrong = refl;
  aside-right = refl;
  launch-wrong = refl;
  launch-right = refl;
  down-home = refl;
  down-away = refl;
}
