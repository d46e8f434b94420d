-- What inner functions answer, on the way to the definitions before. Nothing here has to be believed.
use Rattle.std.specs.Prelude.{ℕ, zero, suc, ◌+◌, ◌-◌, ◌*◌, ◌<◌, ◌≤◌, ◌^◌, Bool, true, false, not, ◌&&◌, ◌||◌, List, [], ◌∷◌, ◌++◌, map, ◌≡◌, length, get_or, set, take, drop, replicate, ltb, leb, eqb, Result, Ok, Err}
use Rattle.std.specs.List.{list_all}
use Rattle.records.specs.Base.{pick, all, sum_of}
use Rattle.records.specs.Room.{Constraint, ban, fence, spread, latency, before, Room, IsSound, vm_of, node_of, place_ok}
use Rattle.records.specs.Plan.{Step, move_of}
use Rattle.rules.specs.Moments.{Placement, Phase, staying, running, cell, Moment, tally_at, empty_tally, within, bears_at}
use Rattle.rules.specs.Cost.{memory_of, cost_of}
use Rattle.rules.specs.Orders.{some}
use Rattle.rules.specs.Rules.{from, allowed, named, fitting, unmet, in_turn}
use Rattle.rules.specs.Verdict.{fault_step, steps_verdict, plan_verdict}
use Rattle.rules.specs.declared.faults.Fault.{Fault}
use Rattle.rules.specs.declared.faults.Verdict.{Verdict}
use Rattle.rules.specs.declared.faults.StepFault.{StepFault}
use Rattle.rules.specs.declared.tally.Need.{Need}
use Rattle.rules.specs.declared.tally.Tally.{Tally}

-- what a VM needs, with its bounds
pub record NeedOf (room : Room) (v : ℕ) (need : Need) : Type 0 where
  pub memory : need.memory ≡ (vm_of room v).memory
  pub cpu : need.cpu ≡ (vm_of room v).cpu
  pub memory-most : need.memory < 2 ^ 24
  pub cpu-most : need.cpu < 2 ^ 16

-- the placement that an array holds
unfoldable pub held : Room → List ℕ → Placement
held room places = take (length room.vms) places

-- the places of an array are nodes that there are, or `nowhere`
pub record Placed (room : Room) (places : List ℕ) : Type 0 where
  pub each : (v : ℕ) → place_ok true (length room.nodes) (get_or places v 0) ≡ true

-- an array holds a placement of a room: its first places, and all are such
pub record Holds (room : Room) (places : List ℕ) (placement : Placement) : Type 0 where
  pub is : held room places ≡ placement
  pub placed : Placed room places

-- a placement as the array of 256 places that code keeps: behind the last VM they are 0
unfoldable pub array_of : Placement → List ℕ
array_of placement = placement ++ replicate (256 - length placement) 0

-- the first v places of an array are those of a placement, all others 0
pub record Filling (places : List ℕ) (placement : Placement) (v : ℕ) : Type 0 where
  pub size : length places ≡ 256
  pub is : take v places ≡ take v placement
  pub rest : drop v places ≡ replicate (256 - v) 0

-- the destination that stands for no move: one past the last node there can be
abbrev pub no_move : ℕ
no_move = 64

-- the destination of each VM
unfoldable pub dests_from : Step → List ℕ
dests_from [] = replicate 256 no_move
dests_from (move ∷ moves) = set (dests_from moves) move.vm move.to

-- the cells of n VMs from v on, with the destinations of an array
unfoldable pub goal_in : List ℕ → ℕ → Phase
goal_in dests v = pick (eqb (get_or dests v 0) no_move) staying (running (get_or dests v 0))

unfoldable pub busy_from : List ℕ → List ℕ → ℕ → ℕ → Moment
busy_from places dests v zero = []
busy_from places dests v (suc n) = cell v (get_or places v 0) (goal_in dests v) ∷ busy_from places dests (suc v) n

-- places and destinations are such that a tally can be kept: no VM goes to the node it is on
pub record Ready (room : Room) (places dests : List ℕ) : Type 0 where
  pub leaves : (v : ℕ) → v < length room.vms → v < 256 → get_or dests v 0 < 64 → get_or dests v 0 ≡ get_or places v 0 → ⊥

-- the sums over the first n VMs
pub record Loaded (room : Room) (places dests : List ℕ) (n : ℕ) (sums : List Tally) : Type 0 where
  pub size : length sums ≡ 256
  pub each : (d : ℕ) → d < 64 → get_or sums d empty_tally ≡ tally_at room d (busy_from places dests 0 n)
  pub memory-most : (d : ℕ) → (get_or sums d empty_tally).memory ≤ n * 33554432
  pub cpu-most : (d : ℕ) → (get_or sums d empty_tally).cpu ≤ n * 131072

-- the sums over all VMs are the tallies of the nodes, and a VM can be added to each
pub record Loads (room : Room) (places dests : List ℕ) (sums : List Tally) : Type 0 where
  pub size : length sums ≡ 256
  pub each : (d : ℕ) → d < 64 → get_or sums d empty_tally ≡ tally_at room d (busy_from places dests 0 (length room.vms))
  pub memory-most : (d : ℕ) → (get_or sums d empty_tally).memory ≤ length room.vms * 33554432
  pub cpu-most : (d : ℕ) → (get_or sums d empty_tally).cpu ≤ length room.vms * 131072

-- each VM of a step is there, and each destination is a node that there is, or `nowhere`
pub record Aimed (room : Room) (step : Step) : Type 0 where
  pub vms : (i : ℕ) → i < length step → (move_of step i).vm < length room.vms
  pub each : (i : ℕ) → i < length step → place_ok true (length room.nodes) (move_of step i).to ≡ true

-- each move of a step fits where it goes, what counts there being every VM that starts there or goes there
unfoldable pub fits_running : Room → List ℕ → List ℕ → Step → Bool
fits_running room places dests step = all (λ move. bears_at room move.to (tally_at room move.to (busy_from places dests 0 (length room.vms))) (vm_of room move.vm)) step

-- ---- where each VM may go, as a table of a row of 64 marks for each VM

-- a row, its first d marks without the stopped nodes
unfoldable pub row_kept : List Bool → List Bool → ℕ → List Bool
row_kept row stop zero = row
row_kept row stop (suc d) = set (row_kept row stop d) d (get_or (row_kept row stop d) d false && not (get_or stop d false))

abbrev pub list_kept : List (List Bool) → List Bool → List ℕ → List (List Bool)
list_kept table stop [] = table
list_kept table stop (v ∷ vs) = list_kept (set table v (row_kept (get_or table v []) stop 64)) stop vs

-- marks for nodes
abbrev pub stopped : List Bool → Bool → List ℕ → List Bool
stopped marks mark [] = marks
stopped marks mark (d ∷ ds) = stopped (set marks d mark) mark ds

-- the nodes of a list; all but those
abbrev pub only : List ℕ → List Bool
only nodes = stopped (replicate 64 false) true nodes

abbrev pub all_but : List ℕ → List Bool
all_but nodes = stopped (replicate 64 true) false nodes

-- what a constraint takes away: a ban keeps its VMs from the nodes that it names, a fence from all others
unfoldable pub applied : List (List Bool) → Constraint → List (List Bool)
applied table (ban vms nodes) = list_kept table (only nodes) vms
applied table (fence vms nodes) = list_kept table (all_but nodes) vms
applied table (spread vms) = table
applied table (latency vms groups) = table
applied table (before first second) = table

abbrev pub applied_all : List (List Bool) → List Constraint → List (List Bool)
applied_all table [] = table
applied_all table (k ∷ ks) = applied_all (applied table k) ks

-- the table: mark d of row v is true if VM v may go to node d
unfoldable pub allow_table : Room → List (List Bool)
allow_table room = map (λ v. map (allowed room v) (from 0 64)) (from 0 256)

-- a table tells where each VM may go
pub record Allows (room : Room) (table : List (List Bool)) : Type 0 where
  pub each : (v d : ℕ) → v < length room.vms → d < 64 → get_or (get_or table v []) d false ≡ allowed room v d

-- ---- spreads

-- marks where VMs start
abbrev pub start_marks : List Bool → List ℕ → List ℕ → List Bool
start_marks marks places [] = marks
start_marks marks places (v ∷ vs) = start_marks (set marks (get_or places v 0) true) places vs

-- a VM's place, or its destination, is a node
abbrev pub on_some_node : List ℕ → ℕ → Bool
on_some_node places v = ltb (get_or places v 0) 64

-- each VM that arrives at a node finds it unmarked; it is then marked
abbrev pub go_unmet : List Bool → List ℕ → List ℕ → Bool
go_unmet marks dests [] = true
go_unmet marks dests (v ∷ vs) =
    pick (ltb (get_or dests v 0) 64)
    (pick (get_or marks (get_or dests v 0) false) false (go_unmet (set marks (get_or dests v 0) true) dests vs))
    (go_unmet marks dests vs)

abbrev pub list_unmet : List ℕ → List ℕ → List ℕ → Bool
list_unmet places dests vms = go_unmet (start_marks (replicate 256 false) places vms) dests vms

unfoldable pub spread_ok : List ℕ → List ℕ → Constraint → Bool
spread_ok places dests (ban vms nodes) = true
spread_ok places dests (fence vms nodes) = true
spread_ok places dests (spread vms) = list_unmet places dests vms
spread_ok places dests (latency vms groups) = true
spread_ok places dests (before first second) = true

-- ---- who waits for whom

-- a VM moves only with the other at rest on its target
abbrev pub pair_in_turn : Room → List ℕ → List ℕ → ℕ → ℕ → Bool
pair_in_turn room places dests first second =
    eqb (get_or dests second 0) no_move || (eqb (get_or dests first 0) no_move && eqb (get_or places first 0) (vm_of room first).target)

unfoldable pub turn_ok : Room → List ℕ → List ℕ → Constraint → Bool
turn_ok room places dests (ban vms nodes) = true
turn_ok room places dests (fence vms nodes) = true
turn_ok room places dests (spread vms) = true
turn_ok room places dests (latency vms groups) = true
turn_ok room places dests (before first second) = pair_in_turn room places dests first second

-- 18 and 33
unfoldable pub bound_check : Room → List ℕ → List ℕ → Result (Unit {0}) StepFault
bound_check room places dests =
    pick (not (all (spread_ok places dests) room.constraints)) (Err StepFault.Mate)
    (pick (not (all (turn_ok room places dests) room.constraints)) (Err StepFault.Early)
    (Ok tt))

-- ---- a step

-- a step is well named at the places of an array
pub record Held (room : Room) (places : List ℕ) (step : Step) : Type 0 where
  pub sound : IsSound room
  pub well-named : named room (held room places) 0 step ≡ true
  pub placed : Placed room places

-- 17, 18 and 33
unfoldable pub running_check : Room → Placement → Step → Result (Unit {0}) StepFault
running_check room places step =
    pick (not (fitting room places step)) (Err StepFault.Misfit)
    (pick (not (unmet room places step)) (Err StepFault.Mate)
    (pick (not (in_turn room places step)) (Err StepFault.Early)
    (Ok tt)))

-- the sum over the moves of a step, behind steps of a given cost
unfoldable pub moves_cost : Room → ℕ → Step → ℕ
moves_cost room spent step = sum_of (λ move. memory_of room move + spent) step

-- ---- the target

-- the tallies of n nodes from d on are within what they have
unfoldable pub fits_up_to : Room → List Tally → ℕ → ℕ → Bool
fits_up_to room sums d n = all (λ e. within (node_of room e) (get_or sums e empty_tally)) (from d n)

-- no VM is on a stopped node
abbrev pub clear_of : List Bool → List ℕ → List ℕ → Bool
clear_of stop places vms = list_all (λ v. leb 64 (get_or places v 0) || not (get_or stop (get_or places v 0) false)) vms

-- no VM is on a node
abbrev pub all_down : List ℕ → List ℕ → Bool
all_down places vms = list_all (λ v. leb 64 (get_or places v 0)) vms

-- all VMs on nodes are in a group
abbrev pub group_holds : List ℕ → List ℕ → List ℕ → Bool
group_holds places vms g = clear_of (all_but g) places vms

-- the places of an array keep a constraint
unfoldable pub keeps_in : List ℕ → Constraint → Bool
keeps_in places (ban vms nodes) = clear_of (only nodes) places vms
keeps_in places (fence vms nodes) = clear_of (all_but nodes) places vms
keeps_in places (spread vms) = go_unmet (replicate 256 false) places vms
keeps_in places (latency vms groups) = all_down places vms || some (group_holds places vms) groups
keeps_in places (before first second) = true

-- ---- the verdict

-- the step that a verdict names, 0 where it names none
abbrev pub step_of : Verdict → ℕ
step_of (Verdict.Accepted cost) = 0
step_of (Verdict.Refused fault) = fault_step fault

-- the verdict that a cost or a fault tells
abbrev pub verdict_from : Result ℕ Fault → Verdict
verdict_from (Ok cost) = Verdict.Accepted cost
verdict_from (Err fault) = Verdict.Refused fault

-- the checker before the steps that are left: where the VMs are, the number of the next step, and what is still due
pub record Walking (room : Room) (steps : List Step) (places : List ℕ) (rest : List Step) (number : ℕ) : Type 0 where
  pub placed : Placed room places
  pub count : number + length rest ≤ 513
  pub verdict : steps_verdict room (Verdict.Accepted (cost_of room steps)) (held room places) number rest ≡ plan_verdict room steps
