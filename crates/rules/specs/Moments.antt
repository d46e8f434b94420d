-- Placements, tallies, and the moments of a step (01, "When a step is sound").
use Rattle.std.specs.Prelude.{ℕ, zero, suc, ◌+◌, Bool, true, false, ◌&&◌, ◌||◌, List, [], ◌∷◌, map, length, get_or, set, leb, eqb}
use Rattle.records.specs.Base.{pick, all}
use Rattle.records.specs.Room.{Node, Vm, Room, node_of, vm_of, on_node}
use Rattle.records.specs.Plan.{Step}
use Rattle.rules.specs.declared.tally.Tally.{Tally}

-- a placement: the place of each VM, a node or `nowhere`, by VM number
abbrev pub Placement : Type 0
Placement = List ℕ

abbrev pub place_of : Placement → ℕ → ℕ
place_of places v = get_or places v 0

-- today's placement and the wanted one
unfoldable pub current_of : Room → Placement
current_of room = map (λ vm. vm.current) room.vms

unfoldable pub target_of : Room → Placement
target_of room = map (λ vm. vm.target) room.vms

-- VM v is on its target
abbrev pub at_target : Room → Placement → ℕ → Bool
at_target room places v = eqb (place_of places v) (place_of (target_of room) v)

-- what a step makes of a placement: its moves, put in one by one
unfoldable pub after : Placement → Step → Placement
after places [] = places
after places (move ∷ moves) = after (set places move.vm move.to) moves

-- the empty tally, and a tally with one VM more
abbrev pub empty_tally : Tally
empty_tally = record { memory = 0; cpu = 0 }

abbrev pub with_vm : Tally → Vm → Tally
with_vm tally vm = record { memory = tally.memory + vm.memory; cpu = tally.cpu + vm.cpu }

-- a sum is within what a node has
abbrev pub within_memory : Node → Tally → Bool
within_memory node tally = leb tally.memory node.memory

abbrev pub within_cpu : Node → Tally → Bool
within_cpu node tally = leb tally.cpu node.cpu

-- both are, whoever is there: this is asked of the target
unfoldable pub within : Node → Tally → Bool
within node tally = within_memory node tally && within_cpu node tally

-- a VM is idle if it has no CPU (02, Job 3)
abbrev pub is_idle : Vm → Bool
is_idle vm = eqb vm.cpu 0

-- a node bears a tally for a VM that is counted in it and begins: the memory is within, and so is the CPU unless the VM is idle (02, Job 3)
unfoldable pub bears : Node → Tally → Vm → Bool
bears node tally vm = within_memory node tally && (is_idle vm || within_cpu node tally)

-- the same of a place: on no node nothing is asked (02, Job 2)
unfoldable pub bears_at : Room → ℕ → Tally → Vm → Bool
bears_at room d tally vm = pick (on_node d) (bears (node_of room d) tally vm) true

-- how far a VM's move in a step has come, with its destination; staying if it has none
pub data Phase : Type 0 where
  staying : Phase
  waiting : ℕ → Phase
  running : ℕ → Phase
  ended : ℕ → Phase

-- a VM at a moment of a step: its number, its place at the step's start, its phase
pub data Cell : Type 0 where
  cell : ℕ → ℕ → Phase → Cell

-- a moment: a cell for each VM
abbrev pub Moment : Type 0
Moment = List Cell

abbrev pub number_of : Cell → ℕ
number_of (cell v place phase) = v

-- where a VM counts: on its place until its move begins, on both places while it runs, on its destination once it has ended. So a launch
-- counts on one node only, and a shutdown on its node until its end; `nowhere` is no node, and nothing is claimed or asked of it (02, Job 2)
unfoldable pub counts_on : ℕ → Cell → Bool
counts_on d (cell v place staying) = eqb place d
counts_on d (cell v place (waiting to)) = eqb place d
counts_on d (cell v place (running to)) = eqb place d || eqb to d
counts_on d (cell v place (ended to)) = eqb to d

-- the tally of a node at a moment: the VMs that count there, the sum started from the empty tally
unfoldable pub tally_at : Room → ℕ → Moment → Tally
tally_at room d [] = empty_tally
tally_at room d (c ∷ cs) = pick (counts_on d c) (with_vm (tally_at room d cs) (vm_of room (number_of c))) (tally_at room d cs)

-- the phase that a step gives a VM before anything begins
unfoldable pub phase_of : Step → ℕ → Phase
phase_of [] v = staying
phase_of (move ∷ moves) v = pick (eqb move.vm v) (waiting move.to) (phase_of moves v)

-- the first moment of a step: its moves waiting, the VMs on their places
unfoldable pub cells_from : Placement → Step → ℕ → ℕ → Moment
cells_from places step v zero = []
cells_from places step v (suc n) = cell v (place_of places v) (phase_of step v) ∷ cells_from places step (suc v) n

unfoldable pub first_moment : Room → Placement → Step → Moment
first_moment room places step = cells_from places step 0 (length room.vms)

-- all VMs at rest on a placement, no move under way
abbrev pub at_rest : Room → Placement → Moment
at_rest room places = first_moment room places []

-- the moment at which every move of the step runs
unfoldable pub begun : Phase → Phase
begun staying = staying
begun (waiting to) = running to
begun (running to) = running to
begun (ended to) = ended to

unfoldable pub all_running : Moment → Moment
all_running [] = []
all_running (cell v place phase ∷ cs) = cell v place (begun phase) ∷ all_running cs

-- no move waits or runs
unfoldable pub rests : Cell → Bool
rests (cell v place staying) = true
rests (cell v place (waiting to)) = false
rests (cell v place (running to)) = false
rests (cell v place (ended to)) = true

unfoldable pub settled : Moment → Bool
settled cs = all rests cs

-- the placement that a settled moment leaves
unfoldable pub left_at : Cell → ℕ
left_at (cell v place staying) = place
left_at (cell v place (waiting to)) = place
left_at (cell v place (running to)) = place
left_at (cell v place (ended to)) = to

unfoldable pub places_left : Moment → Placement
places_left cs = map left_at cs
