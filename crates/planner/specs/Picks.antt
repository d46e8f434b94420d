-- The steps that the planner picks (01, "The planner").
use Rattle.std.specs.Prelude.{ℕ, zero, suc, ◌*◌, Bool, not, ◌&&◌, List, [], ◌∷◌, ◌++◌, ◌≡◌, length, ltb, eqb}
use Rattle.records.specs.Base.{pick, sum_of}
use Rattle.records.specs.Room.{Room, on_node}
use Rattle.records.specs.Plan.{Step, with_sources}
use Rattle.records.specs.declared.plan.Move.{Move}
use Rattle.records.specs.declared.plan.Source.TheVariants.{Unnamed, Named}
use Rattle.rules.specs.Moments.{Placement, place_of, target_of, at_target, after}
use Rattle.rules.specs.Orders.{some}
use Rattle.rules.specs.Rules.{from, sound_step}

-- the VMs and the nodes of a room, by number
abbrev pub vms_in : Room → List ℕ
vms_in room = from 0 (length room.vms)

abbrev pub nodes_in : Room → List ℕ
nodes_in room = from 0 (length room.nodes)

-- ---- out of place

-- VM v is not on its target
unfoldable pub away : Room → Placement → ℕ → Bool
away room places v = not (at_target room places v)

-- how many VMs are out of place; k is this at the current nodes
unfoldable pub away_count : Room → Placement → ℕ
away_count room places = sum_of (λ v. pick (away room places v) 1 0) (vms_in room)

-- ---- direct moves

-- the move of VM v to d, and to its target, a launch or a shutdown too; the source is named once the step is whole (`next_step`)
abbrev pub moving : ℕ → ℕ → Move
moving v d = record { vm = v; source = Unnamed; to = d }

abbrev pub direct : Room → ℕ → Move
direct room v = moving v (place_of (target_of room) v)

-- VM v has a sound direct move: off its target, it could go there now, by itself
unfoldable pub can_go : Room → Placement → ℕ → Bool
can_go room places v = away room places v && sound_step room places (direct room v ∷ [])

-- a step with VM v's move to its target, if v is out of place and the step stays sound with it
unfoldable pub joined : Room → Placement → Step → ℕ → Step
joined room places step v = pick (away room places v && sound_step room places (step ++ (direct room v ∷ []))) (step ++ (direct room v ∷ [])) step

-- the direct step: the VMs in turn, by number, each joined to what is there
unfoldable pub joined_all : Room → Placement → Step → List ℕ → Step
joined_all room places step [] = step
joined_all room places step (v ∷ vs) = joined_all room places (joined room places step v) vs

unfoldable pub direct_step : Room → Placement → Step
direct_step room places = joined_all room places [] (vms_in room)

-- ---- pivots

-- some VM other than v has a sound direct move
unfoldable pub other_goes : Room → Placement → ℕ → Bool
other_goes room places v = some (λ u. not (eqb u v) && can_go room places u) (vms_in room)

-- a pivot of VM v to d is useful: v is on a node and off its target (02, Job 2: a VM that is down is not pivoted), d is a node of the room and
-- neither of the two, the move is sound by itself, and then a different VM has a sound direct move
unfoldable pub useful : Room → Placement → ℕ → ℕ → Bool
useful room places v d =
    ((away room places v && on_node (place_of places v)) &&
    (ltb d (length room.nodes) && (not (eqb d (place_of places v)) && not (eqb d (place_of (target_of room) v))))) &&
    (sound_step room places (moving v d ∷ []) && other_goes room (after places (moving v d ∷ [])) v)

-- of two steps the first, unless it has no move
unfoldable pub or_else : Step → Step → Step
or_else [] other = other
or_else (move ∷ moves) other = move ∷ moves

-- the pivot of VM v to the first of the nodes where it is useful, as a step of one move; no move if there is none
unfoldable pub pivot_among : Room → Placement → ℕ → List ℕ → Step
pivot_among room places v [] = []
pivot_among room places v (d ∷ ds) = pick (useful room places v d) (moving v d ∷ []) (pivot_among room places v ds)

-- the pivot: the VMs tried in turn, and for each the nodes by number
unfoldable pub pivot_first : Room → Placement → List ℕ → Step
pivot_first room places [] = []
pivot_first room places (v ∷ vs) = or_else (pivot_among room places v (nodes_in room)) (pivot_first room places vs)

unfoldable pub pivot_step : Room → Placement → Step
pivot_step room places = pivot_first room places (vms_in room)

-- ---- the steps

-- a step whose moves name where their VMs are (02, Job 7)
unfoldable pub from_places : Placement → Step → Step
from_places places step = with_sources (λ move. Named (place_of places move.vm)) step

-- the next step: the direct step, or if nothing can be added to it the pivot, its moves naming their sources; no move if there is neither
unfoldable pub next_step : Room → Placement → Step
next_step room places = from_places places (or_else (direct_step room places) (pivot_step room places))

-- steps are the planner's from a placement: the next step there, then those from the placement it leaves; none once there is no next step
pub data Picks (room : Room) : Placement → List Step → Type 0 where
  rests : {places : Placement} → next_step room places ≡ [] → Picks room places []
  goes : {places : Placement} {step : Step} {steps : List Step} → next_step room places ≡ step → (step ≡ [] → ⊥) → Picks room (after places step) steps →
      Picks room places (step ∷ steps)

-- a step and what follows it; nothing if it has no move
unfoldable pub onward : Step → (Step → List Step) → List Step
onward [] rest = []
onward (move ∷ moves) rest = (move ∷ moves) ∷ rest (move ∷ moves)

-- those steps, computed. The first number is how many may be made; two for each VM out of place are always enough (Laws.Budget: picks-steps),
-- so a reader may take `picked` as the steps that Picks speaks of.
unfoldable pub picked_within : Room → ℕ → Placement → List Step
picked_within room zero places = []
picked_within room (suc n) places = onward (next_step room places) (λ step. picked_within room n (after places step))

unfoldable pub picked : Room → Placement → List Step
picked room places = picked_within room (2 * away_count room places) places
