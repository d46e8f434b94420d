-- Laws on the room at a reserve: what a reserve leaves as it is. Only what a node has is changed by it.
use Prim.Native.Nat.{ℕ, suc, ◌+◌}
use mathlib.Core.List.{List, [], ◌∷◌}
use mathlib.Core.Path.{◌≡◌, refl}
use Rattle.records.specs.Room.{Constraint, ban, fence, spread, latency, before, Room, vm_of, at_reserve}
use Rattle.records.specs.Plan.{Move, Step}
use Rattle.records.proofs.Laws.Bools.{all_same}
use Rattle.records.proofs.Laws.Reserve.{nodes-kept}
use Rattle.rules.specs.Moments.{Placement, current_of, target_of, number_of, Moment, tally_at, first_moment}
use Rattle.rules.specs.Orders.{mates, meets_mate}
use Rattle.rules.specs.Rules.{allowed, aims, named, permitted, unmet, respects, in_turn, waits_for}
use Rattle.rules.specs.Cost.{memory_of, step_cost, cost_from, cost_of}
use Rattle.rules.specs.Verdict.{home}
use Rattle.rules.specs.Inner.{NeedOf}
use Rattle.rules.specs.declared.tally.Need.{Need}

module _ (reserve : ℕ) (room : Room) where
  -- ---- VMs and placements

  pub vm-same : (v : ℕ) → vm_of (at_reserve reserve room) v ≡ vm_of room v
  unfolding vm_of at_reserve
  vm-same v = refl

  pub need-same : (v : ℕ) (need : Need) → NeedOf room v need → NeedOf (at_reserve reserve room) v need
  unfolding vm_of at_reserve
  need-same v need n = record { memory = n.memory; cpu = n.cpu; memory-most = n.memory-most; cpu-most = n.cpu-most }

  pub current-same : current_of (at_reserve reserve room) ≡ current_of room
  unfolding current_of at_reserve
  current-same = refl

  pub target-same : target_of (at_reserve reserve room) ≡ target_of room
  unfolding target_of at_reserve
  target-same = refl

  pub home_same : (places : Placement) → home (at_reserve reserve room) places ≡ home room places
  unfolding home target_of at_reserve
  home_same places = refl

  -- ---- moments and tallies

  pub moment-same : (places : Placement) (step : Step) → first_moment (at_reserve reserve room) places step ≡ first_moment room places step
  unfolding first_moment at_reserve
  moment-same places step = refl

  pub tally-same : (d : ℕ) (cs : Moment) → tally_at (at_reserve reserve room) d cs ≡ tally_at room d cs
  unfolding tally_at
  tally-same d [] = refl
  tally-same d (c ∷ cs) = rw (tally-same d cs, vm-same (number_of c))

  -- ---- destinations and mates

  pub aims_same : (v d : ℕ) → aims (at_reserve reserve room) v d ≡ aims room v d
  unfolding aims
  aims_same v d = rw (nodes-kept reserve room, target-same)

  pub named-same : (places : Placement) (least : ℕ) (step : Step) → named (at_reserve reserve room) places least step ≡ named room places least step
  unfolding named at_reserve
  named-same places least [] = refl
  named-same places least (move ∷ moves) = rw (aims_same move.vm move.to, named-same places (suc move.vm) moves)

  pub allowed_same : (v d : ℕ) → allowed (at_reserve reserve room) v d ≡ allowed room v d
  unfolding allowed at_reserve
  allowed_same v d = refl

  pub permitted-same : (step : Step) → permitted (at_reserve reserve room) step ≡ permitted room step
  unfolding permitted allowed at_reserve
  permitted-same step = refl

  pub meets-same : (cs : Moment) (v d : ℕ) → meets_mate (at_reserve reserve room) cs v d ≡ meets_mate room cs v d
  unfolding meets_mate mates at_reserve
  meets-same cs v d = refl

  pub unmet-same : (places : Placement) (step : Step) → unmet (at_reserve reserve room) places step ≡ unmet room places step
  unfolding unmet meets_mate mates first_moment at_reserve
  unmet-same places step = refl

  pub turn-same : (places : Placement) (step : Step) → in_turn (at_reserve reserve room) places step ≡ in_turn room places step
  unfolding in_turn respects target_of at_reserve
  turn-same places step = all_same (respects (at_reserve reserve room) places step) (respects room places step) one room.constraints
    where
      one : (k : Constraint) → respects (at_reserve reserve room) places step k ≡ respects room places step k
      one (ban vms nodes) = refl
      one (fence vms nodes) = refl
      one (spread vms) = refl
      one (latency vms groups) = refl
      one (before first second) = refl

  pub waits-same : (v u : ℕ) → waits_for (at_reserve reserve room) v u ≡ waits_for room v u
  unfolding waits_for at_reserve
  waits-same v u = refl

  -- ---- cost

  memory-same : (move : Move) → memory_of (at_reserve reserve room) move ≡ memory_of room move
  unfolding memory_of vm_of at_reserve
  memory-same move = refl

  step_same : (step : Step) → step_cost (at_reserve reserve room) step ≡ step_cost room step
  unfolding step_cost
  step_same [] = refl
  step_same (move ∷ moves) = rw (memory-same move, step_same moves)

  from-same : (spent : ℕ) (steps : List Step) → cost_from (at_reserve reserve room) spent steps ≡ cost_from room spent steps
  unfolding cost_from memory_of vm_of at_reserve
  from-same spent [] = refl
  from-same spent (step ∷ steps) = rw (step_same step, from-same (spent + step_cost room step) steps)

  pub cost-same : (steps : List Step) → cost_of (at_reserve reserve room) steps ≡ cost_of room steps
  unfolding cost_of
  cost-same steps = from-same 0 steps
