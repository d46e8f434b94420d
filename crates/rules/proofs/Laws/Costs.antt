-- Laws on the cost: its bounds, over the definitions alone.
use Prim.Native.Nat.{ℕ, max, min, ◌+◌, ◌*◌, ◌≤◌, ◌<◌, ◌^◌}
use mathlib.Core.Bool.{Bool, true, false}
use mathlib.Core.List.{List, [], ◌∷◌, map}
use mathlib.Core.Path.{◌≡◌, refl, sym, ◌∙◌}
use Rattle.std.specs.List.{fold, reduce, sum_by}
use Rattle.std.specs.Option.{unwrap_or}
use native.Mathlib.Nat.{add_assoc, add-zero}
use native.Mathlib.Omega.{arith}
use lib.Dec.{leb}
use lib.ListN.{length}
use mir.Syntax.{w64}
use mir.Val.{Fits}
use borrow.Author.Tests.{leb-true}
use Rattle.records.specs.Base.{pick, all, sum_of}
use Rattle.records.specs.Room.{Room, vm_of, on_node, HasAmounts}
use Rattle.records.specs.Plan.{Move, Step, move_total, sized, shaped}
use Rattle.records.proofs.Laws.Bools.{and_left, and_right, all_tail}
use Rattle.records.proofs.Laws.Steps.{total-cons}
use Rattle.rules.specs.Cost.{memory_of, step_cost, cost_from, cost_of}
use Rattle.rules.specs.Inner.{moves_cost}

pub few_together : (step : Step) → sized step ≡ true → length step ≤ 256
unfolding sized
few_together step e = leb-true (length step) 256 (and_right (leb 1 (length step)) (leb (length step) 256) e)

module _ (steps : List Step) (e : shaped steps ≡ true) where
  pub few_steps : length steps ≤ 512
  unfolding shaped
  few_steps = leb-true (length steps) 512 (and_left (leb (length steps) 512) _ e)

  pub few_moves : move_total steps ≤ 1024
  unfolding shaped
  few_moves = leb-true (move_total steps) 1024 (and_right (all sized steps) (leb (move_total steps) 1024) (and_right (leb (length steps) 512) _ e))

module _ (room : Room) (low : (v : ℕ) → (vm_of room v).memory < 2 ^ 24) where
  memory-low : (move : Move) → memory_of room move < 2 ^ 24
  unfolding memory_of
  memory-low move = go (on_node move.to)
    where
      go : (b : Bool) → pick b (vm_of room move.vm).memory 0 < 2 ^ 24
      go true = low move.vm
      go false = omega arith

  step-low : (step : Step) → step_cost room step ≤ 16777215
  unfolding step_cost
  step-low [] = omega arith
  step-low (move ∷ moves) = let h = memory-low move in let k = step-low moves in omega arith

  moves-low : (before : ℕ) (step : Step) → before + 16777215 ≤ 8589934080 → sum_of (λ move. memory_of room move + before) step ≤ length step * 8589934080
  unfolding sum_of
  moves-low before [] b = omega arith
  moves-low before (move ∷ moves) b = let h = memory-low move in let k = moves-low before moves b in omega arith

  from_low : (before : ℕ) (steps : List Step) → before + length steps * 16777215 ≤ 8589934080 → cost_from room before steps ≤ move_total steps * 8589934080
  unfolding cost_from move_total sum_of
  from_low before [] b = omega arith
  from_low before (step ∷ steps) b =
      let h = step-low step in
      let k = moves-low before step (omega arith) in
      let i = from_low (before + step_cost room step) steps (omega arith) in
      omega arith

-- a plan costs less than 2 to the 43
pub cost-low : (room : Room) (steps : List Step) → HasAmounts room → shaped steps ≡ true → cost_of room steps < 2 ^ 43
unfolding cost_of
cost-low room steps w e =
    let n = few_steps steps e in
    let t = few_moves steps e in
    let h = from_low room w.memory-most 0 steps (omega arith) in
    omega arith

-- ---- the steps, first to last: what is left is added to the running total

module _ (room : Room) (steps rest : List Step) (step : Step) (before cost total most sum : ℕ) (f : most ≡ step_cost room step) (e : sum ≡ moves_cost room cost step)
    (b : sum ≤ length step * 8589934080) (m : total + move_total (step ∷ rest) * 8589934080 ≤ move_total steps * 8589934080) where
  pub total-fits : move_total steps ≤ 1024 → Fits w64 (total + sum)
  total-fits t = let l = total-cons step rest in record { fits = omega arith }

  pub total-more : total + cost_from room cost (step ∷ rest) ≡ cost_from room before steps → total + sum + cost_from room (cost + most) rest ≡ cost_from room before steps
  unfolding cost_from moves_cost
  total-more inv = rw (f, e) (add_assoc total (moves_cost room cost step) _ ∙ inv)

  pub total-most : total + sum + move_total rest * 8589934080 ≤ move_total steps * 8589934080
  total-most = let l = total-cons step rest in omega arith

pub total-next : (step : Step) (rest : List Step) → all sized (step ∷ rest) ≡ true → move_total (step ∷ rest) ≤ 1024 → (all sized rest ≡ true) × (move_total rest ≤ 1024)
total-next step rest a t = let l = total-cons step rest in (all_tail sized step rest a, omega arith)

pub total-end : (room : Room) (steps : List Step) (before cost total : ℕ) → total + cost_from room cost [] ≡ cost_from room before steps → total ≡ cost_from room before steps
unfolding cost_from
total-end room steps before cost total inv = sym (add-zero total) ∙ inv

-- ---- the moves of a step in std's words

-- the memory of a move, said with its bound
abbrev pub capped : Room → Move → ℕ
capped room move = min (memory_of room move) 16777215

module _ (room : Room) where
  largest : (a : ℕ) (moves : Step) → fold max a (map (memory_of room) moves) ≡ max a (step_cost room moves)
  unfolding step_cost
  largest a [] = omega arith
  largest a (move ∷ moves) = largest (max a (memory_of room move)) moves ∙ omega arith

  pub largest-is : (step : Step) → unwrap_or (reduce max (map (memory_of room) step)) 0 ≡ step_cost room step
  unfolding step_cost
  largest-is [] = refl
  largest-is (move ∷ moves) = largest (memory_of room move) moves

  largest-from : (a : ℕ) (moves : Step) → a < 2 ^ 24 → fold max a (map (capped room) moves) < 2 ^ 24
  largest-from a [] h = h
  largest-from a (move ∷ moves) h = largest-from (max a (capped room move)) moves (omega arith)

  pub largest-low : (step : Step) → unwrap_or (reduce max (map (capped room) step)) 0 < 2 ^ 24
  largest-low [] = omega arith
  largest-low (move ∷ moves) = largest-from (capped room move) moves (omega arith)

  module _ (before : ℕ) where
    summed-from : (a : ℕ) (moves : Step) → fold (λ n move. n + (memory_of room move + before)) a moves ≡ a + sum_of (λ move. memory_of room move + before) moves
    unfolding sum_of
    summed-from a [] = omega arith
    summed-from a (move ∷ moves) = summed-from (a + (memory_of room move + before)) moves ∙ omega arith

    pub summed-is : (step : Step) → sum_by (λ move. memory_of room move + before) step ≡ moves_cost room before step
    unfolding moves_cost
    summed-is step = summed-from 0 step ∙ omega arith

    summed-low : (a : ℕ) (moves : Step) → before + 16777215 ≤ 8589934080 → fold (λ n move. n + (capped room move + before)) a moves ≤ a + length moves * 8589934080
    summed-low a [] b = omega arith
    summed-low a (move ∷ moves) b = let k = summed-low (a + (capped room move + before)) moves b in omega arith

    pub summed-most : (step : Step) → before + 16777215 ≤ 8589934080 → sum_by (λ move. capped room move + before) step ≤ length step * 8589934080
    summed-most step b = let k = summed-low 0 step b in omega arith
