-- Laws on the walk for 18 and 33: who waits for whom, by the arrays of places and destinations.
use Prim.Native.Nat.{ℕ, ◌<◌}
use mathlib.Core.Bool.{Bool, true, false, not, ◌&&◌, ◌||◌, false≢true}
use mathlib.Core.List.{List, [], ◌∷◌}
use mathlib.Core.Path.{◌≡◌, refl, sym, ap₂, ◌∙◌}
use native.Mathlib.Omega.{arith}
use lib.ListN.{length}
use lib.Dec.{ltb, eqb}
use borrow.Author.Tests.{ltb-true, eqb-true}
use Rattle.records.specs.Base.{pick, all}
use Rattle.records.specs.Room.{Constraint, ban, fence, spread, latency, before, kind_of, first_of, second_of, Room, constraint_ok, IsSound}
use Rattle.records.specs.Plan.{Step}
use Rattle.records.specs.declared.constraints.Kind.TheVariants.{Before}
use Rattle.records.proofs.Laws.Bools.{and_left, and_right, all_head, all_tail}
use Rattle.records.proofs.Laws.Walk.{pair-sound}
use Rattle.rules.specs.Moments.{at_target}
use Rattle.rules.specs.Orders.{some}
use Rattle.rules.specs.Rules.{named, has_move, respects, in_turn, puts, waits_for}
use Rattle.rules.specs.Inner.{held, dests_from, pair_in_turn, turn_ok}
use Rattle.rules.proofs.Laws.Places.{target_at}
use Rattle.rules.proofs.Laws.Fit.{held_at, moves-at}

-- ---- a constraint, by its kind

module _ (room : Room) (places dests : List ℕ) where
  pub turn-pair : (k : Constraint) → kind_of k ≡ Before → pair_in_turn room places dests (first_of k) (second_of k) ≡ turn_ok room places dests k
  unfolding turn_ok kind_of first_of second_of
  turn-pair (ban vms nodes) e = cc
  turn-pair (fence vms nodes) e = cc
  turn-pair (spread vms) e = cc
  turn-pair (latency vms groups) e = cc
  turn-pair (before first second) e = refl

  pub turn-none : (k : Constraint) → (kind_of k ≡ Before → ⊥) → true ≡ turn_ok room places dests k
  unfolding turn_ok kind_of
  turn-none (ban vms nodes) n = refl
  turn-none (fence vms nodes) n = refl
  turn-none (spread vms) n = refl
  turn-none (latency vms groups) n = refl
  turn-none (before first second) n = absurd (n refl)

-- ---- what the arrays tell is what the step does

module _ (room : Room) (places : List ℕ) (step : Step) (w : IsSound room) (n : named room (held room places) 0 step ≡ true) where
  pair_is : (h g t : Bool) → (not h || (not g && t)) ≡ pick h (t && not g) true
  pair_is true true true = refl
  pair_is true true false = refl
  pair_is true false true = refl
  pair_is true false false = refl
  pair_is false g t = refl

  turn_is : (k : Constraint) → constraint_ok (length room.vms) (length room.nodes) k ≡ true → turn_ok room places (dests_from step) k ≡ respects room (held room places) step k
  unfolding turn_ok respects constraint_ok
  turn_is (ban vms nodes) c = refl
  turn_is (fence vms nodes) c = refl
  turn_is (spread vms) c = refl
  turn_is (latency vms groups) c = refl
  turn_is (before first second) c =
      let m = w.vms-most in
      let f = ltb-true first (length room.vms) (and_left (ltb first (length room.vms)) _ c) in
      let g = ltb-true second (length room.vms) (and_left (ltb second (length room.vms)) _ (and_right (ltb first (length room.vms)) _ c)) in
      rw (
        moves-at room places step w n first (omega arith),
        moves-at room places step w n second (omega arith),
        ← held_at room places first f,
        ← target_at room first,
      )
      (pair_is (has_move step second) (has_move step first) (at_target room (held room places) first))

  turns-are : (ks : List Constraint) → all (constraint_ok (length room.vms) (length room.nodes)) ks ≡ true →
      all (turn_ok room places (dests_from step)) ks ≡ all (respects room (held room places) step) ks
  unfolding all
  turns-are [] c = refl
  turns-are (k ∷ ks) c =
      ap₂ (λ (x y : Bool). x && y) (turn_is k (all_head (constraint_ok (length room.vms) (length room.nodes)) k ks c)) (turns-are ks (all_tail (constraint_ok (length room.vms) (length room.nodes)) k ks c))

  pub in-turn-is : all (turn_ok room places (dests_from step)) room.constraints ≡ in_turn room (held room places) step
  unfolding in_turn
  in-turn-is = turns-are room.constraints w.well-formed

-- ---- whoever is waited for is there, and is another

-- what is known of a sound constraint that has one VM before another
module _ (n m first second : ℕ) where
  pair_one : (k : Constraint) → puts first second k ≡ true → constraint_ok n m k ≡ true → (first < n) × (first ≡ second → ⊥)
  unfolding puts kind_of first_of second_of
  pair_one (ban vms nodes) p o = absurd (false≢true p)
  pair_one (fence vms nodes) p o = absurd (false≢true p)
  pair_one (spread vms) p o = absurd (false≢true p)
  pair_one (latency vms groups) p o = absurd (false≢true p)
  pair_one (before a b) p o =
      let x = eqb-true a first (and_left (eqb a first) (eqb b second) p) in
      let y = eqb-true b second (and_right (eqb a first) (eqb b second) p) in
      let q = pair-sound n m (before a b) o refl in
      (rw (← x) q.0, λ e. q.2 (x ∙ e ∙ sym y))

  pair-some : (ks : List Constraint) → some (puts first second) ks ≡ true → all (constraint_ok n m) ks ≡ true → (first < n) × (first ≡ second → ⊥)
  unfolding some
  pair-some [] p o = absurd (false≢true p)
  pair-some (k ∷ ks) p o = go (puts first second k) refl p (λ q. pair-some ks q (all_tail (constraint_ok n m) k ks o))
    where
      go : (b : Bool) → puts first second k ≡ b → (b || some (puts first second) ks) ≡ true →
          (some (puts first second) ks ≡ true → (first < n) × (first ≡ second → ⊥)) → (first < n) × (first ≡ second → ⊥)
      go true q p more = pair_one k q (all_head (constraint_ok n m) k ks o)
      go false q p more = more p

module _ (room : Room) (w : IsSound room) (first second : ℕ) (p : waits_for room second first ≡ true) where
  pair-known : (first < length room.vms) × (first ≡ second → ⊥)
  unfolding waits_for
  pair-known = pair-some (length room.vms) (length room.nodes) first second room.constraints p w.well-formed

  pub first-there : first < length room.vms
  first-there = pair-known.0

  pub first-other : first ≡ second → ⊥
  first-other = pair-known.1
