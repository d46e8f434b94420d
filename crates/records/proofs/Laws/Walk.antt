-- Laws on the lists and the VMs of a sound constraint, for the crates above.
use Prim.Native.Nat.{ℕ, zero, suc, ◌≤◌, ◌<◌}
use mathlib.Core.Bool.{Bool, true, false}
use mathlib.Core.List.{List, [], ◌∷◌}
use mathlib.Core.Path.{◌≡◌, refl}
use native.Mathlib.Omega.{arith}
use lib.ListN.{length, get_or}
use lib.Dec.{ltb, leb}
use borrow.Author.Tests.{eq-eqb, ltb-true, leb-true}
use Rattle.records.specs.Base.{all}
use Rattle.records.specs.Room.{Constraint, ban, fence, spread, latency, before, kind_of, vms_of, nodes_of, groups_of, first_of, second_of, above, rises, list_ok, constraint_ok}
use Rattle.records.specs.declared.constraints.Kind.TheVariants.{Before}
use Rattle.records.proofs.Laws.Bools.{and_left, and_right}

-- ---- the lists of a sound constraint

module _ (v n : ℕ) where
  pub vms-sound : (c : Constraint) → constraint_ok v n c ≡ true → list_ok v (vms_of c) ≡ true
  unfolding constraint_ok vms_of list_ok rises all
  vms-sound (ban vms nodes) e = and_left (list_ok v vms) _ e
  vms-sound (fence vms nodes) e = and_left (list_ok v vms) _ e
  vms-sound (spread vms) e = e
  vms-sound (latency vms groups) e = and_left (list_ok v vms) _ e
  vms-sound (before first second) e = refl

  pub nodes-sound : (c : Constraint) → constraint_ok v n c ≡ true → list_ok n (nodes_of c) ≡ true
  unfolding constraint_ok nodes_of list_ok rises all
  nodes-sound (ban vms nodes) e = and_right (list_ok v vms) _ e
  nodes-sound (fence vms nodes) e = and_right (list_ok v vms) _ e
  nodes-sound (spread vms) e = refl
  nodes-sound (latency vms groups) e = refl
  nodes-sound (before first second) e = refl

  pub groups-sound : (c : Constraint) → constraint_ok v n c ≡ true → all (list_ok n) (groups_of c) ≡ true
  unfolding constraint_ok groups_of all
  groups-sound (ban vms nodes) e = refl
  groups-sound (fence vms nodes) e = refl
  groups-sound (spread vms) e = refl
  groups-sound (latency vms groups) e = and_left (all (list_ok n) groups) _ (and_right (leb (length groups) 64) _ (and_right (list_ok v vms) _ e))
  groups-sound (before first second) e = refl

  pub groups_few : (c : Constraint) → constraint_ok v n c ≡ true → length (groups_of c) ≤ 64
  unfolding constraint_ok groups_of
  groups_few (ban vms nodes) e = omega arith
  groups_few (fence vms nodes) e = omega arith
  groups_few (spread vms) e = omega arith
  groups_few (latency vms groups) e = leb-true (length groups) 64 (and_left (leb (length groups) 64) _ (and_right (list_ok v vms) _ e))
  groups_few (before first second) e = omega arith

-- ---- the two VMs of a sound constraint

-- both are there and they differ; in a constraint of lists both read 0
module _ (v n : ℕ) where
  pub pair-sound : (c : Constraint) → constraint_ok v n c ≡ true → kind_of c ≡ Before → (first_of c < v) × (second_of c < v) × (first_of c ≡ second_of c → ⊥)
  unfolding constraint_ok kind_of first_of second_of
  pair-sound (ban vms nodes) e k = let z : ◌≡◌ {A = ℕ} 0 1 = cc in absurd (omega arith)
  pair-sound (fence vms nodes) e k = let z : ◌≡◌ {A = ℕ} 0 1 = cc in absurd (omega arith)
  pair-sound (spread vms) e k = let z : ◌≡◌ {A = ℕ} 0 1 = cc in absurd (omega arith)
  pair-sound (latency vms groups) e k = let z : ◌≡◌ {A = ℕ} 0 1 = cc in absurd (omega arith)
  pair-sound (before first second) e k =
      let r = and_right (ltb first v) _ e in (
        ltb-true first v (and_left (ltb first v) _ e),
        ltb-true second v (and_left (ltb second v) _ r),
        λ q. let d = and_right (ltb second v) _ r in
            let s : ◌≡◌ {A = Bool} false true = simp (eq-eqb first second q) at d in
            let z : ◌≡◌ {A = ℕ} 0 1 = cc in omega arith,
      )

-- a list that rises strictly does so between any two places
above_at : (low : ℕ) (l : List ℕ) (j : ℕ) → above low l ≡ true → j < length l → low < get_or l j 0
unfolding above
above_at low [] j e h = absurd (omega arith)
above_at low (x ∷ xs) zero e h = ltb-true low x (and_left (ltb low x) (above x xs) e)
above_at low (x ∷ xs) (suc j) e h =
    let a = ltb-true low x (and_left (ltb low x) (above x xs) e) in
    let b = above_at x xs j (and_right (ltb low x) (above x xs) e) (omega arith) in
    omega arith

above-rises : (x : ℕ) (xs : List ℕ) → above x xs ≡ true → rises xs ≡ true
unfolding above rises
above-rises x [] e = refl
above-rises x (y ∷ ys) e = and_right (ltb x y) (above y ys) e

pub rises-at : (l : List ℕ) (i j : ℕ) → rises l ≡ true → i < j → j < length l → get_or l i 0 < get_or l j 0
unfolding rises
rises-at [] i j e h k = absurd (omega arith)
rises-at (x ∷ xs) i zero e h k = absurd (omega arith)
rises-at (x ∷ xs) zero (suc j) e h k = above_at x xs j e (omega arith)
rises-at (x ∷ xs) (suc i) (suc j) e h k = rises-at xs i j (above-rises x xs e) (omega arith) (omega arith)
