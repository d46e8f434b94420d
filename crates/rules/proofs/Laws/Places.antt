-- Laws on placements in arrays: filling one from a room, moving, destinations.
use Prim.Native.Nat.{ℕ, zero, suc, ◌+◌, ◌-◌, ◌≤◌, ◌<◌}
use mathlib.Core.Bool.{true}
use mathlib.Core.List.{List, [], ◌∷◌, ◌++◌}
use mathlib.Core.Logic.{by_cases}
use mathlib.Core.Path.{◌≡◌, refl, sym, ap, ◌∙◌}
use native.Mathlib.Decide.{dec_lt}
use native.Mathlib.Numerals.{add-one}
use native.Mathlib.Omega.{arith}
use lib.ListN.{length, get_or, set, take, drop, replicate, length-set, length-map, length-replicate, get_or-replicate, get_or-map, get_or-append, get_or-eq_default, take-append-drop}
use lib.Seq.{take-suc, take-suc-set, drop-drop, drop-set-lt, take_all, take_at, get_or-append-add}
use Rattle.records.specs.Room.{Room, no_vm, vm_of, place_ok, IsSound}
use Rattle.records.specs.Plan.{Step}
use Rattle.records.proofs.Laws.Rows.{place-node}
use Rattle.rules.specs.Moments.{Placement, current_of, target_of, after}
use Rattle.rules.specs.Rules.{named}
use Rattle.rules.specs.Inner.{held, Placed, Holds, array_of, Filling, dests_from}
use Rattle.rules.proofs.Laws.Orders.{named-least, named-rest}

-- ---- filling an array from the VM rows

pub filling-start : (placement : Placement) → Filling (replicate 256 0) placement 0
filling-start placement = record { size = simp length-replicate; is = refl; rest = refl }

-- one place more
module _ (places : List ℕ) (placement : Placement) (v x : ℕ) (f : Filling places placement v) (e : x ≡ get_or placement v 0) (m : v < length placement) (m' : v < 256) where
  zeros-less : drop (suc v) places ≡ replicate (256 - suc v) 0
  zeros-less =
      let k : v + 1 ≡ suc v = omega arith in
      let n : 256 - v ≡ suc (256 - suc v) = omega arith in
      ap (λ (i : ℕ). drop i places) (sym k) ∙ sym (drop-drop 1 v places) ∙ ap (drop 1) f.rest ∙ ap (λ (i : ℕ). drop 1 (replicate i 0)) n

  filling-more : Filling (set places v x) placement (v + 1)
  filling-more =
      let h : v < length places = rw f.size m' in
      let l : v < suc v = omega arith in
      record {
        size = length-set places v x ∙ f.size;
        is = rw add-one (take-suc-set places v x h ∙ ap (λ (l : List ℕ). l ++ (x ∷ [])) f.is ∙ ap (λ (y : ℕ). take v placement ++ (y ∷ [])) e ∙ sym (take-suc placement v 0 m));
        rest = rw add-one (drop-set-lt (suc v) places v x l ∙ zeros-less);
      }

filling-end : (places : List ℕ) (placement : Placement) (v : ℕ) → Filling places placement v → length placement ≡ v → places ≡ array_of placement
unfolding array_of
filling-end places placement v f e =
    sym (take-append-drop v places) ∙ ap (λ (l : List ℕ). l ++ drop v places) (f.is ∙ take_all v placement (omega arith)) ∙
    ap (λ (l : List ℕ). placement ++ l) (f.rest ∙ ap (λ (n : ℕ). replicate (256 - n) 0) (sym e))

-- an array so filled holds the placement
module _ (room : Room) (places : List ℕ) (placement : Placement) (q : places ≡ array_of placement) (w : IsSound room) (l : length placement ≡ length room.vms)
    (b : (v : ℕ) → v < length room.vms → place_ok true (length room.nodes) (get_or placement v 0) ≡ true) where
  array_places : (v : ℕ) → place_ok true (length room.nodes) (get_or (array_of placement) v 0) ≡ true
  unfolding array_of
  array_places v =
      by_cases (dec_lt v (length placement)) (λ h. rw (get_or-append placement (replicate (256 - length placement) 0) 0 v h) (b v (omega arith)))
      (λ h. let k : v ≡ length placement + (v - length placement) = omega arith in
      let n : 0 < length room.nodes = let m = w.nodes-least in omega arith in
      rw (ap (λ (i : ℕ). get_or (placement ++ replicate (256 - length placement) 0) i 0) k ∙ get_or-append-add placement (replicate (256 - length placement) 0) (v - length placement) 0 ∙
      zeros (256 - length placement) (v - length placement)) (sym (place-node true (length room.nodes) 0 n)))
    where
      zeros : (n u : ℕ) → ◌≡◌ {A = ℕ} (get_or (replicate n 0) u 0) 0
      zeros n u =
          by_cases (dec_lt u n) (λ p. get_or-replicate n u 0 0 p)
          (λ p. let h : length {A = ℕ} (replicate n 0) ≤ u = simp length-replicate (omega arith) in get_or-eq_default (replicate n 0) 0 h)

  array-holds : Holds room places placement
  unfolding held array_of
  array-holds = record {
    is = ap (take (length room.vms)) q ∙ take_at placement (replicate (256 - length placement) 0) (length room.vms) l;
    placed = record { each = λ v. rw q (array_places v) };
  }

-- the two placements of a room
module _ (room : Room) where
  pub current-count : length (current_of room) ≡ length room.vms
  unfolding current_of
  current-count = length-map room.vms (λ vm. vm.current)

  pub target-count : length (target_of room) ≡ length room.vms
  unfolding target_of
  target-count = length-map room.vms (λ vm. vm.target)

  pub current-at : (v : ℕ) → get_or (current_of room) v 0 ≡ (vm_of room v).current
  unfolding current_of vm_of
  current-at v = get_or-map (λ vm. vm.current) room.vms v no_vm

  pub target_at : (v : ℕ) → get_or (target_of room) v 0 ≡ (vm_of room v).target
  unfolding target_of vm_of
  target_at v = get_or-map (λ vm. vm.target) room.vms v no_vm

module _ (room : Room) (places : List ℕ) (v x : ℕ) (w : IsSound room) where
  pub current-more : x ≡ (vm_of room v).current → Filling places (current_of room) v → v < length room.vms → Filling (set places v x) (current_of room) (v + 1)
  current-more e f h =
      let m = w.vms-most in
      filling-more places (current_of room) v x f (e ∙ sym (current-at room v)) (rw (current-count room) h) (omega arith)

  pub target_more : x ≡ (vm_of room v).target → Filling places (target_of room) v → v < length room.vms → Filling (set places v x) (target_of room) (v + 1)
  target_more e f h =
      let m = w.vms-most in
      filling-more places (target_of room) v x f (e ∙ sym (target_at room v)) (rw (target-count room) h) (omega arith)

module _ (room : Room) (places : List ℕ) (v : ℕ) (q : v ≡ length room.vms) where
  pub current-end : Filling places (current_of room) v → places ≡ array_of (current_of room)
  current-end f = filling-end places (current_of room) v f (current-count room ∙ sym q)

  pub target-end : Filling places (target_of room) v → places ≡ array_of (target_of room)
  target-end f = filling-end places (target_of room) v f (target-count room ∙ sym q)

module _ (room : Room) (places : List ℕ) where
  pub current-holds : places ≡ array_of (current_of room) → IsSound room → Holds room places (current_of room)
  current-holds q w = array-holds room places (current_of room) q w (current-count room) (λ v h. rw (current-at room v) (w.currents v h))

  pub target-holds : places ≡ array_of (target_of room) → IsSound room → Holds room places (target_of room)
  target-holds q w = array-holds room places (target_of room) q w (target-count room) (λ v h. rw (target_at room v) (w.targets v h))

  pub target-placed : places ≡ array_of (target_of room) → IsSound room → Placed room places
  target-placed q w = (target-holds q w).placed

-- ---- destinations: moves put in one by one, no VM twice, come to the same in either order

set-swap : (l : List ℕ) (i j x y : ℕ) → (i ≡ j → ⊥) → set (set l i x) j y ≡ set (set l j y) i x
set-swap [] i j x y n = refl
set-swap (a ∷ l) zero zero x y n = absurd (n refl)
set-swap (a ∷ l) zero (suc j) x y n = refl
set-swap (a ∷ l) (suc i) zero x y n = refl
set-swap (a ∷ l) (suc i) (suc j) x y n = ap (λ (k : List ℕ). a ∷ k) (set-swap l i j x y (λ e. n (ap suc e)))

module _ (room : Room) (places : Placement) where
  after-set : (least : ℕ) (step : Step) (base : List ℕ) (v d : ℕ) → named room places least step ≡ true → v < least → after (set base v d) step ≡ set (after base step) v d
  unfolding after
  after-set least [] base v d e h = refl
  after-set least (move ∷ moves) base v d e h =
      let l = named-least room places least move moves e in
      let n : v ≡ move.vm → ⊥ = λ q. omega arith in
      rw (set-swap base v move.vm d move.to n) (after-set (suc move.vm) moves (set base move.vm move.to) v d (named-rest room places least move moves e) (omega arith))

  pub dests-after : (least : ℕ) (step : Step) → named room places least step ≡ true → after (replicate 256 64) step ≡ dests_from step
  unfolding after dests_from
  dests-after least [] e = refl
  dests-after least (move ∷ moves) e =
      let r = named-rest room places least move moves e in
      after-set (suc move.vm) moves (replicate 256 64) move.vm move.to r (omega arith) ∙ ap (λ (l : List ℕ). set l move.vm move.to) (dests-after (suc move.vm) moves r)
