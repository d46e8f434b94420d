-- Laws on the search for a pivot: moves of one VM alone, the first node and the first VM that will do.
use Prim.Native.Nat.{ℕ, zero, suc, ◌+◌, ◌-◌, ◌≤◌, ◌<◌}
use mathlib.Core.Bool.{Bool, true, false, not, ◌&&◌, ◌||◌, false≢true}
use mathlib.Core.List.{List, [], ◌∷◌}
use mathlib.Core.Path.{◌≡◌, refl, sym, ap, ap₂, ◌∙◌}
use native.Mathlib.Nat.{sub-zero}
use native.Mathlib.Numerals.{add-one}
use native.Mathlib.Omega.{arith}
use lib.ListN.{length, get_or, set, replicate}
use lib.Seq.{length-take-le}
use lib.Dec.{eqb}
use borrow.Author.Tests.{eq-eqb, ne_eqb, eqb-false, not-true}
use Rattle.std.specs.Prelude.{Option, Some, None}
use Rattle.std.specs.Bool.{then_some}
use Rattle.std.specs.List.{find, list_any, range_with_len}
use Rattle.records.specs.Base.{all}
use Rattle.records.specs.Room.{Room, IsSound, vm_of, on_node}
use Rattle.records.specs.Plan.{Step}
use Rattle.records.proofs.Laws.Rows.{near-node, near_on, far-off}
use Rattle.rules.specs.Moments.{Placement, place_of, target_of, empty_tally}
use Rattle.rules.specs.Orders.{some}
use Rattle.rules.specs.Rules.{from, sound_step}
use Rattle.rules.specs.Inner.{held, Placed, dests_from, Loads}
use Rattle.rules.specs.declared.tally.Tally.{Tally}
use Rattle.rules.proofs.Laws.Adding.{joins-tests, alone, empty-sound}
use Rattle.rules.proofs.Laws.Fit.{held_at}
use Rattle.rules.proofs.Laws.Named.{aims-node}
use Rattle.rules.proofs.Laws.Places.{target_at}
use Rattle.planner.specs.Picks.{moving, away, can_go, direct_step, pivot_first, pivot_step, or_else, vms_in, nodes_in}
use Rattle.planner.specs.Inner.{Waiting, Rested, joins_in, aside, pivot_node, comer, comes_to, useful_node, array_for}
use Rattle.planner.proofs.Laws.Direct.{direct-none}
use Rattle.planner.proofs.Laws.Waits.{turn-lone, held-set, waits-aside}
use Rattle.planner.proofs.Laws.Joining.{longer-sound}
use Rattle.planner.proofs.Laws.Pivots.{lone, pivot-among, useful-home, useful-down, useful-found, useful-not, pivot-node-off}
use Rattle.planner.proofs.Laws.Turning.{dests-none, left-cons, left-none, rest-tally}

-- ---- one VM alone

-- the sums at rest
module _ (room : Room) (places dests : List ℕ) (sums : List Tally) (d : ℕ) (l : Loads room places dests sums) (e : dests ≡ replicate 256 64) (w : IsSound room)
    (h : d < length room.nodes) where
  pub rested : Rested room places d (get_or sums d empty_tally)
  rested =
      let m = w.nodes-most in let n = w.vms-most in let a = l.memory-most d in let b = l.cpu-most d in
      record { is = rest-tally room places dests sums d e l w (omega arith); light = record { memory = omega arith; cpu = omega arith } }

pub rested-still : (room : Room) (places : List ℕ) (sums : List Tally) (d : ℕ) → Loads room places (replicate 256 64) sums → IsSound room → d < length room.nodes →
    Rested room places d (get_or sums d empty_tally)
rested-still room places sums d l w h = rested room places (replicate 256 64) sums d l refl w h

pub lone-sound : (room : Room) (places dests : List ℕ) (here : Tally) (v d : ℕ) (r : Bool) → r ≡ joins_in room places dests here v d → dests ≡ replicate 256 64 → Rested room places d here →
    IsSound room → v < length room.vms → d < length room.nodes → r ≡ sound_step room (held room places) (moving v d ∷ [])
unfolding all
lone-sound room places dests here v d r e q a w t n =
    e ∙ sym (longer-sound room places dests [] here v d w (q ∙ sym dests-none) (empty-sound room (held room places)) (λ l. a.is) t (sym (aims-node room v d n)) (λ o. turn-lone room (held room places) v d w) refl)

-- not to its target
module _ (room : Room) (places : List ℕ) (v d t : ℕ) (e : t ≡ (vm_of room v).target) where
  pub aside-target : t ≡ d → false ≡ aside room (held room places) v d
  unfolding aside
  aside-target q = rw (eq-eqb d (place_of (target_of room) v) (sym q ∙ e ∙ sym (target_at room v)))

  pub aside-sound : (r : Bool) → r ≡ sound_step room (held room places) (moving v d ∷ []) → (t ≡ d → ⊥) → r ≡ aside room (held room places) v d
  unfolding aside
  aside-sound r f q = f ∙ rw (ne_eqb d (place_of (target_of room) v) (λ x. q (e ∙ sym (target_at room v) ∙ sym x)))

-- to its target, and another VM
sound-goes : (room : Room) (places : Placement) (u p : ℕ) → place_of (target_of room) u ≡ p → sound_step room places (moving u p ∷ []) ≡ can_go room places u
unfolding can_go away
sound-goes room places u p e = rw e (given (sound_step room places (moving u p ∷ [])) (not (eqb (place_of places u) p)) leaves)
  where
    leaves : sound_step room places (moving u p ∷ []) ≡ true → not (eqb (place_of places u) p) ≡ true
    leaves s =
        let j = joins-tests room places [] u p (sym (alone room places u p) ∙ s) in
        let o = eqb-false p (place_of places u) (not-true (eqb p (place_of places u)) j.off) in
        ap not (ne_eqb (place_of places u) p (λ x. o (sym x)))

    given : (a b : Bool) → (a ≡ true → b ≡ true) → a ≡ (b && a)
    given true true h = refl
    given true false h = absurd (false≢true (h refl))
    given false true h = refl
    given false false h = refl

module _ (room : Room) (places : List ℕ) (v p u t : ℕ) (e : t ≡ (vm_of room u).target) where
  target_is : place_of (target_of room) u ≡ t
  target_is = target_at room u ∙ sym e

  pub comer-elsewhere : (t ≡ p → ⊥) → false ≡ comer room (held room places) v p u
  unfolding comer
  comer-elsewhere q = rw (target_is, ne_eqb t p q)

  module _ (q : t ≡ p) where
    pub comer-same : u ≡ v → false ≡ comer room (held room places) v p u
    unfolding comer
    comer-same f = rw (target_is, eq-eqb t p q, eq-eqb u v f)

    pub comer-goes : (r : Bool) → r ≡ sound_step room (held room places) (moving u p ∷ []) → (u ≡ v → ⊥) → r ≡ comer room (held room places) v p u
    unfolding comer
    comer-goes r f o = f ∙ sound-goes room (held room places) u p (target_is ∙ q) ∙ rw (target_is, eq-eqb t p q, ne_eqb u v o)

-- ---- the first node, and some VM that comes

-- the numbers of a range, in the two forms
range-from : (v n : ℕ) → range_with_len v n ≡ from v n
unfolding from
range-from v zero = refl
range-from v (suc n) = let rest : range_with_len (v + 1) n ≡ from (suc v) n = rw (add-one v) (range-from (suc v) n) in rw rest refl

pub nodes-ranged : (room : Room) (places : Placement) (v : ℕ) → find (aside room places v) (range_with_len 0 (length room.nodes)) ≡ pivot_node room places v (nodes_in room)
unfolding pivot_node
nodes-ranged room places v = ap (find (aside room places v)) (range-from 0 (length room.nodes))

any-some : (p : ℕ → Bool) (us : List ℕ) → list_any p us ≡ some p us
unfolding some
any-some p [] = refl
any-some p (u ∷ us) = ap (λ b. p u || b) (any-some p us)

pub vms-ranged : (room : Room) (places : Placement) (v p : ℕ) → list_any (comer room places v p) (range_with_len 0 (length room.vms)) ≡ comes_to room places v p (vms_in room)
unfolding comes_to
vms-ranged room places v p = rw (range-from 0 (length room.vms)) (any-some (comer room places v p) (vms_in room))

-- ---- the useful pivot of one VM

pub held-length : (room : Room) (places : List ℕ) → length places ≡ 256 → IsSound room → length (held room places) ≡ length room.vms
unfolding held
held-length room places z w = let m = w.vms-most in length-take-le (length room.vms) places (omega arith)

pub place-there : (room : Room) (places : List ℕ) (v p : ℕ) → p ≡ get_or places v 0 → IsSound room → Placed room places → p < 64 → p < length room.nodes
place-there room places v p e w b h = near-node (length room.nodes) p w.nodes-most (rw e (b.each v)) h

module _ (room : Room) (places : List ℕ) (v p t : ℕ) (b : Placed room places) (e : p ≡ get_or places v 0) (f : t ≡ (vm_of room v).target) (w : IsSound room) (h : v < length room.vms) where
  place_is : place_of (held room places) v ≡ p
  place_is = held_at room places v h ∙ sym e

  away-is : away room (held room places) v ≡ not (eqb p t)
  unfolding away
  away-is = ap₂ (λ (a b : ℕ). not (eqb a b)) place_is (target_at room v ∙ sym f)

  pub useful-kept : p ≡ t → None ≡ useful_node room (held room places) v (nodes_in room)
  useful-kept g = useful-home room (held room places) v (away-is ∙ ap not (eq-eqb p t g))

  -- a VM on no node is not pivoted
  pub useful-off : 64 ≤ p → None ≡ useful_node room (held room places) v (nodes_in room)
  useful-off k = useful-down room (held room places) v (ap on_node place_is ∙ far-off (length room.nodes) p w.nodes-most (rw e (b.each v)) k)

  module _ (g : p ≡ t → ⊥) (up : p < 64) (d : ℕ) (x : pivot_node room (held room places) v (nodes_in room) ≡ Some d) where
    -- the marks of those who wait are the same behind the pivot
    pub useful-waits : (marks : List Bool) → Waiting room places marks → length places ≡ 256 → Waiting room (set places v d) marks
    useful-waits marks m z =
        waits-aside room places marks v d m z h w (away-is ∙ ap not (ne_eqb p t g))
        (λ q. pivot-node-off room (held room places) v d x (q ∙ sym (target_at room v)))

    module _ (ok : Bool) (o : ok ≡ comes_to room (held room (set places v d)) v p (vms_in room))
        (y : direct_step room (held room places) ≡ []) (z : length places ≡ 256) where
      ok-is : ok ≡ comes_to room (set (held room places) v d) v (place_of (held room places) v) (vms_in room)
      ok-is = o ∙ ap₂ (λ (a : Placement) (b : ℕ). comes_to room a v b (vms_in room)) (held-set room places v d h) (sym place_is)

      is-away : away room (held room places) v ≡ true
      is-away = away-is ∙ ap not (ne_eqb p t g)

      is_up : on_node (place_of (held room places) v) ≡ true
      is_up = ap on_node place_is ∙ near_on (length room.nodes) p w.nodes-most (rw e (b.each v)) up

      useful-yes : ok ≡ true → Some d ≡ useful_node room (held room places) v (nodes_in room)
      useful-yes c =
          useful-found room (held room places) v (held-length room places z w) (direct-none room (held room places) y) d (set (held room places) v d) ok x refl ok-is is-away is_up c

      useful-no : ok ≡ false → None ≡ useful_node room (held room places) v (nodes_in room)
      useful-no c =
          useful-not room (held room places) v (held-length room places z w) (direct-none room (held room places) y) d (set (held room places) v d) ok x refl ok-is is-away is_up c

      pub useful-told : then_some ok d ≡ useful_node room (held room places) v (nodes_in room)
      useful-told = go ok refl
        where
          go : (b : Bool) → ok ≡ b → then_some b d ≡ useful_node room (held room places) v (nodes_in room)
          go true c = useful-yes c
          go false c = useful-no c

-- ---- the first VM

pub first-start : (room : Room) (places : List ℕ) → pivot_first room (held room places) (from 0 (length room.vms - 0)) ≡ pivot_step room (held room places)
unfolding pivot_step
first-start room places = rw (sub-zero (length room.vms))

module _ (room : Room) (places : List ℕ) (v : ℕ) (result : Step) (inv : pivot_first room (held room places) (from v (length room.vms - v)) ≡ result) where
  pub first-none : length room.vms ≤ v → None ≡ array_for result
  unfolding pivot_first array_for
  first-none h = ap array_for (rw (left-none (length room.vms) v h) at inv)

  module _ (found : Option ℕ) (x : found ≡ useful_node room (held room places) v (nodes_in room)) (h : v < length room.vms) where
    first-opened : or_else (lone v found) (pivot_first room (held room places) (from (v + 1) (length room.vms - (v + 1)))) ≡ result
    unfolding pivot_first
    first-opened = rw (x, ← pivot-among room (held room places) v) (rw (left-cons (length room.vms) v h) at inv)

    pub first_found : (d : ℕ) (dests : List ℕ) → found ≡ Some d → dests ≡ replicate 256 64 → Some (set dests v d) ≡ array_for result
    unfolding or_else dests_from array_for
    first_found d dests k e = rw e (ap array_for (rw k at first-opened))

    pub first_more : found ≡ None → pivot_first room (held room places) (from (v + 1) (length room.vms - (v + 1))) ≡ result
    unfolding or_else
    first_more k = rw k at first-opened
