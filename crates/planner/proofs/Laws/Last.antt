-- The last VM out of place: it always has a sound direct move.
use Prim.Native.Nat.{ℕ, zero, suc, ◌+◌, ◌≤◌, ◌<◌}
use mathlib.Core.Bool.{Bool, true, false, not, ◌&&◌, ◌||◌, false≢true, or-true}
use mathlib.Core.List.{List, [], ◌∷◌}
use mathlib.Core.Logic.{⊎_elim, by_cases}
use mathlib.Core.Path.{◌≡◌, refl, sym, ap, ◌∙◌}
use native.Mathlib.Decide.{ℕ_discrete}
use native.Mathlib.Omega.{arith}
use lib.ListN.{length}
use lib.Dec.{ltb, eqb}
use borrow.Author.Tests.{ltb-true, lt-ltb, eqb-true, eqb-false, eq-eqb, ne_eqb, not-true, not-false}
use Rattle.std.specs.Prelude.{Ok}
use Rattle.records.specs.Base.{pick, all}
use Rattle.records.specs.Room.{Constraint, ban, fence, spread, latency, before, Room, Node, Vm, vm_of, node_of, vms_of, has, nowhere, on_node, IsSound}
use Rattle.records.proofs.Laws.Bools.{and_left, and_right, and_both, all_head, all_tail, all_more}
use Rattle.records.proofs.Laws.Rows.{place-either}
use Rattle.rules.specs.Moments.{Placement, place_of, target_of, at_target, within, within_memory, within_cpu, is_idle, bears, bears_at, with_vm, staying, waiting, cell, number_of, counts_on, tally_at, phase_of, cells_from, first_moment, at_rest, begun, all_running}
use Rattle.rules.specs.Orders.{some, spreads, mates, meets_mate}
use Rattle.rules.specs.Rules.{keeps_from, allowed, aims, spread_out, on_nodes, keeps, fits_all, target_check, puts, waits_for}
use Rattle.rules.specs.declared.tally.Tally.{Tally}
use Rattle.rules.proofs.Laws.Adding.{joins, alone, tally-there}
use Rattle.rules.proofs.Laws.Bound.{first-there, first-other}
use Rattle.rules.proofs.Laws.Meet.{is_false}
use Rattle.rules.proofs.Laws.Orders.{Under, empty, both, meets_under, bears-under}
use Rattle.rules.proofs.Laws.Places.{target_at}
use Rattle.rules.proofs.Laws.Stricter.{good-target}
use Rattle.planner.specs.Picks.{away, moving, can_go}
use Rattle.planner.specs.Inner.{holds_back, held_back}
use Rattle.planner.proofs.Laws.Direct.{lone-turn}
use Rattle.planner.proofs.Laws.Pivots.{from_at}

-- ---- what a kept constraint says of one VM on a node

all-has : (q : ℕ → Bool) (xs : List ℕ) (v : ℕ) → all q xs ≡ true → has xs v ≡ true → q v ≡ true
unfolding has
all-has q [] v a h = absurd (false≢true h)
all-has q (x ∷ xs) v a h = go (eqb x v) refl h (all-has q xs v (all_tail q x xs a))
  where
    go : (b : Bool) → eqb x v ≡ b → (b || has xs v) ≡ true → (has xs v ≡ true → q v ≡ true) → q v ≡ true
    go true e h more = ap q (sym (eqb-true x v e)) ∙ all_head q x xs a
    go false e h more = more h

on-has : (places : Placement) (vms : List ℕ) (v : ℕ) → has vms v ≡ true → on_node (place_of places v) ≡ true → has (on_nodes places vms) v ≡ true
unfolding has on_nodes
on-has places [] v h o = h
on-has places (u ∷ us) v h o = go (eqb u v) refl h (λ k. on-has places us v k o)
  where
    kept : (b : Bool) → has (on_nodes places us) v ≡ true → has (pick b (u ∷ on_nodes places us) (on_nodes places us)) v ≡ true
    kept true m = rw m (or-true (eqb u v))
    kept false m = m

    go : (b : Bool) → eqb u v ≡ b → (b || has us v) ≡ true → (has us v ≡ true → has (on_nodes places us) v ≡ true) →
        has (pick (on_node (place_of places u)) (u ∷ on_nodes places us) (on_nodes places us)) v ≡ true
    go true e h more = rw (eqb-true u v e, o, eq-eqb v v refl)
    go false e h more = kept (on_node (place_of places u)) (more h)

-- two VMs that are spread out are not on one node
out-apart : (places : Placement) (xs : List ℕ) (v u : ℕ) → spread_out places xs ≡ true → has xs v ≡ true → has xs u ≡ true → (v ≡ u → ⊥) →
    place_of places v ≡ place_of places u → ⊥
unfolding spread_out has
out-apart places [] v u s h k n e = false≢true h
out-apart places (x ∷ xs) v u s h k n e = go (eqb x v) (eqb x u) refl refl h k (out-apart places xs v u (and_right (all (λ w. not (eqb (place_of places x) (place_of places w))) xs) _ s))
  where
    apart : (w : ℕ) → has xs w ≡ true → place_of places x ≡ place_of places w → ⊥
    apart w m =
        eqb-false (place_of places x) (place_of places w) (not-true (eqb (place_of places x) (place_of places w))
        (all-has (λ w. not (eqb (place_of places x) (place_of places w))) xs w (and_left (all (λ w. not (eqb (place_of places x) (place_of places w))) xs) _ s) m))

    go : (a b : Bool) → eqb x v ≡ a → eqb x u ≡ b → (a || has xs v) ≡ true → (b || has xs u) ≡ true →
        (has xs v ≡ true → has xs u ≡ true → (v ≡ u → ⊥) → place_of places v ≡ place_of places u → ⊥) → ⊥
    go true true p q h k more = n (sym (eqb-true x v p) ∙ eqb-true x u q)
    go true false p q h k more = apart u k (ap (place_of places) (eqb-true x v p) ∙ e)
    go false true p q h k more = apart v h (ap (place_of places) (eqb-true x u q) ∙ sym e)
    go false false p q h k more = more h k n e

-- ---- the last VM

module _ (room : Room) (places : Placement) (v : ℕ) (t : v < length room.vms) (fit : fits_all room (target_of room) ≡ true)
    (kept : all (keeps (target_of room)) room.constraints ≡ true) (aimed : aims room v (place_of (target_of room) v) ≡ true) (out : away room places v ≡ true)
    (others : (u : ℕ) → u < length room.vms → (u ≡ v → ⊥) → place_of places u ≡ place_of (target_of room) u)
    (firsts : (first : ℕ) → waits_for room v first ≡ true → (first < length room.vms) × (first ≡ v → ⊥)) where
  d : ℕ
  d = place_of (target_of room) v

  off : d ≡ place_of places v → ⊥
  unfolding d away
  off q = eqb-false (place_of places v) (place_of (target_of room) v) (not-true (at_target room places v) out) (sym q)

  -- every ban and fence lets it there, as the target keeps them
  lets : on_node d ≡ true → (k : Constraint) → keeps (target_of room) k ≡ true → not (has (vms_of k) v && keeps_from k d) ≡ true
  unfolding d keeps keeps_from vms_of has
  lets o (ban vms nodes) e = go (has vms v) refl
    where
      go : (b : Bool) → has vms v ≡ b → not (b && has nodes (place_of (target_of room) v)) ≡ true
      go true h = all-has (λ u. not (has nodes (place_of (target_of room) u))) (on_nodes (target_of room) vms) v e (on-has (target_of room) vms v h o)
      go false h = refl
  lets o (fence vms nodes) e = go (has vms v) refl
    where
      go : (b : Bool) → has vms v ≡ b → not (b && not (has nodes (place_of (target_of room) v))) ≡ true
      go true h = rw (all-has (λ u. has nodes (place_of (target_of room) u)) (on_nodes (target_of room) vms) v e (on-has (target_of room) vms v h o))
      go false h = refl
  lets o (spread vms) e = none (has vms v)
    where
      none : (b : Bool) → not (b && false) ≡ true
      none true = refl
      none false = refl
  lets o (latency vms groups) e = none (has vms v)
    where
      none : (b : Bool) → not (b && false) ≡ true
      none true = refl
      none false = refl
  lets o (before first second) e = refl

  allows : allowed room v d ≡ true
  unfolding allowed
  allows = go (on_node d) refl
    where
      go : (b : Bool) → on_node d ≡ b → pick b (all (λ k. not (has (vms_of k) v && keeps_from k d)) room.constraints) true ≡ true
      go true o = all_more (keeps (target_of room)) (λ k. not (has (vms_of k) v && keeps_from k d)) (lets o) room.constraints kept
      go false o = refl

  -- with its move running, no more counts on its target than when all are there
  under-target : (k n : ℕ) → k + n ≤ length room.vms → Under d (all_running (cells_from places (moving v d ∷ []) k n)) (cells_from (target_of room) [] k n)
  unfolding d cells_from all_running phase_of begun counts_on
  under-target k zero h = empty
  under-target k (suc n) h = both (go (eqb v k) refl) (under-target (suc k) n (omega arith))
    where
      go : (b : Bool) → eqb v k ≡ b → counts_on (place_of (target_of room) v) (cell k (place_of places k) (begun (pick b (waiting (place_of (target_of room) v)) staying))) ≡ true →
          eqb (place_of (target_of room) k) (place_of (target_of room) v) ≡ true
      go true q e = eq-eqb (place_of (target_of room) k) (place_of (target_of room) v) (ap (place_of (target_of room)) (sym (eqb-true v k q)))
      go false q e = rw (← others k (omega arith) (λ x. eqb-false v k q (sym x))) e

  first_under : Under d (all_running (first_moment room places (moving v d ∷ []))) (at_rest room (target_of room))
  unfolding first_moment
  first_under = under-target 0 (length room.vms) (omega arith)

  -- the target bears all of them, so it bears the VM
  target-node : on_node d ≡ true → d < length room.nodes
  unfolding d aims on_node
  target-node o = go (ltb (place_of (target_of room) v) (length room.nodes)) refl aimed
    where
      go : (b : Bool) → ltb (place_of (target_of room) v) (length room.nodes) ≡ b →
          (b || (eqb (place_of (target_of room) v) nowhere && eqb (place_of (target_of room) v) nowhere)) ≡ true → place_of (target_of room) v < length room.nodes
      go true q e = ltb-true (place_of (target_of room) v) (length room.nodes) q
      go false q e =
          absurd (eqb-false (place_of (target_of room) v) nowhere (not-true (eqb (place_of (target_of room) v) nowhere) o)
          (eqb-true (place_of (target_of room) v) nowhere (and_left (eqb (place_of (target_of room) v) nowhere) _ e)))

  within-bears : (node : Node) (tally : Tally) (vm : Vm) → within node tally ≡ true → bears node tally vm ≡ true
  unfolding within bears
  within-bears node tally vm e =
      and_both (and_left (within_memory node tally) (within_cpu node tally) e)
      (rw (and_right (within_memory node tally) (within_cpu node tally) e) (or-true (is_idle vm)))

  within-target : d < length room.nodes → within (node_of room d) (tally_at room d (at_rest room (target_of room))) ≡ true
  unfolding fits_all
  within-target h = from_at (λ e. within (node_of room e) (tally_at room e (at_rest room (target_of room)))) 0 (length room.nodes) d fit (omega arith) (omega arith)

  rest-bears : bears_at room d (tally_at room d (at_rest room (target_of room))) (vm_of room v) ≡ true
  unfolding bears_at
  rest-bears = go (on_node d) refl
    where
      go : (b : Bool) → on_node d ≡ b → pick b (bears (node_of room d) (tally_at room d (at_rest room (target_of room))) (vm_of room v)) true ≡ true
      go false o = refl
      go true o = within-bears (node_of room d) (tally_at room d (at_rest room (target_of room))) (vm_of room v) (within-target (target-node o))

  fits-there : bears_at room d (with_vm (tally_at room d (all_running (first_moment room places []))) (vm_of room v)) (vm_of room v) ≡ true
  unfolding all
  fits-there =
      ap (λ (x : Tally). bears_at room d x (vm_of room v)) (sym (tally-there room places [] v d refl t off)) ∙
      bears-under room (vm_of room v) first_under rest-bears

  -- a mate that is there would be there in the target too
  mate-found : (cs : ℕ → Bool) (k n : ℕ) → some (λ c. cs (number_of c) && counts_on d c) (cells_from (target_of room) [] k n) ≡ true →
      (u : ℕ) × (cs u ≡ true) × (place_of (target_of room) u ≡ d)
  unfolding some cells_from phase_of counts_on
  mate-found cs k zero e = absurd (false≢true e)
  mate-found cs k (suc n) e = go (cs k) (eqb (place_of (target_of room) k) d) refl refl e (mate-found cs (suc k) n)
    where
      go : (a b : Bool) → cs k ≡ a → eqb (place_of (target_of room) k) d ≡ b → (a && b || some (λ c. cs (number_of c) && counts_on d c) (cells_from (target_of room) [] (suc k) n)) ≡ true →
          (some (λ c. cs (number_of c) && counts_on d c) (cells_from (target_of room) [] (suc k) n) ≡ true → (u : ℕ) × (cs u ≡ true) × (place_of (target_of room) u ≡ d)) →
          (u : ℕ) × (cs u ≡ true) × (place_of (target_of room) u ≡ d)
      go true true p q e more = (k, p, eqb-true (place_of (target_of room) k) d q)
      go true false p q e more = more e
      go false b p q e more = more e

  spread-apart : (u : ℕ) → on_node d ≡ true → (v ≡ u → ⊥) → place_of (target_of room) u ≡ d → (k : Constraint) → keeps (target_of room) k ≡ true → spreads v u k ≡ true → ⊥
  unfolding d keeps spreads
  spread-apart u o n e (ban vms nodes) h s = false≢true s
  spread-apart u o n e (fence vms nodes) h s = false≢true s
  spread-apart u o n e (spread vms) h s =
      out-apart (target_of room) (on_nodes (target_of room) vms) v u h (on-has (target_of room) vms v (and_left (has vms v) (has vms u) s) o)
      (on-has (target_of room) vms u (and_right (has vms v) (has vms u) s) (ap on_node e ∙ o)) n (sym e)
  spread-apart u o n e (latency vms groups) h s = false≢true s
  spread-apart u o n e (before first second) h s = false≢true s

  none-spreads : (u : ℕ) → on_node d ≡ true → (v ≡ u → ⊥) → place_of (target_of room) u ≡ d → (ks : List Constraint) → all (keeps (target_of room)) ks ≡ true →
      some (spreads v u) ks ≡ true → ⊥
  unfolding some
  none-spreads u o n e [] h s = false≢true s
  none-spreads u o n e (k ∷ ks) h s = go (spreads v u k) refl s (none-spreads u o n e ks (all_tail (keeps (target_of room)) k ks h))
    where
      go : (b : Bool) → spreads v u k ≡ b → (b || some (spreads v u) ks) ≡ true → (some (spreads v u) ks ≡ true → ⊥) → ⊥
      go true q s more = spread-apart u o n e k (all_head (keeps (target_of room)) k ks h) q
      go false q s more = more s

  unmet-target : meets_mate room (at_rest room (target_of room)) v d ≡ false
  unfolding meets_mate mates first_moment
  unmet-target = go (on_node d) refl
    where
      go : (b : Bool) → on_node d ≡ b → pick b (some (λ c. (not (eqb v (number_of c)) && some (spreads v (number_of c)) room.constraints) && counts_on d c) (cells_from (target_of room) [] 0 (length room.vms))) false ≡ false
      go false o = refl
      go true o =
          is_false (some (λ c. (not (eqb v (number_of c)) && some (spreads v (number_of c)) room.constraints) && counts_on d c) (cells_from (target_of room) [] 0 (length room.vms)))
          (λ e. let m = mate-found (λ u. not (eqb v u) && some (spreads v u) room.constraints) 0 (length room.vms) e in
          none-spreads m.0 o (eqb-false v m.0 (not-true (eqb v m.0) (and_left (not (eqb v m.0)) (some (spreads v m.0) room.constraints) m.1))) m.2 room.constraints kept
          (and_right (not (eqb v m.0)) (some (spreads v m.0) room.constraints) m.1))

  -- those who rest count there no less with the move running
  rest_under : (k n : ℕ) → k + n ≤ length room.vms → Under d (all_running (cells_from places [] k n)) (cells_from (target_of room) [] k n)
  unfolding d cells_from all_running phase_of begun counts_on
  rest_under k zero h = empty
  rest_under k (suc n) h = both (λ e. go e) (rest_under (suc k) n (omega arith))
    where
      go : eqb (place_of places k) (place_of (target_of room) v) ≡ true → eqb (place_of (target_of room) k) (place_of (target_of room) v) ≡ true
      go e =
          by_cases (ℕ_discrete k v)
          (λ x. eq-eqb (place_of (target_of room) k) (place_of (target_of room) v) (ap (place_of (target_of room)) x))
          (λ x. rw (← others k (omega arith) x) e)

  unmet-there : meets_mate room (all_running (first_moment room places [])) v d ≡ false
  unfolding first_moment
  unmet-there =
      is_false (meets_mate room (all_running (first_moment room places [])) v d)
      (λ e. false≢true (sym unmet-target ∙ meets_under room v (rest_under 0 (length room.vms) (omega arith)) e))

  -- whoever comes before it is another VM, and so on its target
  held_one : (k : Constraint) → holds_back room places v k ≡ true → (first : ℕ) × (puts first v k ≡ true) × (at_target room places first ≡ false)
  unfolding holds_back puts
  held_one (ban vms nodes) e = absurd (false≢true e)
  held_one (fence vms nodes) e = absurd (false≢true e)
  held_one (spread vms) e = absurd (false≢true e)
  held_one (latency vms groups) e = absurd (false≢true e)
  held_one (before first second) e =
      (first, and_both (eq-eqb first first refl) (and_left (eqb second v) _ e), not-true (at_target room places first) (and_right (eqb second v) _ e))

  held_by : (ks : List Constraint) → some (holds_back room places v) ks ≡ true → (first : ℕ) × (some (puts first v) ks ≡ true) × (at_target room places first ≡ false)
  unfolding some
  held_by [] e = absurd (false≢true e)
  held_by (k ∷ ks) e = go (holds_back room places v k) refl e (held_by ks)
    where
      go : (b : Bool) → holds_back room places v k ≡ b → (b || some (holds_back room places v) ks) ≡ true →
          (some (holds_back room places v) ks ≡ true → (first : ℕ) × (some (puts first v) ks ≡ true) × (at_target room places first ≡ false)) →
          (first : ℕ) × ((puts first v k || some (puts first v) ks) ≡ true) × (at_target room places first ≡ false)
      go true q e more = let w = held_one k q in (w.0, rw w.1, w.2)
      go false q e more = let w = more e in (w.0, rw w.1 (or-true (puts w.0 v k)), w.2)

  free : held_back room places v ≡ false
  unfolding held_back waits_for
  free = is_false (some (holds_back room places v) room.constraints) (λ e. let h = held_by room.constraints e in
      let k = firsts h.0 h.1 in
      false≢true (sym h.2 ∙ eq-eqb (place_of places h.0) (place_of (target_of room) h.0) (others h.0 k.0 k.1)))

  pub last_goes : can_go room places v ≡ true
  unfolding can_go joins d
  last_goes =
      and_both out (alone room places v (place_of (target_of room) v) ∙
      and_both (and_both (lt-ltb v (length room.vms) t) (and_both aimed (ap not (ne_eqb (place_of (target_of room) v) (place_of places v) off))))
      (and_both allows (and_both fits-there (and_both (ap not unmet-there) (lone-turn room places v (place_of (target_of room) v) out ∙ ap not free)))))

-- a VM can be sent to its target
aims-target : (room : Room) (v : ℕ) → IsSound room → v < length room.vms → aims room v (place_of (target_of room) v) ≡ true
unfolding aims
aims-target room v w h =
    let e = target_at room v in
    ⊎_elim (λ x. rw (lt-ltb (place_of (target_of room) v) (length room.nodes) (rw e x)))
    (λ x. rw (eq-eqb (place_of (target_of room) v) nowhere (e ∙ x)) (or-true (ltb (place_of (target_of room) v) (length room.nodes))))
    (place-either (length room.nodes) (vm_of room v).target (w.targets v h))

-- of a room and a target without fault 8 or 9, at any placement: if VM v is out of place and nobody else is, it can go. There is room for it
-- where it is wanted, since the others are there for good and the target fits (8); no ban, fence or mate keeps it away, since the target keeps the
-- constraints (9); and whoever it waits for is on its target, since that is another VM (7) and only v is not. So the planner never blocks, nor
-- pivots, with one VM out of place, and the bound on its steps is what it is without VMs that wait
pub last_one : (room : Room) (places : Placement) (v : ℕ) → IsSound room → target_check room ≡ Ok tt → v < length room.vms →
    away room places v ≡ true → ((u : ℕ) → u < length room.vms → (u ≡ v → ⊥) → away room places u ≡ false) →
    can_go room places v ≡ true
unfolding target_check away
last_one room places v w good h out others =
    let g = good-target (fits_all room (target_of room)) (all (keeps (target_of room)) room.constraints) good in
    last_goes room places v h g.0 g.1 (aims-target room v w h) out
    (λ u k n. eqb-true (place_of places u) (place_of (target_of room) u) (not-false (at_target room places u) (others u k n)))
    (λ first p. (first-there room w first v p, first-other room w first v p))
