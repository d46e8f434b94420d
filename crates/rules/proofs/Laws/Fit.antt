-- Laws on refusal 17: the pass over the moves, and the sums as the tallies of the moment when every move runs.
use Prim.Native.Nat.{ℕ, zero, suc, ◌+◌, ◌≤◌, ◌<◌}
use mathlib.Core.Bool.{Bool, true, false, not, ◌&&◌, ◌||◌}
use mathlib.Core.List.{List, [], ◌∷◌}
use mathlib.Core.Logic.{◌⊎◌, inl, inr, ⊎_elim, by_cases}
use mathlib.Core.Path.{◌≡◌, refl, sym, ap, ap₂, subst, ◌∙◌}
use native.Mathlib.Decide.{ℕ_discrete}
use native.Mathlib.Omega.{arith}
use lib.ListN.{length, get_or, set, length-set, length-replicate, get_or-replicate}
use lib.Seq.{get_or-take, get_or-set_same, get_or-set_other}
use lib.Dec.{ltb, leb, eqb}
use borrow.Author.Tests.{ltb-true, leb-true, leb-false, eq-eqb, ne_eqb, eqb-false, not-true}
use Rattle.std.specs.List.{list_all}
use Rattle.records.specs.Base.{all}
use Rattle.records.specs.Room.{Room, vm_of, node_of, nowhere, on_node, place_ok, IsSound}
use Rattle.records.specs.Plan.{Move, Step, move_of}
use Rattle.records.proofs.Laws.Bools.{and_left, and_right, and_both}
use Rattle.records.proofs.Laws.Rows.{node-on, place-either, not-between, place-more}
use Rattle.rules.specs.Moments.{Placement, Moment, place_of, target_of, waiting, empty_tally, bears, bears_at, tally_at, phase_of, cells_from, first_moment, begun, all_running}
use Rattle.rules.specs.Rules.{aims, named, allowed, permitted, fitting, has_move}
use Rattle.rules.specs.Orders.{some}
use Rattle.rules.specs.Inner.{held, dests_from, no_move, goal_in, busy_from, Ready, Loads, Aimed, Allows, fits_running}
use Rattle.rules.specs.declared.tally.Tally.{Tally}

-- ---- the pass over the moves of a step

module _ (room : Room) (move : Move) (moves : Step) (a : Aimed room (move ∷ moves)) where
  pub aimed_vm : move.vm < length room.vms
  unfolding move_of
  aimed_vm = a.vms 0 (omega arith)

  pub aimed-place : place_ok true (length room.nodes) move.to ≡ true
  unfolding move_of
  aimed-place = a.each 0 (omega arith)

  pub aimed_rest : Aimed room moves
  unfolding move_of
  aimed_rest = record { vms = λ i h. a.vms (suc i) (omega arith); each = λ i h. a.each (suc i) (omega arith) }

  module _ (w : IsSound room) where
    -- to no node: it always fits, and may always go
    pub aimed_off : length room.nodes ≤ move.to → on_node move.to ≡ false
    unfolding on_node
    aimed_off h = ⊎_elim (λ x. absurd (omega arith)) (λ x. ap not (eq-eqb move.to nowhere x)) (place-either (length room.nodes) move.to aimed-place)

    pub aimed_on : move.to < length room.nodes → on_node move.to ≡ true
    aimed_on h = node-on (length room.nodes) move.to w.nodes-most h

-- a sum is the tally of its node
pub load_is : (room : Room) (places dests : List ℕ) (sums : List Tally) (d : ℕ) → Loads room places dests sums → IsSound room → d < length room.nodes →
    get_or sums d empty_tally ≡ tally_at room d (busy_from places dests 0 (length room.vms))
load_is room places dests sums d l w h = let m = w.nodes-most in l.each d (omega arith)

-- a move that its node bears leaves the rest of the step to decide
pub fits_more : (room : Room) (places dests : List ℕ) (move : Move) (moves : Step) (result ok : Bool) → fits_running room places dests (move ∷ moves) ≡ result →
    ok ≡ bears_at room move.to (tally_at room move.to (busy_from places dests 0 (length room.vms))) (vm_of room move.vm) → ok ≡ true → fits_running room places dests moves ≡ result
unfolding fits_running all
fits_more room places dests move moves result ok inv f o = simp (sym f ∙ o) at inv

-- the same of all moves, as one test of the step
module _ (room : Room) (w : IsSound room) where
  -- a move of the step
  pub aimed-at : (move : Move) (step : Step) (k : ℕ) → Aimed room step → k < length step → move ≡ get_or step k move → move.vm < length room.vms
  aimed-at move [] k a h e = absurd (omega arith)
  aimed-at move (m ∷ ms) zero a h e = subst (λ (x : Move). x.vm < length room.vms) (sym e) (aimed_vm room m ms a)
  aimed-at move (m ∷ ms) (suc k) a h e = aimed-at move ms k (aimed_rest room m ms a) (omega arith) e

  pub fits-listed : (places dests : List ℕ) (sums : List Tally) (step : Step) → Aimed room step → Loads room places dests sums →
      list_all (λ move. leb (length room.nodes) move.to || bears (node_of room move.to) (get_or sums move.to empty_tally) (vm_of room move.vm)) step ≡ fits_running room places dests step
  unfolding fits_running bears_at all
  fits-listed places dests sums [] a l = refl
  fits-listed places dests sums (m ∷ ms) a l = ap₂ (λ (x y : Bool). x && y) (one (leb (length room.nodes) m.to) refl) (fits-listed places dests sums ms (aimed_rest room m ms a) l)
    where
      one : (b : Bool) → leb (length room.nodes) m.to ≡ b → (b || bears (node_of room m.to) (get_or sums m.to empty_tally) (vm_of room m.vm)) ≡
          bears_at room m.to (tally_at room m.to (busy_from places dests 0 (length room.vms))) (vm_of room m.vm)
      one true e = rw (aimed_off room m ms a w (leb-true (length room.nodes) m.to e)) refl
      one false e =
          let h : m.to < length room.nodes = leb-false (length room.nodes) m.to e in
          rw (aimed_on room m ms a w h, load_is room places dests sums m.to l w h) refl

  pub permitted-listed : (table : List (List Bool)) (step : Step) → Aimed room step → Allows room table →
      list_all (λ move. leb (length room.nodes) move.to || get_or (get_or table move.vm []) move.to false) step ≡ permitted room step
  unfolding permitted allowed all
  permitted-listed table [] a t = refl
  permitted-listed table (m ∷ ms) a t = ap₂ (λ (x y : Bool). x && y) (one (leb (length room.nodes) m.to) refl) (permitted-listed table ms (aimed_rest room m ms a) t)
    where
      one : (b : Bool) → leb (length room.nodes) m.to ≡ b → (b || get_or (get_or table m.vm []) m.to false) ≡ allowed room m.vm m.to
      one true e = rw (aimed_off room m ms a w (leb-true (length room.nodes) m.to e)) refl
      one false e =
          let h : m.to < length room.nodes = leb-false (length room.nodes) m.to e in
          let n = w.nodes-most in
          t.each m.vm m.to (aimed_vm room m ms a) (omega arith)

-- ---- the destinations of an array are those of the step

pub dests-length : (step : Step) → length (dests_from step) ≡ 256
unfolding dests_from
dests-length [] = simp length-replicate
dests-length (move ∷ moves) = length-set (dests_from moves) move.vm move.to ∙ dests-length moves

-- each move goes to a place
far : Step → Bool
far step = all (λ move. place_ok true 64 move.to) step

goal-is : (step : Step) (v : ℕ) → v < 256 → far step ≡ true → goal_in (dests_from step) v ≡ begun (phase_of step v)
unfolding goal_in dests_from phase_of begun far all
goal-is [] v h a = rw (get_or-replicate {A = ℕ} 256 v 64 0 h)
goal-is (move ∷ moves) v h a =
    by_cases (ℕ_discrete move.vm v)
    (λ e. let l = not-between 64 move.to (omega arith) (and_left (place_ok true 64 move.to) (all (λ m. place_ok true 64 m.to) moves) a) in
    let k : v < length (dests_from moves) = rw (dests-length moves) h in
    simp (eq-eqb move.vm v e) (rw (ap (λ (u : ℕ). get_or (set (dests_from moves) u move.to) v 0) e ∙ get_or-set_same (dests_from moves) v move.to 0 k, ne_eqb move.to 64 l)))
    (λ e. simp (ne_eqb move.vm v e)
    (rw (get_or-set_other (dests_from moves) move.vm v move.to 0 (λ x. e (sym x)))
    (goal-is moves v h (and_right (place_ok true 64 move.to) (all (λ m. place_ok true 64 m.to) moves) a))))

-- a VM has a destination exactly if the step moves it
dest-moves : (step : Step) (v : ℕ) → v < 256 → far step ≡ true → eqb (get_or (dests_from step) v 0) no_move ≡ not (has_move step v)
unfolding dests_from has_move some far all
dest-moves [] v h a = rw (get_or-replicate {A = ℕ} 256 v 64 0 h)
dest-moves (move ∷ moves) v h a =
    by_cases (ℕ_discrete move.vm v)
    (λ e. let l = not-between 64 move.to (omega arith) (and_left (place_ok true 64 move.to) (all (λ m. place_ok true 64 m.to) moves) a) in
    let k : v < length (dests_from moves) = rw (dests-length moves) h in
    simp (eq-eqb move.vm v e) (rw (ap (λ (u : ℕ). get_or (set (dests_from moves) u move.to) v 0) e ∙ get_or-set_same (dests_from moves) v move.to 0 k, ne_eqb move.to 64 l)))
    (λ e. simp (ne_eqb move.vm v e)
    (rw (get_or-set_other (dests_from moves) move.vm v move.to 0 (λ x. e (sym x)))
    (dest-moves moves v h (and_right (place_ok true 64 move.to) (all (λ m. place_ok true 64 m.to) moves) a))))

dest-waits : (step : Step) (v : ℕ) → v < 256 → get_or (dests_from step) v 0 < 64 → phase_of step v ≡ waiting (get_or (dests_from step) v 0)
unfolding dests_from phase_of
dest-waits [] v h k = let e = get_or-replicate {A = ℕ} 256 v 64 0 h in absurd (omega arith)
dest-waits (move ∷ moves) v h k =
    by_cases (ℕ_discrete move.vm v)
    (λ e. let l : v < length (dests_from moves) = rw (dests-length moves) h in
    simp (eq-eqb move.vm v e) (ap waiting (sym (ap (λ (u : ℕ). get_or (set (dests_from moves) u move.to) v 0) e ∙ get_or-set_same (dests_from moves) v move.to 0 l))))
    (λ e. let o = get_or-set_other (dests_from moves) move.vm v move.to 0 (λ x. e (sym x)) in
    simp (ne_eqb move.vm v e) (rw o (dest-waits moves v h (rw o at k))))

waits-dest : (step : Step) (v d : ℕ) → v < 256 → phase_of step v ≡ waiting d → get_or (dests_from step) v 0 ≡ d
unfolding dests_from phase_of
waits-dest [] v d h p = let z : ◌≡◌ {A = ℕ} 0 1 = cc in absurd (omega arith)
waits-dest (move ∷ moves) v d h p =
    by_cases (ℕ_discrete move.vm v)
    (λ e. let l : v < length (dests_from moves) = rw (dests-length moves) h in
    let q : waiting move.to ≡ waiting d = simp (eq-eqb move.vm v e) at p in
    ap (λ (u : ℕ). get_or (set (dests_from moves) u move.to) v 0) e ∙ get_or-set_same (dests_from moves) v move.to 0 l ∙ cc)
    (λ e. get_or-set_other (dests_from moves) move.vm v move.to 0 (λ x. e (sym x)) ∙ waits-dest moves v d h (simp (ne_eqb move.vm v e) at p))

busy-is : (room : Room) (places : List ℕ) (step : Step) (v n : ℕ) → length room.vms ≤ 256 → far step ≡ true → v + n ≤ length room.vms →
    busy_from places (dests_from step) v n ≡ all_running (cells_from (held room places) step v n)
unfolding busy_from all_running cells_from held
busy-is room places step v zero m a h = refl
busy-is room places step v (suc n) m a h =
    let k : v < length room.vms = omega arith in
    let l : v < 256 = omega arith in
    rw (get_or-take (length room.vms) places v 0 k, goal-is step v l a, busy-is room places step (suc v) n m a (omega arith))

pub held_at : (room : Room) (places : List ℕ) (v : ℕ) → v < length room.vms → place_of (held room places) v ≡ get_or places v 0
unfolding held
held_at room places v h = get_or-take (length room.vms) places v 0 h

-- where a VM can be sent is a place
pub aims-place : (room : Room) (v d : ℕ) → aims room v d ≡ true → place_ok true (length room.nodes) d ≡ true
unfolding aims place_ok
aims-place room v d e = go (ltb d (length room.nodes)) e
  where
    go : (b : Bool) → (b || (eqb d nowhere && eqb (place_of (target_of room) v) nowhere)) ≡ true → (b || (true && eqb d nowhere)) ≡ true
    go true h = refl
    go false h = and_left (eqb d nowhere) (eqb (place_of (target_of room) v) nowhere) h

-- ---- what a well named step has

module _ (room : Room) (places : Placement) where
  -- its parts
  named-parts : (least : ℕ) (move : Move) (moves : Step) → named room places least (move ∷ moves) ≡ true →
      ((leb least move.vm && ltb move.vm (length room.vms)) &&
      ((aims room move.vm move.to && not (eqb move.to (place_of places move.vm))) && named room places (suc move.vm) moves)) ≡ true
  unfolding named
  named-parts least move moves e = e

  pub named-to : (least : ℕ) (move : Move) (moves : Step) → named room places least (move ∷ moves) ≡ true → place_ok true (length room.nodes) move.to ≡ true
  named-to least move moves e =
      aims-place room move.vm move.to
      (and_left (aims room move.vm move.to) (not (eqb move.to (place_of places move.vm)))
      (and_left (aims room move.vm move.to && not (eqb move.to (place_of places move.vm))) _
      (and_right (leb least move.vm && ltb move.vm (length room.vms)) _ (named-parts least move moves e))))

  named-leaves : (least : ℕ) (move : Move) (moves : Step) → named room places least (move ∷ moves) ≡ true → move.to ≡ place_of places move.vm → ⊥
  named-leaves least move moves e =
      eqb-false move.to (place_of places move.vm) (not-true (eqb move.to (place_of places move.vm))
      (and_right (aims room move.vm move.to) (not (eqb move.to (place_of places move.vm)))
      (and_left (aims room move.vm move.to && not (eqb move.to (place_of places move.vm))) _
      (and_right (leb least move.vm && ltb move.vm (length room.vms)) _ (named-parts least move moves e)))))

  pub named-vm : (least : ℕ) (move : Move) (moves : Step) → named room places least (move ∷ moves) ≡ true → move.vm < length room.vms
  named-vm least move moves e =
      ltb-true move.vm (length room.vms)
      (and_right (leb least move.vm) (ltb move.vm (length room.vms))
      (and_left (leb least move.vm && ltb move.vm (length room.vms)) _ (named-parts least move moves e)))

  pub named-rest : (least : ℕ) (move : Move) (moves : Step) → named room places least (move ∷ moves) ≡ true → named room places (suc move.vm) moves ≡ true
  named-rest least move moves e =
      and_right (aims room move.vm move.to && not (eqb move.to (place_of places move.vm))) _
      (and_right (leb least move.vm && ltb move.vm (length room.vms)) _ (named-parts least move moves e))

  named-aimed : (least : ℕ) (step : Step) → named room places least step ≡ true → (i : ℕ) → i < length step → place_ok true (length room.nodes) (move_of step i).to ≡ true
  unfolding move_of
  named-aimed least [] e i h = absurd (omega arith)
  named-aimed least (move ∷ moves) e zero h = named-to least move moves e
  named-aimed least (move ∷ moves) e (suc i) h = named-aimed (suc move.vm) moves (named-rest least move moves e) i (omega arith)

  named-vms : (least : ℕ) (step : Step) → named room places least step ≡ true → (i : ℕ) → i < length step → (move_of step i).vm < length room.vms
  unfolding move_of
  named-vms least [] e i h = absurd (omega arith)
  named-vms least (move ∷ moves) e zero h = named-vm least move moves e
  named-vms least (move ∷ moves) e (suc i) h = named-vms (suc move.vm) moves (named-rest least move moves e) i (omega arith)

  named-far : (least : ℕ) (step : Step) → length room.nodes ≤ 64 → named room places least step ≡ true → far step ≡ true
  unfolding far all
  named-far least [] m e = refl
  named-far least (move ∷ moves) m e =
      and_both (place-more (length room.nodes) 64 move.to m (named-to least move moves e)) (named-far (suc move.vm) moves m (named-rest least move moves e))

  -- no VM is sent where it is
  named-goal : (least : ℕ) (step : Step) (v : ℕ) → v < 256 → named room places least step ≡ true →
      (get_or (dests_from step) v 0 ≡ 64) ⊎ (get_or (dests_from step) v 0 ≡ place_of places v → ⊥)
  unfolding dests_from
  named-goal least [] v h e = inl (get_or-replicate {A = ℕ} 256 v 64 0 h)
  named-goal least (move ∷ moves) v h e =
      by_cases (ℕ_discrete move.vm v)
      (λ x. let k : v < length (dests_from moves) = rw (dests-length moves) h in
      let g : get_or (set (dests_from moves) move.vm move.to) v 0 ≡ move.to = ap (λ (u : ℕ). get_or (set (dests_from moves) u move.to) v 0) x ∙ get_or-set_same (dests_from moves) v move.to 0 k in
      inr (λ y. named-leaves least move moves e (sym g ∙ y ∙ ap (place_of places) (sym x))))
      (λ x. rw (get_or-set_other (dests_from moves) move.vm v move.to 0 (λ y. x (sym y))) (named-goal (suc move.vm) moves v h (named-rest least move moves e)))

pub first-is : (room : Room) (places : Placement) (step : Step) → first_moment room places step ≡ cells_from places step 0 (length room.vms)
unfolding first_moment
first-is room places step = refl

-- ---- together: what the code has is what the definition says

module _ (room : Room) (places : List ℕ) (step : Step) (w : IsSound room) (n : named room (held room places) 0 step ≡ true) where
  pub named-is-aimed : Aimed room step
  named-is-aimed = record { vms = named-vms room (held room places) 0 step n; each = named-aimed room (held room places) 0 step n }

  pub named-ready : Ready room places (dests_from step)
  named-ready = record { leaves = λ v h b l x. ⊎_elim (λ y. omega arith) (λ y. y (x ∙ sym (held_at room places v h))) (named-goal room (held room places) 0 step v b n) }

  far-step : far step ≡ true
  far-step = named-far room (held room places) 0 step w.nodes-most n

  pub moves-at : (v : ℕ) → v < 256 → eqb (get_or (dests_from step) v 0) no_move ≡ not (has_move step v)
  moves-at v h = dest-moves step v h far-step

  -- the moment when every move runs, from the two arrays
  pub running-is : busy_from places (dests_from step) 0 (length room.vms) ≡ all_running (first_moment room (held room places) step)
  running-is = busy-is room places step 0 (length room.vms) w.vms-most far-step (omega arith) ∙ ap all_running (sym (first-is room (held room places) step))

  -- a destination in the array is that of a waiting move
  pub dest-phase : (v : ℕ) → v < 256 → get_or (dests_from step) v 0 < 64 → phase_of step v ≡ waiting (get_or (dests_from step) v 0)
  dest-phase v h k = dest-waits step v h k

  pub phase-dest : (v d : ℕ) → v < 256 → phase_of step v ≡ waiting d → get_or (dests_from step) v 0 ≡ d
  phase-dest v d h e = waits-dest step v d h e

  pub fitting-is : fits_running room places (dests_from step) step ≡ fitting room (held room places) step
  unfolding fits_running fitting
  fitting-is = ap (λ (m : Moment). all (λ move. bears_at room move.to (tally_at room move.to m) (vm_of room move.vm)) step) running-is
