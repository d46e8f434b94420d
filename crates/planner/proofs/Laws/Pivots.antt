-- Laws on pivots: the step that is picked; and, where no direct move is sound, that a pivot of a VM helps at every node that it may go to, or at none
-- of them.
use Prim.Native.Nat.{ℕ, zero, suc, ◌+◌, ◌≤◌, ◌<◌}
use mathlib.Core.Bool.{Bool, true, false, cond, not, ◌&&◌, ◌||◌, or-true, and-true, and-false, false≢true}
use mathlib.Core.List.{List, [], ◌∷◌}
use mathlib.Core.Logic.{◌⊎◌, inl, inr, ⊎_elim, by_cases}
use mathlib.Core.Path.{◌≡◌, refl, sym, ap, ◌∙◌}
use native.Mathlib.Decide.{ℕ_discrete}
use native.Mathlib.Omega.{arith}
use lib.ListN.{length, set}
use lib.Seq.{get_or-set_same, get_or-set_other}
use lib.Dec.{ltb, eqb}
use borrow.Author.Tests.{ltb-true, lt-ltb, eqb-true, eqb-false, eq-eqb, not-true}
use Rattle.std.specs.Prelude.{Option, Some, None, find}
use Rattle.records.specs.Base.{pick, all}
use Rattle.records.specs.Room.{Room, vm_of, nowhere, on_node}
use Rattle.records.specs.Plan.{Step}
use Rattle.records.specs.declared.plan.Move.{Move}
use Rattle.records.proofs.Laws.Bools.{and_left, and_right, and_both, bool_iff, all_head, all_tail}
use Rattle.rules.specs.Moments.{Placement, place_of, target_of, at_target, after, bears_at, with_vm, staying, cell, Moment, counts_on, tally_at, phase_of, cells_from, first_moment, begun, all_running}
use Rattle.rules.specs.Orders.{some, meets_mate}
use Rattle.rules.specs.Rules.{from, aims, sound_step}
use Rattle.rules.proofs.Laws.Meet.{is_false}
use Rattle.rules.specs.declared.tally.Tally.{Tally}
use Rattle.rules.proofs.Laws.Orders.{never, Under, empty, both, meets_under, bears-under}
use Rattle.rules.proofs.Laws.Turn.{turn-homes}
use Rattle.rules.proofs.Laws.Adding.{joins, Joins, joins-tests, alone, empty-sound}
use Rattle.planner.specs.Picks.{vms_in, nodes_in, away, moving, can_go, other_goes, useful, or_else, pivot_among, pivot_first, pivot_step}
use Rattle.planner.specs.Inner.{aside, pivot_node, comer, comes_to, useful_node}

-- ---- small words

some_more : {A : Type 0} (p q : A → Bool) → ((x : A) → p x ≡ true → q x ≡ true) → (xs : List A) → some p xs ≡ true → some q xs ≡ true
unfolding some
some_more p q h [] e = e
some_more p q h (x ∷ xs) e = either (p x) (q x) (h x) (some_more p q h xs) e
  where
    either : (a b : Bool) {s t : Bool} → (a ≡ true → b ≡ true) → (s ≡ true → t ≡ true) → (a || s) ≡ true → (b || t) ≡ true
    either true b g r e = rw (g refl)
    either false b g r e = rw (r e) (or-true b)

-- a test of all numbers of a range
pub from_at : (p : ℕ → Bool) (k n v : ℕ) → all p (from k n) ≡ true → k ≤ v → v < k + n → p v ≡ true
unfolding from
from_at p k zero v a l h = absurd (omega arith)
from_at p k (suc n) v a l h =
    by_cases (ℕ_discrete k v) (λ e. rw (← e) (all_head p k (from (suc k) n) a)) (λ e. from_at p (suc k) n v (all_tail p k (from (suc k) n) a) (omega arith) (omega arith))

from-below : (m k n : ℕ) → k + n ≤ m → all (λ d. ltb d m) (from k n) ≡ true
unfolding from all
from-below m k zero h = refl
from-below m k (suc n) h = let l : k < m = omega arith in and_both (lt-ltb k m l) (from-below m (suc k) n (omega arith))

pub nodes-below : (room : Room) → all (λ d. ltb d (length room.nodes)) (nodes_in room) ≡ true
nodes-below room = from-below (length room.nodes) 0 (length room.nodes) (omega arith)

-- ---- one pivot

module _ (room : Room) (places : Placement) (v d : ℕ) where
  -- what a sound move passes
  sound-alone : sound_step room places (moving v d ∷ []) ≡ true → Joins room places [] v d
  sound-alone s = joins-tests room places [] v d (sym (alone room places v d) ∙ s)

  -- a sound move that is not to the target is to a node
  aside-node : not (eqb d (place_of (target_of room) v)) ≡ true → sound_step room places (moving v d ∷ []) ≡ true → ltb d (length room.nodes) ≡ true
  unfolding aims
  aside-node t s = go (ltb d (length room.nodes)) (sound-alone s).aimed
    where
      go : (b : Bool) → (b || (eqb d nowhere && eqb (place_of (target_of room) v) nowhere)) ≡ true → b ≡ true
      go true e = refl
      go false e =
          let x = eqb-true d nowhere (and_left (eqb d nowhere) (eqb (place_of (target_of room) v) nowhere) e) in
          let y = eqb-true (place_of (target_of room) v) nowhere (and_right (eqb d nowhere) (eqb (place_of (target_of room) v) nowhere) e) in
          absurd (eqb-false d (place_of (target_of room) v) (not-true (eqb d (place_of (target_of room) v)) t) (x ∙ sym y))

  -- useful by four tests: that d is a node, and not v's place, is part of being sound
  useful-is : useful room places v d ≡ ((away room places v && on_node (place_of places v)) && (aside room places v d && other_goes room (after places (moving v d ∷ [])) v))
  unfolding useful aside
  useful-is =
      ordered (away room places v && on_node (place_of places v)) (ltb d (length room.nodes)) (not (eqb d (place_of places v))) (not (eqb d (place_of (target_of room) v)))
      (sound_step room places (moving v d ∷ [])) (other_goes room (after places (moving v d ∷ [])) v) (λ s. (sound-alone s).off) aside-node
    where
      ordered : (a n o t s g : Bool) → (s ≡ true → o ≡ true) → (t ≡ true → s ≡ true → n ≡ true) → ((a && (n && (o && t))) && (s && g)) ≡ (a && ((t && s) && g))
      ordered false n o t s g h k = refl
      ordered true true true true s g h k = refl
      ordered true true true false s g h k = refl
      ordered true true false t true g h k = absurd (false≢true (h refl))
      ordered true true false true false g h k = refl
      ordered true true false false false g h k = refl
      ordered true false o true true g h k = absurd (false≢true (k refl refl))
      ordered true false o true false g h k = refl
      ordered true false o false s g h k = refl

  pub useful-node : useful room places v d ≡ true → d < length room.nodes
  unfolding useful
  useful-node u =
      ltb-true d (length room.nodes) (and_left (ltb d (length room.nodes)) _ (and_right (away room places v && on_node (place_of places v)) _
      (and_left ((away room places v && on_node (place_of places v)) && (ltb d (length room.nodes) && (not (eqb d (place_of places v)) && not (eqb d (place_of (target_of room) v))))) _ u)))

  pub useful-sound : useful room places v d ≡ true → sound_step room places (moving v d ∷ []) ≡ true
  unfolding aside
  useful-sound u =
      and_right (not (eqb d (place_of (target_of room) v))) (sound_step room places (moving v d ∷ []))
      (and_left (aside room places v d) (other_goes room (after places (moving v d ∷ [])) v) (and_right (away room places v && on_node (place_of places v)) _ (sym useful-is ∙ u)))

-- a step is one useful pivot
pub record IsPivot (room : Room) (places : Placement) (move : Move) (moves : Step) : Type 0 where
  pub only : moves ≡ []
  pub helps : useful room places move.vm move.to ≡ true
  pub there : move.vm < length room.vms
  pub unnamed : move ≡ moving move.vm move.to

-- ---- the pivots of one VM

-- the step of a VM's pivot, if it has one
abbrev pub lone : ℕ → Option ℕ → Step
lone v None = []
lone v (Some d) = moving v d ∷ []

module _ (room : Room) (places : Placement) (v : ℕ) where
  -- the step of the first useful pivot, by its node
  pub among-is : (ds : List ℕ) → pivot_among room places v ds ≡ lone v (useful_node room places v ds)
  unfolding pivot_among useful_node
  among-is [] = refl
  among-is (d ∷ ds) = go (useful room places v d) (pivot_among room places v ds) (find (useful room places v) ds) (among-is ds)
    where
      go : (b : Bool) (step : Step) (e : Option ℕ) → step ≡ lone v e → pick b (moving v d ∷ []) step ≡ lone v (cond b (Some d) e)
      go true step e i = refl
      go false step e i = i

  pub pivot-among : pivot_among room places v (nodes_in room) ≡ lone v (useful_node room places v (nodes_in room))
  pivot-among = among-is (nodes_in room)

  -- a step that is picked is one useful pivot
  among-moves : (ds : List ℕ) (move : Move) (moves : Step) → pivot_among room places v ds ≡ move ∷ moves → IsPivot room places move moves
  unfolding pivot_among
  among-moves [] move moves e = never (cc)
  among-moves (d ∷ ds) move moves e = go (useful room places v d) refl e (among-moves ds move moves)
    where
      go : (b : Bool) → useful room places v d ≡ b → pick b (moving v d ∷ []) (pivot_among room places v ds) ≡ move ∷ moves →
          (pivot_among room places v ds ≡ move ∷ moves → IsPivot room places move moves) → IsPivot room places move moves
      go true u e later =
          let m : move ≡ moving v d = cc in
          record { only = cc; helps = rw m u; there = rw m (sound-alone room places v d (useful-sound room places v d u)).vm-there; unnamed = rw m refl }
      go false u e later = later e

  -- nothing is picked exactly if no pivot is useful
  among_none : (ds : List ℕ) → pivot_among room places v ds ≡ [] → all (λ d. not (useful room places v d)) ds ≡ true
  unfolding pivot_among all
  among_none [] e = refl
  among_none (d ∷ ds) e = go (useful room places v d) e (among_none ds)
    where
      go : (b : Bool) → pick b (moving v d ∷ []) (pivot_among room places v ds) ≡ [] →
          (pivot_among room places v ds ≡ [] → all (λ d. not (useful room places v d)) ds ≡ true) → (not b && all (λ d. not (useful room places v d)) ds) ≡ true
      go true e later = never (cc)
      go false e later = later e

  none-among : ((d : ℕ) → useful room places v d ≡ false) → (ds : List ℕ) → pivot_among room places v ds ≡ []
  unfolding pivot_among
  none-among n [] = refl
  none-among n (d ∷ ds) = rw (n d) (none-among n ds)

-- ---- the pivot of a room

module _ (room : Room) (places : Placement) where
  first-moves : (vs : List ℕ) (move : Move) (moves : Step) → pivot_first room places vs ≡ move ∷ moves → IsPivot room places move moves
  unfolding pivot_first or_else
  first-moves [] move moves e = never (cc)
  first-moves (v ∷ vs) move moves e =
      ⊎_elim (among-moves room places v (nodes_in room) move moves) (first-moves vs move moves)
      (either (pivot_among room places v (nodes_in room)) (pivot_first room places vs) e)
    where
      either : (one two : Step) → or_else one two ≡ move ∷ moves → (one ≡ move ∷ moves) ⊎ (two ≡ move ∷ moves)
      either [] two e = inr e
      either (m ∷ ms) two e = inl e

  pub pivot-is : (move : Move) (moves : Step) → pivot_step room places ≡ move ∷ moves → IsPivot room places move moves
  unfolding pivot_step
  pivot-is move moves e = first-moves (vms_in room) move moves e

  pub pivot-sound : sound_step room places (pivot_step room places) ≡ true
  pivot-sound = go (pivot_step room places) refl
    where
      go : (step : Step) → pivot_step room places ≡ step → sound_step room places step ≡ true
      go [] e = empty-sound room places
      go (move ∷ moves) e =
          let p = pivot-is move moves e in
          rw p.only (ap (λ (m : Move). sound_step room places (m ∷ [])) p.unnamed ∙ useful-sound room places move.vm move.to p.helps)

  -- no pivot is picked exactly if none is useful
  first-none : (vs : List ℕ) → pivot_first room places vs ≡ [] → all (λ v. all (λ d. not (useful room places v d)) (nodes_in room)) vs ≡ true
  unfolding pivot_first or_else all
  first-none [] e = refl
  first-none (v ∷ vs) e =
      let n = neither (pivot_among room places v (nodes_in room)) (pivot_first room places vs) e in
      and_both (among_none room places v (nodes_in room) n.0) (first-none vs n.1)
    where
      neither : (one two : Step) → or_else one two ≡ [] → (one ≡ []) × (two ≡ [])
      neither [] two e = (refl, e)
      neither (m ∷ ms) two e = never (cc)

  pub pivot-none : pivot_step room places ≡ [] → (v d : ℕ) → v < length room.vms → d < length room.nodes → useful room places v d ≡ false
  unfolding pivot_step
  pivot-none e v d h l =
      not-true (useful room places v d)
      (from_at (λ d. not (useful room places v d)) 0 (length room.nodes) d
      (from_at (λ v. all (λ d. not (useful room places v d)) (nodes_in room)) 0 (length room.vms) v (first-none (vms_in room) e) (omega arith) (omega arith)) (omega arith) (omega arith))

  pub no-pivot : pivot_step room places ≡ [] → (v d : ℕ) → useful room places v d ≡ false
  no-pivot e v d =
      is_false (useful room places v d)
      (λ u. let j = sound-alone room places v d (useful-sound room places v d u) in false≢true (sym (pivot-none e v d j.vm-there (useful-node room places v d u)) ∙ u))

  pub none-pivot : ((v d : ℕ) → useful room places v d ≡ false) → pivot_step room places ≡ []
  unfolding pivot_step pivot_first or_else
  none-pivot n = go (vms_in room)
    where
      go : (vs : List ℕ) → pivot_first room places vs ≡ []
      go [] = refl
      go (v ∷ vs) = rw (none-among room places v (n v) (nodes_in room)) (go vs)

-- ---- a move at a placement where its destination holds less

-- what is on node d in the one placement is there in the other
abbrev Stays : ℕ → Placement → Placement → Type 0
Stays d p q = (w : ℕ) → place_of p w ≡ d → place_of q w ≡ d

rest_under : (d : ℕ) (p q : Placement) → Stays d p q → (k n : ℕ) → Under d (all_running (cells_from p [] k n)) (all_running (cells_from q [] k n))
unfolding cells_from all_running phase_of begun counts_on
rest_under d p q s k zero = empty
rest_under d p q s k (suc n) = both (λ e. eq-eqb (place_of q k) d (s k (eqb-true (place_of p k) d e))) (rest_under d p q s (suc k) n)

-- a tally with one VM more is the tally with that VM at rest there
with-one : (room : Room) (d v : ℕ) (cs : Moment) → tally_at room d (cell v d staying ∷ cs) ≡ with_vm (tally_at room d cs) (vm_of room v)
unfolding tally_at counts_on
with-one room d v cs = rw (eq-eqb d d refl)

fit-under : {d : ℕ} {cs bs : Moment} (room : Room) (v : ℕ) → Under d cs bs →
    bears_at room d (with_vm (tally_at room d bs) (vm_of room v)) (vm_of room v) ≡ true → bears_at room d (with_vm (tally_at room d cs) (vm_of room v)) (vm_of room v) ≡ true
fit-under {d} {cs} {bs} room v u e =
    rw (← with-one room d v cs)
    (bears-under room (vm_of room v) (both {v = v} {p = d} {q = d} {x = staying} {y = staying} (λ h. h) u) (ap (λ (x : Tally). bears_at room d x (vm_of room v)) (with-one room d v bs) ∙ e))

-- whoever is on its target in the one placement is so in the other
abbrev Homes : Room → Placement → Placement → Type 0
Homes room p q = (w : ℕ) → at_target room p w ≡ true → at_target room q w ≡ true

module _ (room : Room) (p q : Placement) (u : ℕ) (same : place_of p u ≡ place_of q u) (homes : Homes room p q) where
  -- a sound move of u at p is sound at q, if q has no VM more on its destination, and none less on its target
  joins-too : (d : ℕ) → Stays d q p → joins room p [] u d ≡ true → joins room q [] u d ≡ true
  unfolding joins first_moment
  joins-too d s e =
      let j = joins-tests room p [] u d e in
      let under = rest_under d q p s 0 (length room.vms) in
      and_both (and_both (lt-ltb u (length room.vms) j.vm-there) (and_both j.aimed (rw (← same) j.off)))
      (and_both j.allows (and_both (fit-under room u under j.fit)
      (and_both (ap not (is_false (meets_mate room (all_running (first_moment room q [])) u d) (λ m. false≢true (sym j.apart ∙ meets_under room u under m))))
      (turn-homes room p q (moving u d ∷ []) homes j.turn))))

  goes-too : Stays (place_of (target_of room) u) q p → can_go room p u ≡ true → can_go room q u ≡ true
  unfolding can_go away
  goes-too s e =
      let d = place_of (target_of room) u in
      and_both (rw same at (and_left (not (eqb (place_of p u) d)) (sound_step room p (moving u d ∷ [])) e))
      (alone room q u d ∙ joins-too d s (sym (alone room p u d) ∙ and_right (not (eqb (place_of p u) d)) (sound_step room p (moving u d ∷ [])) e))

-- ---- where no direct move is sound, a pivot of v helps at every node that it may go to, or at none of them

module _ (room : Room) (places : Placement) (v : ℕ) where
  -- the placement that a pivot leaves
  abbrev moved : ℕ → Placement
  moved d = after places (moving v d ∷ [])

  -- another VM can go, and one to the node that v has left
  abbrev other : Placement → ℕ → Bool
  other p u = not (eqb u v) && can_go room p u

  abbrev coming : Placement → ℕ → Bool
  coming p u = eqb (place_of (target_of room) u) (place_of places v) && other p u

  is-other : (p : Placement) (u : ℕ) → other p u ≡ true → u ≡ v → ⊥
  is-other p u e = eqb-false u v (not-true (eqb u v) (and_left (not (eqb u v)) (can_go room p u) e))

  -- every VM but v is where it was
  unmoved : (d u : ℕ) → (u ≡ v → ⊥) → place_of (moved d) u ≡ place_of places u
  unfolding after
  unmoved d u h = get_or-set_other places v u d 0 h

  -- a pivot does not bring v to its target
  abbrev pub Aside : ℕ → Type 0
  Aside d = place_of (moved d) v ≡ place_of (target_of room) v → ⊥

  -- so nobody is on its target behind it who was not before, or would not be behind another
  homes-kept : (d : ℕ) → Aside d → (q : Placement) → ((u : ℕ) → (u ≡ v → ⊥) → place_of q u ≡ place_of places u) → Homes room (moved d) q
  homes-kept d off q same w e =
      let at = eqb-true (place_of (moved d) w) (place_of (target_of room) w) e in
      let h : w ≡ v → ⊥ = λ x. off (ap (place_of (moved d)) (sym x) ∙ at ∙ ap (place_of (target_of room)) x) in
      eq-eqb (place_of q w) (place_of (target_of room) w) (same w h ∙ sym (unmoved d w h) ∙ at)

  module _ (none : (u : ℕ) → can_go room places u ≡ false) where
    -- a VM that can go goes to the node that v has left
    target_left : (d : ℕ) → Aside d → (u : ℕ) → (u ≡ v → ⊥) → can_go room (moved d) u ≡ true → place_of (target_of room) u ≡ place_of places v
    target_left d off u h g =
        by_cases (ℕ_discrete (place_of (target_of room) u) (place_of places v)) (λ e. e)
        (λ n. absurd (false≢true (sym (none u) ∙ goes-too room (moved d) places u (unmoved d u h) (homes-kept d off places (λ w x. refl))
        (λ w e. by_cases (ℕ_discrete w v) (λ x. absurd (n (sym e ∙ ap (place_of places) x))) (λ x. unmoved d w x ∙ e)) g)))

    pub comes-is : (d : ℕ) → Aside d → other_goes room (after places (moving v d ∷ [])) v ≡ comes_to room (after places (moving v d ∷ [])) v (place_of places v) (vms_in room)
    unfolding other_goes comes_to comer
    comes-is d off =
        bool_iff (some (other (moved d)) (vms_in room)) (some (coming (moved d)) (vms_in room))
        (some_more (other (moved d)) (coming (moved d))
        (λ u e. and_both (eq-eqb (place_of (target_of room) u) (place_of places v) (target_left d off u (is-other (moved d) u e) (and_right (not (eqb u v)) (can_go room (moved d) u) e))) e) (vms_in room))
        (some_more (coming (moved d)) (other (moved d)) (λ u e. and_right (eqb (place_of (target_of room) u) (place_of places v)) (other (moved d) u) e) (vms_in room))

  -- the node left holds the same whichever node v has gone to
  module _ (len : length places ≡ length room.vms) where
    left-same : (d e : ℕ) → sound_step room places (moving v e ∷ []) ≡ true → Stays (place_of places v) (moved e) (moved d)
    unfolding after
    left-same d e s w h =
        let j = sound-alone room places v e s in
        by_cases (ℕ_discrete w v)
        (λ x. absurd (eqb-false e (place_of places v) (not-true (eqb e (place_of places v)) j.off)
        (sym (get_or-set_same places v e 0 (rw len j.vm-there)) ∙ ap (place_of (set places v e)) (sym x) ∙ h)))
        (λ x. unmoved d w x ∙ sym (unmoved e w x) ∙ h)

    comes-too : (d e : ℕ) → Aside d → sound_step room places (moving v e ∷ []) ≡ true →
        comes_to room (moved d) v (place_of places v) (vms_in room) ≡ true → comes_to room (moved e) v (place_of places v) (vms_in room) ≡ true
    unfolding comes_to comer
    comes-too d e off s =
        some_more (coming (moved d)) (coming (moved e))
        (λ u c. let at = and_left (eqb (place_of (target_of room) u) (place_of places v)) (other (moved d) u) c in
        let o = and_right (eqb (place_of (target_of room) u) (place_of places v)) (other (moved d) u) c in
        let h = is-other (moved d) u o in
        and_both at (and_both (and_left (not (eqb u v)) (can_go room (moved d) u) o)
        (goes-too room (moved d) (moved e) u (unmoved d u h ∙ sym (unmoved e u h)) (homes-kept d off (moved e) (unmoved e)) (rw (eqb-true (place_of (target_of room) u) (place_of places v) at) (left-same d e s))
        (and_right (not (eqb u v)) (can_go room (moved d) u) o)))) (vms_in room)

    pub same-help : ((u : ℕ) → can_go room places u ≡ false) → (d e : ℕ) → Aside d → Aside e → sound_step room places (moving v d ∷ []) ≡ true → sound_step room places (moving v e ∷ []) ≡ true →
        other_goes room (after places (moving v d ∷ [])) v ≡ other_goes room (after places (moving v e ∷ [])) v
    same-help none d e x y s r =
        comes-is none d x ∙
        bool_iff (comes_to room (moved d) v (place_of places v) (vms_in room)) (comes_to room (moved e) v (place_of places v) (vms_in room)) (comes-too d e x r) (comes-too e d y s) ∙
        sym (comes-is none e y)

-- ---- the node of the first useful pivot

module _ (room : Room) (places : Placement) (v : ℕ) where
  -- what the node found has passed
  node-passed : (p : ℕ → Bool) (d : ℕ) (ds : List ℕ) → all (λ e. ltb e (length room.nodes)) ds ≡ true → find p ds ≡ Some d → (p d ≡ true) × (d < length room.nodes)
  node-passed p d [] b e = never (cc)
  node-passed p d (x ∷ xs) b e = go (p x) refl e (node-passed p d xs (all_tail _ x xs b))
    where
      go : (t : Bool) → p x ≡ t → cond t (Some x) (find p xs) ≡ Some d → (find p xs ≡ Some d → (p d ≡ true) × (d < length room.nodes)) → (p d ≡ true) × (d < length room.nodes)
      go true q e later = let m : x ≡ d = cc in (rw m at q, rw m at (ltb-true x (length room.nodes) (all_head _ x xs b)))
      go false q e later = later e

  pub useful-node-there : (d : ℕ) → useful_node room places v (nodes_in room) ≡ Some d → d < length room.nodes
  unfolding useful_node
  useful-node-there d e = (node-passed (useful room places v) d (nodes_in room) (nodes-below room) e).1

  module _ (d : ℕ) (at : pivot_node room places v (nodes_in room) ≡ Some d) where
    node-is : (aside room places v d ≡ true) × (d < length room.nodes)
    unfolding pivot_node
    node-is = node-passed (aside room places v) d (nodes_in room) (nodes-below room) at

    pub pivot-node-there : d < length room.nodes
    pivot-node-there = node-is.1

    pub pivot-node-off : d ≡ place_of (target_of room) v → ⊥
    unfolding aside
    pivot-node-off =
        eqb-false d (place_of (target_of room) v) (not-true (eqb d (place_of (target_of room) v)) (and_left (not (eqb d (place_of (target_of room) v))) _ node-is.0))

  -- it is the first useful one if every such node is useful
  first-aside : ((d : ℕ) → useful room places v d ≡ aside room places v d) → (ds : List ℕ) → find (aside room places v) ds ≡ find (useful room places v) ds
  first-aside n [] = refl
  first-aside n (d ∷ ds) = rw (n d) (ap (cond (aside room places v d) (Some d)) (first-aside n ds))

  -- without such a node none is useful
  none-aside : (ds : List ℕ) → find (aside room places v) ds ≡ None → find (useful room places v) ds ≡ None
  none-aside [] h = refl
  none-aside (d ∷ ds) h = go (aside room places v d) refl h (none-aside ds)
    where
      go : (t : Bool) → aside room places v d ≡ t → cond t (Some d) (find (aside room places v) ds) ≡ None → (find (aside room places v) ds ≡ None → find (useful room places v) ds ≡ None) →
          cond (useful room places v d) (Some d) (find (useful room places v) ds) ≡ None
      go true e h later = never (cc)
      go false e h later = rw (useful-is room places v d, e, and-false (away room places v && on_node (place_of places v))) (later h)

  useful-none : ((d : ℕ) → useful room places v d ≡ false) → (ds : List ℕ) → find (useful room places v) ds ≡ None
  useful-none n [] = refl
  useful-none n (d ∷ ds) = rw (n d) (useful-none n ds)

  pub useful-home : away room places v ≡ false → None ≡ useful_node room places v (nodes_in room)
  unfolding useful_node
  useful-home a = sym (useful-none (λ d. useful-is room places v d ∙ rw a) (nodes_in room))

  pub useful-down : on_node (place_of places v) ≡ false → None ≡ useful_node room places v (nodes_in room)
  unfolding useful_node
  useful-down o = sym (useful-none (λ d. useful-is room places v d ∙ rw (o, and-false (away room places v))) (nodes_in room))

  pub useful-nobody : pivot_node room places v (nodes_in room) ≡ None → None ≡ useful_node room places v (nodes_in room)
  unfolding pivot_node useful_node
  useful-nobody e = sym (none-aside (nodes_in room) e)

  module _ (len : length places ≡ length room.vms) (none : (u : ℕ) → can_go room places u ≡ false) (d : ℕ) (then : Placement) (ok : Bool)
      (at : pivot_node room places v (nodes_in room) ≡ Some d) (m : then ≡ set places v d) (c : ok ≡ comes_to room then v (place_of places v) (vms_in room))
      (a : away room places v ≡ true) (o : on_node (place_of places v) ≡ true) where
    -- a move aside does not bring v to its target
    pub aside-off : (e : ℕ) → aside room places v e ≡ true → Aside room places v e
    unfolding after aside
    aside-off e s q =
        let j = sound-alone room places v e (and_right (not (eqb e (place_of (target_of room) v))) _ s) in
        eqb-false e (place_of (target_of room) v) (not-true (eqb e (place_of (target_of room) v)) (and_left (not (eqb e (place_of (target_of room) v))) _ s))
        (sym (get_or-set_same places v e 0 (rw len j.vm-there)) ∙ q)

    -- the pivot to the node found tells of the others
    helps-as : (e : ℕ) → aside room places v e ≡ true → other_goes room (after places (moving v e ∷ [])) v ≡ ok
    unfolding after aside
    helps-as e s =
        let there = (node-is d at).0 in
        same-help room places v len none e d (aside-off e s) (aside-off d there) (and_right (not (eqb e (place_of (target_of room) v))) _ s) (and_right (not (eqb d (place_of (target_of room) v))) _ there) ∙
        comes-is room places v none d (aside-off d there) ∙
        ap (λ (p : Placement). comes_to room p v (place_of places v) (vms_in room)) (sym m) ∙ sym c

    useful-as : (e : ℕ) → useful room places v e ≡ (aside room places v e && ok)
    unfolding aside
    useful-as e =
        useful-is room places v e ∙ rw (a, o) (given (aside room places v e) (other_goes room (after places (moving v e ∷ [])) v)
        (λ s. helps-as e s))
      where
        given : (b g : Bool) → (b ≡ true → g ≡ ok) → (b && g) ≡ (b && ok)
        given true g e = e refl
        given false g e = refl

    pub useful-found : ok ≡ true → Some d ≡ useful_node room places v (nodes_in room)
    unfolding pivot_node useful_node
    useful-found x = sym at ∙ first-aside (λ e. useful-as e ∙ rw x (and-true (aside room places v e))) (nodes_in room)

    pub useful-not : ok ≡ false → None ≡ useful_node room places v (nodes_in room)
    unfolding useful_node
    useful-not x = sym (useful-none (λ e. useful-as e ∙ rw x (and-false (aside room places v e))) (nodes_in room))
