-- Laws on the planner's turns: each takes from a budget at least its moves, so the steps come to an end and their number is bounded.
use Prim.Native.Nat.{ℕ, zero, suc, ◌+◌, ◌-◌, ◌*◌, ◌≤◌, ◌<◌}
use mathlib.Core.Bool.{Bool, true, false, not, ◌&&◌, ◌||◌, false≢true}
use mathlib.Core.List.{List, [], ◌∷◌, ◌++◌, append-nil, append_assoc}
use mathlib.Core.Logic.{by_cases}
use mathlib.Core.Path.{◌≡◌, refl, sym, ap, ap₂, subst, ◌∙◌}
use native.Mathlib.Decide.{ℕ_discrete}
use native.Mathlib.Omega.{arith}
use lib.ListN.{length, set, length-set}
use lib.Seq.{get_or-set_same, get_or-set_other}
use lib.Dec.{ltb, eqb}
use borrow.Author.Tests.{eqb-true, eqb-false, not-true, le-leb, eq-eqb}
use Rattle.records.specs.Base.{pick, all, sum_of}
use Rattle.records.specs.Room.{Room, on_node}
use Rattle.records.specs.Plan.{Step, move_total, sized, shaped}
use Rattle.records.specs.declared.plan.Move.{Move}
use Rattle.records.specs.Inner.{tells_sources}
use Rattle.records.proofs.Laws.Bools.{and_left, and_right, and_both, all_head, all_tail}
use Rattle.rules.specs.Moments.{Placement, place_of, target_of, after}
use Rattle.rules.specs.Orders.{some}
use Rattle.rules.specs.Rules.{from, named, sourced, sound_step}
use Rattle.rules.specs.Promises.{after_all, sourced_all, sound_all}
use Rattle.rules.proofs.Laws.Orders.{never, named-least, named-vm, named-rest, after-length}
use Rattle.rules.proofs.Laws.Sound.{sound-named}
use Rattle.planner.specs.Picks.{vms_in, away, away_count, moving, direct, can_go, direct_step, other_goes, useful, or_else, pivot_step, from_places, next_step, Picks, rests, goes, onward, picked_within, picked}
use Rattle.planner.proofs.Laws.Direct.{homeward, direct-sound, direct-moves, goes-there, direct-none}
use Rattle.planner.proofs.Laws.Pivots.{pivot-sound, pivot-is}
use Rattle.planner.proofs.Laws.Naming.{from-sound, from-after, from-length, from-none, from-sourced, from-tells}

-- ---- the next step

-- what holds of the direct step, and of the pivot where that has no moves, and of a step also once its sources are named, holds of it
next-cases : (room : Room) (places : Placement) (P : Step → Type 0) → ((step : Step) → P step → P (from_places places step)) →
    P (direct_step room places) → (direct_step room places ≡ [] → P (pivot_step room places)) → P (next_step room places)
unfolding next_step or_else
next-cases room places P names p other = names (or_else (direct_step room places) (pivot_step room places)) (go (direct_step room places) p other)
  where
    go : (step : Step) → P step → (step ≡ [] → P (pivot_step room places)) → P (or_else step (pivot_step room places))
    go [] p other = other refl
    go (move ∷ moves) p other = p

pub next-sound : (room : Room) (places : Placement) → sound_step room places (next_step room places) ≡ true
next-sound room places =
    next-cases room places (λ step. sound_step room places step ≡ true) (λ step s. from-sound room places step ∙ s) (direct-sound room places) (λ e. pivot-sound room places)

-- a step that is not empty has a move
pub not-empty : (move : Move) (moves : Step) → move ∷ moves ≡ [] → ⊥
not-empty move moves e = never (cc)

some-length : (step : Step) → (step ≡ [] → ⊥) → 0 < length step
some-length [] n = absurd (n refl)
some-length (move ∷ moves) n = omega arith

-- a well named step has at most a move for each VM
named-length : (room : Room) (places : Placement) (least : ℕ) (step : Step) → named room places least step ≡ true → least ≤ length room.vms →
    least + length step ≤ length room.vms
named-length room places least [] e h = omega arith
named-length room places least (move ∷ moves) e h =
    let l = named-least room places least move moves e in
    let v = named-vm room places least move moves e in
    let r = named-length room places (suc move.vm) moves (named-rest room places least move moves e) (omega arith) in
    omega arith

pub next-length : (room : Room) (places : Placement) → length (next_step room places) ≤ length room.vms
next-length room places =
    let h = named-length room places 0 (next_step room places) (sound-named room places (next_step room places) (next-sound room places)) (omega arith) in
    omega arith

-- ---- how many are away

-- two sums that differ at v only
module _ (f g : ℕ → ℕ) (v : ℕ) (same : (u : ℕ) → (u ≡ v → ⊥) → f u ≡ g u) where
  sum-above : (k n : ℕ) → v < k → sum_of f (from k n) ≡ sum_of g (from k n)
  unfolding sum_of from
  sum-above k zero h = refl
  sum-above k (suc n) h = ap₂ ◌+◌ (same k (λ e. omega arith)) (sum-above (suc k) n (omega arith))

  sum-change : (k n : ℕ) → k ≤ v → v < k + n → sum_of f (from k n) + g v ≡ sum_of g (from k n) + f v
  unfolding sum_of from
  sum-change k zero l h = absurd (omega arith)
  sum-change k (suc n) l h =
      by_cases (ℕ_discrete k v)
      (λ q. let e = sum-above (suc k) n (omega arith) in let x = ap f q in let y = ap g q in omega arith)
      (λ q. let e = sum-change (suc k) n (omega arith) (omega arith) in let x = same k q in omega arith)

-- what a VM adds to the count
abbrev toll : Bool → ℕ
toll b = pick b 1 0

module _ (room : Room) where
  -- one VM put somewhere
  module _ (places : Placement) (v d : ℕ) (l : length places ≡ length room.vms) (h : v < length room.vms) where
    put-there : place_of (set places v d) v ≡ d
    put-there = get_or-set_same places v d 0 (omega arith)

    away-put : away room (set places v d) v ≡ not (eqb d (place_of (target_of room) v))
    unfolding away
    away-put = ap (λ (p : ℕ). not (eqb p (place_of (target_of room) v))) put-there

    away-else : (u : ℕ) → (u ≡ v → ⊥) → away room (set places v d) u ≡ away room places u
    unfolding away
    away-else u n = ap (λ (p : ℕ). not (eqb p (place_of (target_of room) u))) (get_or-set_other places v u d 0 n)

    count-put : away_count room (set places v d) + toll (away room places v) ≡ away_count room places + toll (not (eqb d (place_of (target_of room) v)))
    unfolding away_count
    count-put =
        let e = sum-change (λ u. toll (away room (set places v d) u)) (λ u. toll (away room places u)) v
        (λ u n. ap toll (away-else u n)) 0 (length room.vms) (omega arith) (omega arith) in
        let x = ap toll away-put in
        omega arith

    -- a VM that was away: put on its target it is no longer, put elsewhere it still is
    module _ (a : away room places v ≡ true) where
      count-home : d ≡ place_of (target_of room) v → away_count room (set places v d) + 1 ≡ away_count room places
      count-home e =
          let x = ap toll a in
          let y = ap (λ (b : Bool). toll (not b)) (eq-eqb d (place_of (target_of room) v) e) in
          omega (arith, count-put)

      count-off : not (eqb d (place_of (target_of room) v)) ≡ true → away_count room (set places v d) ≡ away_count room places
      count-off e =
          let x = ap toll a in
          let y = ap toll e in
          omega (arith, count-put)

  -- two VMs that are away
  away-two : (places : Placement) (u v : ℕ) → length places ≡ length room.vms → u < length room.vms → v < length room.vms → (v ≡ u → ⊥) →
      away room places u ≡ true → away room places v ≡ true → 2 ≤ away_count room places
  away-two places u v l h k n a b =
      let t = place_of (target_of room) u in
      let x = count-home places u t l h a refl in
      let y = count-home (set places u t) v (place_of (target_of room) v) (length-set places u t ∙ l) k (away-else places u t l h v n ∙ b) refl in
      omega arith

  pub away-most : (places : Placement) → away_count room places ≤ length room.vms
  unfolding away_count sum_of from
  away-most places = go 0 (length room.vms)
    where
      one : (b : Bool) → toll b ≤ 1
      one true = omega arith
      one false = omega arith

      go : (k n : ℕ) → sum_of (λ v. toll (away room places v)) (from k n) ≤ n
      go k zero = omega arith
      go k (suc n) = let x = one (away room places k) in let y = go (suc k) n in omega arith

  -- moves of VMs that are away to their targets take one each from the count; `here` is the start with the moves so far, all below least
  homeward-count : (start here : Placement) (least : ℕ) (step : Step) → named room start least step ≡ true → all (homeward room start) step ≡ true →
      length here ≡ length room.vms → ((u : ℕ) → least ≤ u → place_of here u ≡ place_of start u) →
      away_count room (after here step) + length step ≡ away_count room here
  unfolding after away
  homeward-count start here least [] n q l same = omega arith
  homeward-count start here least (move ∷ moves) n q l same =
      let v = move.vm in
      let d = move.to in
      let t = place_of (target_of room) v in
      let h = named-vm room start least move moves n in
      let k = named-least room start least move moves n in
      let first = all_head (homeward room start) move moves q in
      let a : away room here v ≡ true = ap (λ (p : ℕ). not (eqb p t)) (same v k) ∙ and_left (away room start v) (eqb d t) first in
      let one = count-home here v d l h a (eqb-true d t (and_right (away room start v) (eqb d t) first)) in
      let others = homeward-count start (set here v d) (suc v) moves (named-rest room start least move moves n) (all_tail (homeward room start) move moves q)
      (length-set here v d ∙ l) (λ u j. get_or-set_other here v u d 0 (λ e. omega arith) ∙ same u (omega arith)) in
      omega arith

-- ---- the budget

-- by how many are away, and whether the direct step has moves
unfoldable pub budget_of : ℕ → Step → ℕ
budget_of zero step = 0
budget_of (suc zero) step = 1
budget_of (suc (suc k)) [] = 2 * k + 3
budget_of (suc (suc k)) (move ∷ moves) = 2 * k + 2

unfoldable pub budget : Room → Placement → ℕ
budget room places = budget_of (away_count room places) (direct_step room places)

-- its bounds, in general
of-most : (n : ℕ) (step : Step) → budget_of n step ≤ 2 * n - 1
unfolding budget_of
of-most zero step = omega arith
of-most (suc zero) step = omega arith
of-most (suc (suc k)) [] = omega arith
of-most (suc (suc k)) (move ∷ moves) = omega arith

of-least : (n : ℕ) (step : Step) → (n ≤ budget_of n step) × (2 * n ≤ budget_of n step + 2)
unfolding budget_of
of-least zero step = (omega arith, omega arith)
of-least (suc zero) step = (omega arith, omega arith)
of-least (suc (suc k)) [] = (omega arith, omega arith)
of-least (suc (suc k)) (move ∷ moves) = (omega arith, omega arith)

-- with two or more away: with no direct step, and with one
of_none : (n : ℕ) (step : Step) → step ≡ [] → 2 ≤ n → 2 * n ≤ budget_of n step + 1
unfolding budget_of
of_none zero step e h = absurd (omega arith)
of_none (suc zero) step e h = absurd (omega arith)
of_none (suc (suc k)) [] e h = omega arith
of_none (suc (suc k)) (move ∷ moves) e h = absurd (not-empty move moves e)

of_some : (n : ℕ) (step : Step) → (step ≡ [] → ⊥) → 2 ≤ n → budget_of n step + 2 ≤ 2 * n
unfolding budget_of
of_some zero step e h = absurd (omega arith)
of_some (suc zero) step e h = absurd (omega arith)
of_some (suc (suc k)) [] e h = absurd (e refl)
of_some (suc (suc k)) (move ∷ moves) e h = omega arith

module _ (room : Room) (places : Placement) where
  budget-less : budget room places ≤ 2 * away_count room places - 1
  unfolding budget
  budget-less = of-most (away_count room places) (direct_step room places)

  pub budget-none : away_count room places ≡ 0 → budget room places ≡ 0
  budget-none e = omega (arith, budget-less)

  pub budget-most : 0 < away_count room places → budget room places + 1 ≤ 2 * away_count room places
  budget-most h = omega (arith, budget-less)

  pub budget-511 : length room.vms ≤ 256 → budget room places ≤ 511
  budget-511 h = omega (arith, budget-less, away-most room places)

-- ---- a turn

-- what a useful pivot tells: its VM is away, the destination is not its target, and behind it some other VM can go
record Pivot (room : Room) (places : Placement) (v d : ℕ) : Type 0 where
  pub out : away room places v ≡ true
  pub elsewhere : not (eqb d (place_of (target_of room) v)) ≡ true
  pub other : ℕ
  pub apart : other ≡ v → ⊥
  pub can-go : can_go room (set places v d) other ≡ true

some-such : {A : Type 0} (p : A → Bool) (xs : List A) → some p xs ≡ true → (x : A) × (p x ≡ true)
unfolding some
some-such p [] e = absurd (false≢true e)
some-such {A = A} p (x ∷ xs) e = go (p x) refl e (some-such p xs)
  where
    go : (b : Bool) → p x ≡ b → (b || some p xs) ≡ true → (some p xs ≡ true → (y : A) × (p y ≡ true)) → (y : A) × (p y ≡ true)
    go true t e more = (x, t)
    go false t e more = more e

useful-tells : (room : Room) (places : Placement) (v d : ℕ) → useful room places v d ≡ true → Pivot room places v d
unfolding useful other_goes after
useful-tells room places v d e =
    let a : Bool = away room places v && on_node (place_of places v) in
    let n : Bool = ltb d (length room.nodes) in
    let o : Bool = not (eqb d (place_of places v)) in
    let t : Bool = not (eqb d (place_of (target_of room) v)) in
    let s = sound_step room places (moving v d ∷ []) in
    let g : Bool = some (λ u. not (eqb u v) && can_go room (set places v d) u) (vms_in room) in
    let x : (a && (n && (o && t))) ≡ true = and_left (a && (n && (o && t))) (s && g) e in
    let y : (s && g) ≡ true = and_right (a && (n && (o && t))) (s && g) e in
    let w = some-such (λ u. not (eqb u v) && can_go room (set places v d) u) (vms_in room) (and_right s g y) in
    let u = w.0 in
    record {
      out = and_left (away room places v) (on_node (place_of places v)) (and_left a (n && (o && t)) x);
      elsewhere = and_right o t (and_right n (o && t) (and_right a (n && (o && t)) x));
      other = u;
      apart = eqb-false u v (not-true (eqb u v) (and_left (not (eqb u v)) (can_go room (set places v d) u) w.1));
      can-go = and_right (not (eqb u v)) (can_go room (set places v d) u) w.1;
    }

module _ (room : Room) (places : Placement) (l : length places ≡ length room.vms) where
  direct-turn : (direct_step room places ≡ [] → ⊥) →
      budget room (after places (direct_step room places)) + length (direct_step room places) ≤ budget room places
  unfolding budget
  direct-turn n =
      let step = direct_step room places in
      let e = homeward-count room places places 0 step (sound-named room places step (direct-sound room places)) (direct-moves room places) l (λ u h. refl) in
      let x = of-most (away_count room (after places step)) (direct_step room (after places step)) in
      let y = of-least (away_count room places) step in
      let h = some-length step n in
      omega arith

  -- a pivot leaves as many away, two at least, and a direct step next
  pivot-turn : (v d : ℕ) → direct_step room places ≡ [] → v < length room.vms → Pivot room places v d → budget room (set places v d) + 1 ≤ budget room places
  unfolding budget can_go
  pivot-turn v d e h p =
      let next = set places v d in
      let u = p.other in
      let same = count-off room places v d l h p.out p.elsewhere in
      let two = away-two room next v u (length-set places v d ∙ l) h (goes-there room next u p.can-go) p.apart
      (away-put room places v d l h ∙ p.elsewhere) (and_left (away room next u) (sound_step room next (direct room u ∷ [])) p.can-go) in
      let x = of_none (away_count room places) (direct_step room places) e (omega arith) in
      let y = of_some (away_count room next) (direct_step room next) (λ z. false≢true (sym (direct-none room next z u) ∙ p.can-go)) two in
      omega arith

  pub turn-budget : (step : Step) → next_step room places ≡ step → (step ≡ [] → ⊥) → budget room (after places step) + length step ≤ budget room places
  unfolding after
  turn-budget step e n =
      subst Turn e (next-cases room places Turn named direct-turn (λ q. go q (pivot_step room places) refl)) n
    where
      Turn : Step → Type 0
      Turn step = (step ≡ [] → ⊥) → budget room (after places step) + length step ≤ budget room places

      named : (step : Step) → Turn step → Turn (from_places places step)
      named step t n = rw (from-after places places step, from-length places step) (t (λ e. n (ap (from_places places) e ∙ from-none places)))

      go : direct_step room places ≡ [] → (step : Step) → pivot_step room places ≡ step → Turn step
      go q [] r n = absurd (n refl)
      go q (move ∷ moves) r n =
          let p = pivot-is room places move moves r in
          rw p.only (pivot-turn move.vm move.to q p.there (useful-tells room places move.vm move.to p.helps))

-- ---- the steps

module _ (room : Room) where
  pub picks-unique : (places : Placement) (one two : List Step) → Picks room places one → Picks room places two → one ≡ two
  picks-unique places [] [] (rests e) (rests f) = refl
  picks-unique places [] (step ∷ steps) (rests e) (goes f n q) = absurd (n (sym f ∙ e))
  picks-unique places (step ∷ steps) [] (goes e n p) (rests f) = absurd (n (sym e ∙ f))
  picks-unique places (one ∷ ones) (two ∷ twos) (goes e n p) (goes f m q) =
      let same : two ≡ one = sym f ∙ e in
      ap₂ ◌∷◌ (sym same) (picks-unique (after places one) ones twos p (subst (λ (step : Step). Picks room (after places step) twos) same q))

  -- with the budget to spend the computed steps do not run out
  within-picks : (n : ℕ) (places : Placement) → length places ≡ length room.vms → budget room places ≤ n → Picks room places (picked_within room n places)
  unfolding picked_within onward
  within-picks zero places l h = rests (go (next_step room places) refl)
    where
      go : (step : Step) → next_step room places ≡ step → step ≡ []
      go [] e = refl
      go (move ∷ moves) e = let b = turn-budget room places l (move ∷ moves) e (not-empty move moves) in absurd (omega arith)
  within-picks (suc n) places l h = go (next_step room places) refl (within-picks n)
    where
      go : (step : Step) → next_step room places ≡ step →
          ((next : Placement) → length next ≡ length room.vms → budget room next ≤ n → Picks room next (picked_within room n next)) →
          Picks room places (onward step (λ step. picked_within room n (after places step)))
      go [] e more = rests e
      go (move ∷ moves) e more =
          let b = turn-budget room places l (move ∷ moves) e (not-empty move moves) in
          goes e (not-empty move moves) (more (after places (move ∷ moves)) (after-length places (move ∷ moves) ∙ l) (omega arith))

  pub picks-steps : (places : Placement) → length places ≡ length room.vms → Picks room places (picked room places)
  unfolding picked
  picks-steps places l = within-picks (2 * away_count room places) places l (omega (arith, budget-less room places))

  -- what the steps of the planner are
  pub picks-sound : (places : Placement) (steps : List Step) → Picks room places steps → sound_all room places steps ≡ true
  unfolding sound_all
  picks-sound places [] (rests e) = refl
  picks-sound places (step ∷ steps) (goes e n p) =
      and_both (ap (sound_step room places) (sym e) ∙ next-sound room places) (picks-sound (after places step) steps p)

  pub picks-sourced : (places : Placement) (steps : List Step) → Picks room places steps → sourced_all places steps ≡ true
  unfolding sourced_all next_step
  picks-sourced places [] (rests e) = refl
  picks-sourced places (step ∷ steps) (goes e n p) =
      and_both (ap (sourced places) (sym e) ∙ from-sourced places (or_else (direct_step room places) (pivot_step room places))) (picks-sourced (after places step) steps p)

  pub picks-tell : (places : Placement) (steps : List Step) → Picks room places steps → all tells_sources steps ≡ true
  unfolding all next_step
  picks-tell places [] (rests e) = refl
  picks-tell places (step ∷ steps) (goes e n p) =
      and_both (ap tells_sources (sym e) ∙ from-tells places (or_else (direct_step room places) (pivot_step room places))) (picks-tell (after places step) steps p)

  pub picks-ends : (places : Placement) (steps : List Step) → Picks room places steps → next_step room (after_all places steps) ≡ []
  unfolding after_all
  picks-ends places [] (rests e) = e
  picks-ends places (step ∷ steps) (goes e n p) = picks-ends (after places step) steps p

  pub picks-moves : (places : Placement) (steps : List Step) → length places ≡ length room.vms → Picks room places steps → move_total steps ≤ budget room places
  unfolding move_total sum_of
  picks-moves places [] l (rests e) = omega arith
  picks-moves places (step ∷ steps) l (goes e n p) =
      let b = turn-budget room places l step e n in
      let r = picks-moves (after places step) steps (after-length places step ∙ l) p in
      omega arith

  pub picks-count : (places : Placement) (steps : List Step) → Picks room places steps → length steps ≤ move_total steps
  unfolding move_total sum_of
  picks-count places [] (rests e) = omega arith
  picks-count places (step ∷ steps) (goes e n p) =
      let h = some-length step n in
      let r = picks-count (after places step) steps p in
      omega arith

  module _ (most : length room.vms ≤ 256) where
    pub picks-sized : (places : Placement) (steps : List Step) → Picks room places steps → all sized steps ≡ true
    unfolding all sized
    picks-sized places [] (rests e) = refl
    picks-sized places (step ∷ steps) (goes e n p) =
        let h = some-length step n in
        let k : length step ≤ length room.vms = rw (← e) (next-length room places) in
        and_both (and_both (le-leb 1 (length step) (omega arith)) (le-leb (length step) 256 (omega arith))) (picks-sized (after places step) steps p)

    pub picks-shaped : (places : Placement) (steps : List Step) → length places ≡ length room.vms → Picks room places steps → shaped steps ≡ true
    unfolding shaped
    picks-shaped places steps l p =
        let c = picks-count places steps p in
        let m = picks-moves places steps l p in
        let b = budget-511 room places most in
        and_both (le-leb (length steps) 512 (omega arith)) (and_both (picks-sized places steps p) (le-leb (move_total steps) 1024 (omega arith)))

-- ---- the steps made one after the other

-- steps done lead from a placement to another: whatever the planner's steps are there, they continue these
pub record Leads (room : Room) (start : Placement) (done : List Step) (here : Placement) : Type 0 where
  pub onto : (rest : List Step) → Picks room here rest → Picks room start (done ++ rest)

pub leads-start : (room : Room) (start : Placement) → Leads room start [] start
leads-start room start = record { onto = λ rest p. p }

module _ (room : Room) (start : Placement) (done : List Step) (here : Placement) where
  pub leads-turn : (step : Step) → next_step room here ≡ step → (step ≡ [] → ⊥) → Leads room start done here →
      Leads room start (done ++ (step ∷ [])) (after here step)
  leads-turn step e n l = record {
    onto = λ rest p. rw (append_assoc done (step ∷ []) rest) (l.onto (step ∷ rest) (goes e n p));
  }

  pub leads-end : next_step room here ≡ [] → Leads room start done here → Picks room start done
  leads-end e l = rw append-nil at (l.onto [] (rests e))
