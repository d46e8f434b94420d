-- The passes over the spreads find exactly the mates that meet with every move running.
use Prim.Native.Nat.{ℕ, zero, suc, ◌+◌, ◌≤◌, ◌<◌}
use mathlib.Core.Bool.{Bool, true, false, not, ◌&&◌, ◌||◌, and-false, or-true}
use mathlib.Core.List.{List, [], ◌∷◌}
use mathlib.Core.Logic.{◌⊎◌, inl, inr, ⊎_elim, by_cases}
use mathlib.Core.Path.{◌≡◌, refl, sym, ap, ◌∙◌}
use native.Mathlib.Decide.{ℕ_discrete, dec_lt}
use native.Mathlib.Omega.{arith}
use lib.ListN.{length, get_or, set, replicate, length-set, length-replicate, get_or-replicate}
use lib.Seq.{get_or-set_same, get_or-set_other}
use lib.Dec.{ltb, eqb}
use borrow.Author.Tests.{lt-ltb, le-ltb, eq-eqb, ne_eqb, eqb-true, eqb-false, ltb-true, not-true}
use Rattle.records.specs.Base.{pick, all}
use Rattle.records.specs.Room.{Constraint, ban, fence, spread, latency, before, has, above, rises, list_ok, Room, constraint_ok, IsSound}
use Rattle.records.specs.Plan.{Step, move_of, no_move}
use Rattle.records.proofs.Laws.Bools.{and_left, and_right, and_both, bool_iff, all-at, all-and}
use Rattle.records.proofs.Laws.Rows.{node-on, near_on, far-off}
use Rattle.rules.specs.Moments.{Cell, cell, Moment, number_of, counts_on}
use Rattle.rules.specs.Orders.{spreads, some, mates, meets_mate}
use Rattle.rules.specs.Rules.{named, unmet}
use Rattle.rules.specs.Inner.{held, dests_from, goal_in, busy_from, Ready, start_marks, go_unmet, list_unmet, spread_ok}
use Rattle.rules.proofs.Laws.Orders.{phase-all, phase-at}
use Rattle.rules.proofs.Laws.Loads.{counts-is}
use Rattle.rules.proofs.Laws.Fit.{named-is-aimed, running-is, dest-phase, phase-dest}

-- ---- small words

never : {A : Type 0} → ◌≡◌ {A = Bool} true false → A
never e = let z : ◌≡◌ {A = ℕ} 0 1 = cc in absurd (omega arith)

not-both : (a b : Bool) → (a ≡ true → b ≡ true → ⊥) → (a && b) ≡ false
not-both true true n = absurd (n refl refl)
not-both true false n = refl
not-both false b n = refl

either : (a b : Bool) → (a || b) ≡ true → (a ≡ true) ⊎ (b ≡ true)
either true b e = inl refl
either false b e = inr e

neither : (a b : Bool) → (a || b) ≡ false → (a ≡ false) × (b ≡ false)
neither true b e = never e
neither false b e = (refl, e)

pub is_false : (a : Bool) → (a ≡ true → ⊥) → a ≡ false
is_false true n = absurd (n refl)
is_false false n = refl

pub all-intro : {A : Type 0} (p : A → Bool) (xs : List A) (d : A) → ((i : ℕ) → i < length xs → p (get_or xs i d) ≡ true) → all p xs ≡ true
unfolding all
all-intro p [] d h = refl
all-intro p (x ∷ xs) d h = and_both (h 0 (omega arith)) (all-intro p xs d (λ i k. h (suc i) (omega arith)))

some_at : {A : Type 0} (p : A → Bool) (xs : List A) (i : ℕ) (d : A) → i < length xs → p (get_or xs i d) ≡ true → some p xs ≡ true
unfolding some
some_at p [] i d h e = absurd (omega arith)
some_at p (x ∷ xs) zero d h e = simp e
some_at p (x ∷ xs) (suc i) d h e = simp (some_at p xs i d (omega arith) e, or-true)

-- what some element has, beside what all have
found-both : {A : Type 0} (p q : A → Bool) (xs : List A) → some p xs ≡ true → all q xs ≡ true → (x : A) × (p x ≡ true) × (q x ≡ true)
unfolding some all
found-both p q [] e f = never (sym e)
found-both p q (x ∷ xs) e f =
    ⊎_elim (λ h. (x, h, and_left (q x) (all q xs) f)) (λ h. found-both p q xs h (and_right (q x) (all q xs) f)) (either (p x) (some p xs) e)

-- the head of a rising list is not in its tail
above-has : (low y : ℕ) (xs : List ℕ) → above low xs ≡ true → has xs y ≡ true → low < y
unfolding above has
above-has low y [] a h = never (sym h)
above-has low y (x ∷ xs) a h =
    let l = ltb-true low x (and_left (ltb low x) (above x xs) a) in
    ⊎_elim (λ e. let q = eqb-true x y e in omega arith) (λ e. let r = above-has x y xs (and_right (ltb low x) (above x xs) a) e in omega arith) (either (eqb x y) (has xs y) h)

above_low : (low : ℕ) (xs : List ℕ) → above low xs ≡ true → rises xs ≡ true
unfolding above rises
above_low low [] a = refl
above_low low (x ∷ xs) a = and_right (ltb low x) (above x xs) a

pub has-below : (n y : ℕ) (xs : List ℕ) → all (λ x. ltb x n) xs ≡ true → has xs y ≡ true → y < n
unfolding all has
has-below n y [] a h = never (sym h)
has-below n y (x ∷ xs) a h =
    ⊎_elim (λ e. let q = eqb-true x y e in let l = ltb-true x n (and_left (ltb x n) (all (λ z. ltb z n) xs) a) in omega arith)
    (λ e. has-below n y xs (and_right (ltb x n) (all (λ z. ltb z n) xs) a) e) (either (eqb x y) (has xs y) h)

-- ---- arrivals: E is where each VM arrives, f where it may not

module _ (E : ℕ → ℕ) where
  unfoldable pub arrives : (ℕ → Bool) → List ℕ → Bool
  arrives f [] = true
  arrives f (v ∷ vs) = not (f (E v)) && arrives (λ d. (eqb (E v) d && ltb (E v) 64) || f d) vs

  arrives-free : (f : ℕ → Bool) (vs : List ℕ) (v : ℕ) → arrives f vs ≡ true → has vs v ≡ true → f (E v) ≡ false
  unfolding arrives has
  arrives-free f [] v a h = never (sym h)
  arrives-free f (x ∷ xs) v a h =
      ⊎_elim (λ e. let q = eqb-true x v e in rw (← q) (not-true (f (E x)) (and_left (not (f (E x))) _ a)))
      (λ e. (neither (eqb (E x) (E v) && ltb (E x) 64) (f (E v)) (arrives-free (λ d. (eqb (E x) d && ltb (E x) 64) || f d) xs v (and_right (not (f (E x))) _ a) e)).1)
      (either (eqb x v) (has xs v) h)

  -- a later VM does not arrive where the first did
  arrives-first : (f : ℕ → Bool) (x : ℕ) (xs : List ℕ) (w : ℕ) → arrives f (x ∷ xs) ≡ true → has xs w ≡ true → E x ≡ E w → E x < 64 → ⊥
  unfolding arrives
  arrives-first f x xs w a h e l =
      let r = arrives-free (λ d. (eqb (E x) d && ltb (E x) 64) || f d) xs w (and_right (not (f (E x))) _ a) h in
      never (sym (and_both (eq-eqb (E x) (E w) e) (lt-ltb (E x) 64 l)) ∙ (neither (eqb (E x) (E w) && ltb (E x) 64) (f (E w)) r).0)

  later : (f : ℕ → Bool) (x : ℕ) (xs : List ℕ) → arrives f (x ∷ xs) ≡ true → arrives (λ d. (eqb (E x) d && ltb (E x) 64) || f d) xs ≡ true
  unfolding arrives
  later f x xs a = and_right (not (f (E x))) _ a

  arrives-apart : (f : ℕ → Bool) (vs : List ℕ) (v w : ℕ) → arrives f vs ≡ true → has vs v ≡ true → has vs w ≡ true → (v ≡ w → ⊥) → E v ≡ E w → E v < 64 → ⊥
  unfolding has
  arrives-apart f [] v w a h k n e l = never (sym h)
  arrives-apart f (x ∷ xs) v w a h k n e l =
      ⊎_elim
      (λ p. ⊎_elim (λ q. n (sym (eqb-true x v p) ∙ eqb-true x w q))
      (λ q. arrives-first f x xs w a q (ap E (eqb-true x v p) ∙ e) (rw (eqb-true x v p) l)) (either (eqb x w) (has xs w) k))
      (λ p. ⊎_elim (λ q. arrives-first f x xs v a p (ap E (eqb-true x w q) ∙ sym e) (rw (eqb-true x w q, ← e) l))
      (λ q. arrives-apart (λ d. (eqb (E x) d && ltb (E x) 64) || f d) xs v w (later f x xs a) p q n e l) (either (eqb x w) (has xs w) k))
      (either (eqb x v) (has xs v) h)

  -- and conversely
  arrives-all : (f : ℕ → Bool) (vs : List ℕ) → rises vs ≡ true → ((v : ℕ) → has vs v ≡ true → f (E v) ≡ false) →
      ((v w : ℕ) → has vs v ≡ true → has vs w ≡ true → (v ≡ w → ⊥) → E v ≡ E w → E v < 64 → ⊥) → arrives f vs ≡ true
  unfolding arrives has rises
  arrives-all f [] r a b = refl
  arrives-all f (x ∷ xs) r a b =
      and_both (ap not (a x (simp (eq-eqb x x refl))))
      (arrives-all (λ d. (eqb (E x) d && ltb (E x) 64) || f d) xs (above_low x xs r)
      (λ v h. free v h (a v (simp (h, or-true))) (λ e l. b x v (simp (eq-eqb x x refl)) (simp (h, or-true)) (λ q. let m = above-has x v xs r h in omega arith) e l))
      (λ v w h k. b v w (simp (h, or-true)) (simp (k, or-true))))
    where
      free : (v : ℕ) → has xs v ≡ true → f (E v) ≡ false → (E x ≡ E v → E x < 64 → ⊥) → ((eqb (E x) (E v) && ltb (E x) 64) || f (E v)) ≡ false
      free v h e n = rw (e, not-both (eqb (E x) (E v)) (ltb (E x) 64) (λ p q. n (eqb-true (E x) (E v) p) (ltb-true (E x) 64 q)))

-- ---- the passes

-- on the nodes, the marks stand where f holds
pub record Marks (marks : List Bool) (f : ℕ → Bool) : Type 0 where
  pub size : length marks ≡ 256
  pub each : (d : ℕ) → d < 64 → get_or marks d false ≡ f d

pub marks-none : Marks (replicate 256 false) (λ d. false)
marks-none = record { size = length-replicate {A = Bool} 256 false; each = λ d h. get_or-replicate {A = Bool} 256 d false false (omega arith) }

-- a VM at p is on node d
abbrev at_node : ℕ → ℕ → Bool
at_node p d = eqb p d && ltb p 64

never-far : (p d : ℕ) → 64 ≤ d → at_node p d ≡ false
never-far p d h = not-both (eqb p d) (ltb p 64) (λ x y. let a = eqb-true p d x in let c = ltb-true p 64 y in omega arith)

-- another mark
marks-set : (marks : List Bool) (f : ℕ → Bool) (p : ℕ) → Marks marks f → Marks (set marks p true) (λ d. at_node p d || f d)
marks-set marks f p k = record { size = length-set marks p true ∙ k.size; each = each }
  where
    each : (d : ℕ) → d < 64 → get_or (set marks p true) d false ≡ (at_node p d || f d)
    each d l =
        by_cases (ℕ_discrete p d)
        (λ q. let h : p < 64 = rw q l in
        rw (← q) (simp (eq-eqb p p refl, lt-ltb p 64 h) (get_or-set_same marks p true false (rw k.size (omega arith)))))
        (λ q. rw (ne_eqb p d q) (get_or-set_other marks p d true false (λ x. q (sym x)) ∙ k.each d l))

-- the nodes of the VMs of a list
starts_at : List ℕ → List ℕ → ℕ → Bool
starts_at places [] d = false
starts_at places (w ∷ ws) d = at_node (get_or places w 0) d || starts_at places ws d

starts-some : (places vs : List ℕ) (d w : ℕ) → starts_at places vs d ≡ false → has vs w ≡ true → get_or places w 0 ≡ d → d < 64 → ⊥
unfolding starts_at has
starts-some places [] d w e h q l = never (sym h)
starts-some places (x ∷ xs) d w e h q l =
    let n = neither (at_node (get_or places x 0) d) (starts_at places xs d) e in
    ⊎_elim (λ p. let g : get_or places x 0 ≡ d = ap (λ (k : ℕ). get_or places k 0) (eqb-true x w p) ∙ q in
    never (sym (and_both (eq-eqb (get_or places x 0) d g) (rw g (lt-ltb d 64 l))) ∙ n.0))
    (λ p. starts-some places xs d w n.1 p q l) (either (eqb x w) (has xs w) h)

starts_none : (places vs : List ℕ) (d : ℕ) → ((w : ℕ) → has vs w ≡ true → get_or places w 0 ≡ d → d < 64 → ⊥) → starts_at places vs d ≡ false
unfolding starts_at has
starts_none places [] d n = refl
starts_none places (x ∷ xs) d n =
    rw (
      not-both (eqb (get_or places x 0) d) (ltb (get_or places x 0) 64)
          (λ a b. let q = eqb-true (get_or places x 0) d a in n x (simp (eq-eqb x x refl)) q (rw q at (ltb-true (get_or places x 0) 64 b))),
      starts_none places xs d (λ w h. n w (simp (h, or-true))),
    )

or_turned : (a b c : Bool) → (b || (a || c)) ≡ ((a || b) || c)
or_turned true b c = or-true b
or_turned false b c = refl

starts-marks : (marks : List Bool) (places vs : List ℕ) (f : ℕ → Bool) → Marks marks f → Marks (start_marks marks places vs) (λ d. starts_at places vs d || f d)
unfolding starts_at
starts-marks marks places [] f k = k
starts-marks marks places (x ∷ xs) f k =
    let p = get_or places x 0 in
    let w = starts-marks (set marks p true) places xs (λ d. at_node p d || f d) (marks-set marks f p k) in
    record { size = w.size; each = λ d l. w.each d l ∙ or_turned (at_node p d) (starts_at places xs d) (f d) }

pick-and : (a b : Bool) → pick a false b ≡ (not a && b)
pick-and true b = refl
pick-and false b = refl

pub go-arrives : (marks : List Bool) (dests vs : List ℕ) (f : ℕ → Bool) → Marks marks f → ((d : ℕ) → 64 ≤ d → f d ≡ false) → go_unmet marks dests vs ≡ arrives (λ v. get_or dests v 0) f vs
unfolding arrives
go-arrives marks dests [] f k z = refl
go-arrives marks dests (x ∷ xs) f k z =
    let e = get_or dests x 0 in
    let far : (d : ℕ) → 64 ≤ d → (at_node e d || f d) ≡ false = λ d h. rw (never-far e d h, z d h) in
    by_cases (dec_lt e 64)
    (λ l. ap (λ (b : Bool). pick b (pick (get_or marks e false) false (go_unmet (set marks e true) dests xs)) (go_unmet marks dests xs)) (lt-ltb e 64 l) ∙
    rw (k.each e l, go-arrives (set marks e true) dests xs (λ d. at_node e d || f d) (marks-set marks f e k) far) (pick-and (f e) _))
    (λ l. ap (λ (b : Bool). pick b (pick (get_or marks e false) false (go_unmet (set marks e true) dests xs)) (go_unmet marks dests xs)) (le-ltb e 64 (omega arith)) ∙
    rw (z e (omega arith)) (go-arrives marks dests xs (λ d. at_node e d || f d) (unmarked e (omega arith)) far))
  where
    -- no node, no mark
    unmarked : (e : ℕ) → 64 ≤ e → Marks marks (λ d. at_node e d || f d)
    unmarked e h = record {
      size = k.size;
      each = λ d l. k.each d l ∙ ap (λ (c : Bool). c || f d) (sym (ap (λ (b : Bool). eqb e d && b) (le-ltb e 64 h) ∙ and-false (eqb e d)));
    }

-- ---- one spread: its VMs arrive apart, and none where one starts

module _ (places dests vs : List ℕ) where
  dest-of : ℕ → ℕ
  dest-of v = get_or dests v 0

  list-arrives : list_unmet places dests vs ≡ arrives dest-of (λ d. starts_at places vs d || false) vs
  unfolding dest-of
  list-arrives =
      go-arrives (start_marks (replicate 256 false) places vs) dests vs (λ d. starts_at places vs d || false)
      (starts-marks (replicate 256 false) places vs (λ d. false) marks-none) (λ d h. rw (starts_none places vs d (λ w k q l. omega arith)))

  list-free : list_unmet places dests vs ≡ true → (v w : ℕ) → has vs v ≡ true → has vs w ≡ true → get_or places w 0 ≡ get_or dests v 0 → get_or dests v 0 < 64 → ⊥
  unfolding dest-of
  list-free e v w h k q l =
      starts-some places vs (get_or dests v 0) w
      (neither (starts_at places vs (get_or dests v 0)) false (arrives-free dest-of (λ d. starts_at places vs d || false) vs v (sym list-arrives ∙ e) h)).0 k q l

  list-apart : list_unmet places dests vs ≡ true → (v w : ℕ) → has vs v ≡ true → has vs w ≡ true → (v ≡ w → ⊥) → get_or dests v 0 ≡ get_or dests w 0 → get_or dests v 0 < 64 → ⊥
  unfolding dest-of
  list-apart e = λ v w h k n q l. arrives-apart dest-of (λ d. starts_at places vs d || false) vs v w (sym list-arrives ∙ e) h k n q l

  list_all : rises vs ≡ true → ((v w : ℕ) → has vs v ≡ true → has vs w ≡ true → get_or places w 0 ≡ get_or dests v 0 → get_or dests v 0 < 64 → ⊥) →
      ((v w : ℕ) → has vs v ≡ true → has vs w ≡ true → (v ≡ w → ⊥) → get_or dests v 0 ≡ get_or dests w 0 → get_or dests v 0 < 64 → ⊥) → list_unmet places dests vs ≡ true
  unfolding dest-of
  list_all r x y =
      list-arrives ∙ arrives-all dest-of (λ d. starts_at places vs d || false) vs r
      (λ v h. rw (starts_none places vs (get_or dests v 0) (λ w k q l. x v w h k q l)))
      y

-- ---- the cells of the moment, one by one

busy-some : (q : Cell → Bool) (places dests : List ℕ) (v n w : ℕ) → some q (busy_from places dests v n) ≡ false → v ≤ w → w < v + n → q (cell w (get_or places w 0) (goal_in dests w)) ≡ false
unfolding some busy_from
busy-some q places dests v zero w e h k = absurd (omega arith)
busy-some q places dests v (suc n) w e h k =
    let f = neither (q (cell v (get_or places v 0) (goal_in dests v))) (some q (busy_from places dests (suc v) n)) e in
    by_cases (ℕ_discrete v w) (λ x. rw (← x) f.0) (λ x. busy-some q places dests (suc v) n w f.1 (omega arith) (omega arith))

busy-none : (q : Cell → Bool) (places dests : List ℕ) (v n : ℕ) → ((w : ℕ) → v ≤ w → w < v + n → q (cell w (get_or places w 0) (goal_in dests w)) ≡ false) → some q (busy_from places dests v n) ≡ false
unfolding some busy_from
busy-none q places dests v zero h = refl
busy-none q places dests v (suc n) h = rw (h v (omega arith) (omega arith), busy-none q places dests (suc v) n (λ w a b. h w (omega arith) (omega arith)))

-- ---- all spreads

module _ (room : Room) (places : List ℕ) (step : Step) (w : IsSound room) (n : named room (held room places) 0 step ≡ true) (r : Ready room places (dests_from step)) where
  E : ℕ → ℕ
  E v = get_or (dests_from step) v 0

  P : ℕ → ℕ
  P v = get_or places v 0

  -- a mate counts on a node where it is placed or arrives
  counts : (d u : ℕ) → d < 64 → counts_on d (cell u (P u) (goal_in (dests_from step) u)) ≡ (eqb (P u) d || eqb (E u) d)
  unfolding P E
  counts d u h = counts-is (dests_from step) u (get_or places u 0) d h

  -- a spread's VMs are in range and rise
  list-in : (vs : List ℕ) → list_ok (length room.vms) vs ≡ true → (v : ℕ) → has vs v ≡ true → v < length room.vms
  unfolding list_ok
  list-in vs e v h = has-below (length room.vms) v vs (and_right (rises vs) _ e) h

  spread_at : (k : Constraint) → constraint_ok (length room.vms) (length room.nodes) k ≡ true → spread_ok places (dests_from step) k ≡ true → (v u : ℕ) → spreads v u k ≡ true → (v ≡ u → ⊥) → E v < 64 →
      (eqb (P u) (E v) || eqb (E u) (E v)) ≡ false
  unfolding spread_ok spreads constraint_ok P E
  spread_at (ban vs nodes) c o v u e m l = never (sym e)
  spread_at (fence vs nodes) c o v u e m l = never (sym e)
  spread_at (latency vs groups) c o v u e m l = never (sym e)
  spread_at (before first second) c o v u e m l = never (sym e)
  spread_at (spread vs) c o v u e m l =
      let hv = and_left (has vs v) (has vs u) e in
      let hu = and_right (has vs v) (has vs u) e in
      rw (
        ne_eqb (get_or places u 0) (get_or (dests_from step) v 0) (λ q. list-free places (dests_from step) vs o v u hv hu q l),
        ne_eqb (get_or (dests_from step) u 0) (get_or (dests_from step) v 0) (λ q. list-apart places (dests_from step) vs o v u hv hu m (sym q) l),
      )

  busy : Moment
  busy = busy_from places (dests_from step) 0 (length room.vms)

  both_ok : Constraint → Bool
  both_ok k = constraint_ok (length room.vms) (length room.nodes) k && spread_ok places (dests_from step) k

  -- all spreads pass: a mate of a moved VM does not count on its destination
  apart_from : all (spread_ok places (dests_from step)) room.constraints ≡ true → (v u d : ℕ) → d < 64 → E v ≡ d → mates room v u ≡ true →
      counts_on d (cell u (P u) (goal_in (dests_from step) u)) ≡ true → ⊥
  unfolding mates both_ok
  apart_from o v u d l e p q =
      let m = eqb-false v u (not-true (eqb v u) (and_left (not (eqb v u)) (some (spreads v u) room.constraints) p)) in
      let a : all (λ k. constraint_ok (length room.vms) (length room.nodes) k && spread_ok places (dests_from step) k) room.constraints ≡ true =
      all-and (constraint_ok (length room.vms) (length room.nodes)) (spread_ok places (dests_from step)) room.constraints ∙ and_both w.well-formed o in
      let f = found-both (spreads v u) both_ok room.constraints (and_right (not (eqb v u)) (some (spreads v u) room.constraints) p) a in
      let c = and_left (constraint_ok (length room.vms) (length room.nodes) f.0) (spread_ok places (dests_from step) f.0) f.2 in
      let b = and_right (constraint_ok (length room.vms) (length room.nodes) f.0) (spread_ok places (dests_from step) f.0) f.2 in
      let t : E v < 64 = rw e l in
      let g = spread_at f.0 c b v u f.1 m t in
      never (sym q ∙ counts d u l ∙ ap (λ (x : ℕ). eqb (P u) x || eqb (E u) x) (sym e) ∙ g)

  forth : all (spread_ok places (dests_from step)) room.constraints ≡ true → (i : ℕ) → i < length step →
      meets_mate room busy (move_of step i).vm (move_of step i).to ≡ false
  unfolding meets_mate busy P E
  forth o i h =
      let a = phase-at room (held room places) 0 step i n h in
      let m = w.vms-most in
      let k : (move_of step i).vm < length room.vms = a.2 in
      let e = phase-dest room places step w n (move_of step i).vm (move_of step i).to (omega arith) a.0 in
      let t = (named-is-aimed room places step w n).each i h in
      by_cases (dec_lt (move_of step i).to 64)
      (λ l. rw (near_on (length room.nodes) (move_of step i).to (w.nodes-most) t l)
      (busy-none (λ c. mates room (move_of step i).vm (number_of c) && counts_on (move_of step i).to c) places (dests_from step) 0 (length room.vms)
      (λ u x y. not-both (mates room (move_of step i).vm u) (counts_on (move_of step i).to (cell u (get_or places u 0) (goal_in (dests_from step) u)))
      (λ p q. apart_from o (move_of step i).vm u (move_of step i).to l e p q))))
      (λ l. rw (far-off (length room.nodes) (move_of step i).to (w.nodes-most) t (omega arith)))

  -- no moved VM meets a mate: each spread passes
  module _ (o : all (λ move. not (meets_mate room busy move.vm move.to)) step ≡ true) where
    clear : (v u : ℕ) → v < length room.vms → u < length room.vms → mates room v u ≡ true → E v < 64 → (eqb (P u) (E v) || eqb (E u) (E v)) ≡ false
    unfolding meets_mate busy P E
    clear v u hv hu m l =
        let c = w.vms-most in
        let ph = dest-phase room places step w n v (omega arith) l in
        let g = not-true (meets_mate room busy v (get_or (dests_from step) v 0)) (phase-all (λ u d. not (meets_mate room busy u d)) step v (get_or (dests_from step) v 0) o ph) in
        let q : some (λ c. mates room v (number_of c) && counts_on (get_or (dests_from step) v 0) c) (busy_from places (dests_from step) 0 (length room.vms)) ≡ false = rw (node-on 64 (get_or (dests_from step) v 0) (omega arith) l) at g in
        let b = busy-some (λ c. mates room v (number_of c) && counts_on (get_or (dests_from step) v 0) c) places (dests_from step) 0 (length room.vms) u q (omega arith) (omega arith) in
        sym (counts (get_or (dests_from step) v 0) u l) ∙ (simp m at b)

    spread-mates : (i : ℕ) (d : Constraint) (vs : List ℕ) → i < length room.constraints → get_or room.constraints i d ≡ spread vs → (v u : ℕ) → has vs v ≡ true → has vs u ≡ true →
        (v ≡ u → ⊥) → mates room v u ≡ true
    unfolding mates spreads
    spread-mates i d vs h e v u a b m =
        and_both (ap not (ne_eqb v u m)) (some_at (spreads v u) room.constraints i d h (rw e (and_both a b)))

    back_at : (i : ℕ) (d k : Constraint) → i < length room.constraints → get_or room.constraints i d ≡ k → constraint_ok (length room.vms) (length room.nodes) k ≡ true →
        spread_ok places (dests_from step) k ≡ true
    unfolding spread_ok constraint_ok list_ok P E
    back_at i d (ban vs nodes) h e c = refl
    back_at i d (fence vs nodes) h e c = refl
    back_at i d (latency vs groups) h e c = refl
    back_at i d (before first second) h e c = refl
    back_at i d (spread vs) h e c =
        let inside : (x : ℕ) → has vs x ≡ true → x < length room.vms = list-in vs c in
        list_all places (dests_from step) vs (and_left (rises vs) _ c)
        (λ v u a b q l. by_cases (ℕ_discrete v u)
        (λ y. let m = w.vms-most in let k = inside v a in r.leaves v k (omega arith) l (sym q ∙ ap (λ (x : ℕ). get_or places x 0) (sym y)))
        (λ y. let z = clear v u (inside v a) (inside u b) (spread-mates i d vs h e v u a b y) l in
        eqb-false (get_or places u 0) (get_or (dests_from step) v 0) (neither (eqb (get_or places u 0) (get_or (dests_from step) v 0)) (eqb (get_or (dests_from step) u 0) (get_or (dests_from step) v 0)) z).0 q))
        (λ v u a b y q l. let z = clear v u (inside v a) (inside u b) (spread-mates i d vs h e v u a b y) l in
        eqb-false (get_or (dests_from step) u 0) (get_or (dests_from step) v 0) (neither (eqb (get_or places u 0) (get_or (dests_from step) v 0)) (eqb (get_or (dests_from step) u 0) (get_or (dests_from step) v 0)) z).1 (sym q))

    back : all (spread_ok places (dests_from step)) room.constraints ≡ true
    back =
        all-intro (spread_ok places (dests_from step)) room.constraints (spread [])
        (λ i h. back_at i (spread []) (get_or room.constraints i (spread [])) h refl (all-at (constraint_ok (length room.vms) (length room.nodes)) room.constraints i (spread []) w.well-formed h))

  -- together
  pub unmet-is : (x : Bool) → x ≡ all (spread_ok places (dests_from step)) room.constraints → x ≡ unmet room (held room places) step
  unfolding unmet move_of busy
  unmet-is x e =
      e ∙ rw (← running-is room places step w n)
      (bool_iff (all (spread_ok places (dests_from step)) room.constraints) (all (λ move. not (meets_mate room busy move.vm move.to)) step)
      (λ o. all-intro (λ move. not (meets_mate room busy move.vm move.to)) step no_move (λ i h. ap not (forth o i h))) back)
