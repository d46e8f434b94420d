-- Laws on spreads over whole runs: mates that share no node never come to share one.
use Prim.Native.Nat.{ℕ, ◌+◌}
use mathlib.Core.Bool.{Bool, true, false, ◌&&◌, ◌||◌, false≢true, or-true}
use mathlib.Core.List.{List, [], ◌∷◌}
use mathlib.Core.Logic.{◌⊎◌, inl, inr, by_cases}
use mathlib.Core.Path.{◌≡◌, refl, sym, ap, ◌∙◌}
use native.Mathlib.Decide.{ℕ_discrete}
use native.Mathlib.Omega.{arith}
use lib.ListN.{length}
use lib.Dec.{ltb, eqb}
use borrow.Author.Tests.{eqb-true, ne_eqb, lt-ltb, le-ltb}
use Rattle.records.specs.Base.{pick}
use Rattle.records.specs.Room.{Room, on_node}
use Rattle.records.specs.Plan.{Step}
use Rattle.rules.specs.Moments.{Placement, Moment, number_of, counts_on, first_moment, at_rest, places_left}
use Rattle.rules.specs.Orders.{begin, finish, Event, Order, done, next, Run, stop, step, some, mates, meets_mate, stands_on, Apart, EachBegin, EachChange, EachBeginOfRun, EachChangeOfRun}
use Rattle.rules.specs.Promises.{sound_all, Obeys, StaysApart}
use Rattle.rules.proofs.Laws.Orders.{load, Under, under_some, begin-some, not-own-mate}
use Rattle.rules.proofs.Laws.Adding.{mates-sym}
use Rattle.rules.proofs.Laws.Runs.{begin-elsewhere, end-under, first_rest, left-load, run-obeys, kept-moments-run}

-- ---- where a VM counts

-- it counts on a place exactly if the load of that VM alone is not 0 there
pub alone : ℕ → ℕ → ℕ
alone v n = pick (eqb n v) 1 0

stands-load : (v d : ℕ) (cs : Moment) → stands_on cs v d ≡ ltb 0 (load (alone v) d cs)
unfolding stands_on some load alone
stands-load v d [] = sym (le-ltb 0 0 (omega arith))
stands-load v d (c ∷ cs) = picked (eqb (number_of c) v) (counts_on d c) (load (alone v) d cs) (stands-load v d cs)
  where
    picked : (a b : Bool) (n : ℕ) {s : Bool} → s ≡ ltb 0 n → (a && b || s) ≡ ltb 0 (pick b (n + pick a 1 0) n)
    picked true true n e = sym (lt-ltb 0 (n + 1) (omega arith))
    picked true false n e = e
    picked false true n e = let z : n + 0 ≡ n = omega arith in rw z e
    picked false false n e = e

pub same-stands : (v d : ℕ) (cs ds : Moment) → load (alone v) d ds ≡ load (alone v) d cs → stands_on ds v d ≡ stands_on cs v d
same-stands v d cs ds e = stands-load v d ds ∙ ap (ltb 0) e ∙ sym (stands-load v d cs)

-- what counts under a moment counts there
pub stands-under : (v : ℕ) {d : ℕ} {cs ds : Moment} → Under d ds cs → stands_on ds v d ≡ true → stands_on cs v d ≡ true
unfolding stands_on
stands-under v u e = under_some (λ n. eqb n v) u e

-- a VM counts on a node behind a begin if it did before, or if it is its own begin there
enters : (v d : ℕ) {cs ds : Moment} {u to : ℕ} → Event cs (begin u to) ds → stands_on ds v d ≡ true → (stands_on cs v d ≡ true) ⊎ ((v ≡ u) × (d ≡ to))
unfolding stands_on
enters v d {cs} {ds} {u} {to} e s =
    by_cases (ℕ_discrete to d)
    (λ q. by_cases (ℕ_discrete u v) (λ p. inr (sym p, sym q))
    (λ p. inl (begin-some (λ n. eqb n v) (ne_eqb u v p) (rw q at e) ∙ s)))
    (λ q. inl (stands-under v (begin-elsewhere d q e) s))

-- a mate that counts on a node is met there
stands-some : (room : Room) (v w d : ℕ) (cs : Moment) → mates room v w ≡ true → stands_on cs w d ≡ true → some (λ c. mates room v (number_of c) && counts_on d c) cs ≡ true
unfolding stands_on some
stands-some room v w d [] m s = absurd (false≢true s)
stands-some room v w d (c ∷ cs) m s = go (eqb (number_of c) w) refl (counts_on d c) s (stands-some room v w d cs m)
  where
    go : (a : Bool) → eqb (number_of c) w ≡ a → (b : Bool) {x y : Bool} → (a && b || x) ≡ true → (x ≡ true → y ≡ true) → (mates room v (number_of c) && b || y) ≡ true
    go true q true e more = rw (eqb-true (number_of c) w q, m)
    go true q false e more = rw (more e) (or-true (mates room v (number_of c) && false))
    go false q b e more = rw (more e) (or-true (mates room v (number_of c) && b))

stands-met : (room : Room) (v w d : ℕ) (cs : Moment) → on_node d ≡ true → mates room v w ≡ true → stands_on cs w d ≡ true → meets_mate room cs v d ≡ true
unfolding meets_mate
stands-met room v w d cs n m s = rw n (stands-some room v w d cs m s)

-- ---- from one moment to the next

module _ (room : Room) (v w : ℕ) (m : mates room v w ≡ true) where
  begin-apart : {cs ds : Moment} {u to : ℕ} → Event cs (begin u to) ds → meets_mate room cs u to ≡ false → Apart v w cs → Apart v w ds
  begin-apart {cs} {ds} {u} {to} e f a d n x y = go (enters v d e x) (enters w d e y)
    where
      go : (stands_on cs v d ≡ true) ⊎ ((v ≡ u) × (d ≡ to)) → (stands_on cs w d ≡ true) ⊎ ((w ≡ u) × (d ≡ to)) → ⊥
      go (inl p) (inl q) = a d n p q
      go (inl p) (inr q) = false≢true (sym f ∙ rw (← q.0, ← q.1) (stands-met room w v d cs n (mates-sym room w v ∙ m) p))
      go (inr p) (inl q) = false≢true (sym f ∙ rw (← p.0, ← p.1) (stands-met room v w d cs n m q))
      go (inr p) (inr q) = false≢true (sym (not-own-mate room v) ∙ rw (q.0 ∙ sym p.0) at m)

  order-apart : {cs ds : Moment} (o : Order cs ds) → EachBegin (Obeys room) o → EachChange (λ xs ys. Apart v w xs → Apart v w ys) o
  order-apart done b = tt
  order-apart (next {a = begin u to} e o) b = (begin-apart e b.0.may.apart, order-apart o b.1)
  order-apart (next {a = finish u} e o) b = (λ a d n x y. a d n (stands-under v (end-under d e) x) (stands-under w (end-under d e) y), order-apart o b)

  -- between two steps everybody counts where he did
  between : (cs ds : Moment) → ((u d : ℕ) → load (alone u) d ds ≡ load (alone u) d cs) → Apart v w cs → Apart v w ds
  between cs ds e a d n x y = a d n (sym (same-stands v d cs ds (e v d)) ∙ x) (sym (same-stands w d cs ds (e w d)) ∙ y)

  run-apart : {places last : Placement} {steps : List Step} (run : Run room places steps last) → EachBeginOfRun (Obeys room) run →
      EachChangeOfRun (λ xs ys. Apart v w xs → Apart v w ys) run
  run-apart stop b = tt
  run-apart {places} (step {moves = moves} {end = end} o s r) b = (
    between (at_rest room places) (first_moment room places moves) (λ u d. first_rest (alone u) d room places moves),
    order-apart o b.0,
    between end (at_rest room (places_left end)) (λ u d. left-load (alone u) d room places moves o s),
    run-apart r b.1,
  )

-- mates apart at the start of a run of sound steps are apart at every moment of it
pub stays-apart : (room : Room) (places : Placement) (steps : List Step) → sound_all room places steps ≡ true → length places ≡ length room.vms →
    StaysApart room places steps
stays-apart room places steps e l = record {
  stays = λ last run v w m. run-apart room v w m run (run-obeys e l run);
  apart = λ last run v w m a. kept-moments-run (Apart v w) run (run-apart room v w m run (run-obeys e l run)) a;
}
