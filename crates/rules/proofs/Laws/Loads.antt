-- Laws on the sums of a step: adding the VMs one by one, each to its place and its destination, gives the tally of every node.
use Prim.Native.Nat.{ℕ, zero, suc, ◌+◌, ◌*◌, ◌≤◌, ◌<◌, ◌^◌}
use mathlib.Core.Bool.{Bool, true, false, ◌||◌, or-false, or-true}
use mathlib.Core.List.{List}
use mathlib.Core.Logic.{by_cases}
use mathlib.Core.Path.{◌≡◌, refl, sym, ap, ◌∙◌}
use native.Mathlib.Decide.{ℕ_discrete, dec_lt}
use native.Mathlib.Numerals.{add-one}
use native.Mathlib.Omega.{arith}
use lib.ListN.{length, get_or, set, replicate, length-set, length-replicate, get_or-replicate, get_or-eq_default}
use lib.Seq.{get_or-set_same, get_or-set_other}
use mir.Syntax.{w64}
use mir.Val.{Fits}
use lib.Dec.{eqb}
use borrow.Author.Tests.{eq-eqb, ne_eqb}
use Rattle.records.specs.Base.{pick}
use Rattle.records.specs.Room.{Vm, Room, vm_of, IsSound}
use Rattle.rules.specs.Moments.{cell, counts_on, empty_tally, with_vm, tally_at}
use Rattle.rules.specs.Inner.{NeedOf, goal_in, busy_from, Ready, Loaded, Loads}
use Rattle.rules.specs.declared.tally.Need.{Need}
use Rattle.rules.specs.declared.tally.Tally.{Tally}

-- ---- the start

empty-at : (d : ℕ) → get_or (replicate 256 empty_tally) d empty_tally ≡ empty_tally
empty-at d =
    by_cases (dec_lt d 256) (λ p. get_or-replicate 256 d empty_tally empty_tally p)
    (λ p. let h : length (replicate 256 empty_tally) ≤ d = simp length-replicate (omega arith) in get_or-eq_default (replicate 256 empty_tally) empty_tally h)

pub loaded-start : (room : Room) (places dests : List ℕ) → Loaded room places dests 0 (replicate 256 empty_tally)
unfolding tally_at busy_from
loaded-start room places dests = record {
  size = simp length-replicate;
  each = λ d h. empty-at d;
  memory-most = λ d. rw (empty-at d) (omega arith);
  cpu-most = λ d. rw (empty-at d) (omega arith);
}

-- ---- one VM more

-- it counts on its place and on its destination
pub counts-is : (dests : List ℕ) (u p d : ℕ) → d < 64 → counts_on d (cell u p (goal_in dests u)) ≡ (eqb p d || eqb (get_or dests u 0) d)
unfolding counts_on goal_in
counts-is dests u p d h =
    by_cases (ℕ_discrete (get_or dests u 0) 64)
    (λ q. simp (q, ne_eqb 64 d (λ e. omega arith), or-false))
    (λ q. simp (ne_eqb (get_or dests u 0) 64 q))

-- a tally with a VM's need
plus : Need → Tally → Tally
plus vm t = record { memory = t.memory + vm.memory; cpu = t.cpu + vm.cpu }

plus-is : (room : Room) (u : ℕ) (vm : Need) (t : Tally) → NeedOf room u vm → plus vm t ≡ with_vm t (vm_of room u)
unfolding plus
plus-is room u vm t m i = record { memory = t.memory + m.memory i; cpu = t.cpu + m.cpu i }

-- after both additions, at q and p
module _ (q p : ℕ) (sums : List Tally) (vm : Need) (one two : Tally) (z : length sums ≡ 256) (hq : q < 256) (hp : p < 256)
    (a : one ≡ plus vm (get_or sums q empty_tally)) (b : two ≡ plus vm (get_or (set sums q one) p empty_tally)) where
  inside : p < length (set sums q one)
  inside = rw (length-set sums q one, z) hp

  after_both : (d : ℕ) → (q ≡ d → p ≡ d → ⊥) → get_or (set (set sums q one) p two) d empty_tally ≡ pick (eqb p d || eqb q d) (plus vm (get_or sums d empty_tally)) (get_or sums d empty_tally)
  after_both d n =
      by_cases (ℕ_discrete d p)
      (λ e. simp (eq-eqb p d (sym e)) (rw e (get_or-set_same (set sums q one) p two empty_tally inside ∙ b ∙
      ap (plus vm) (get_or-set_other sums q p one empty_tally (λ x. n (sym x ∙ sym e) (sym e))))))
      (λ e. by_cases (ℕ_discrete d q)
      (λ f. simp (eq-eqb q d (sym f), or-true) (get_or-set_other (set sums q one) p d two empty_tally e ∙ rw f (get_or-set_same sums q one empty_tally (rw z hq) ∙ a)))
      (λ f. simp (ne_eqb p d (λ x. e (sym x)), ne_eqb q d (λ x. f (sym x)))
      (get_or-set_other (set sums q one) p d two empty_tally e ∙ get_or-set_other sums q d one empty_tally f)))

  -- a sum grows by one VM, or by it twice
  more-most : (f : Tally → ℕ) (more : ℕ) → ((t : Tally) → f (plus vm t) ≤ f t + more) → (d : ℕ) → f (get_or (set (set sums q one) p two) d empty_tally) ≤ f (get_or sums d empty_tally) + more + more
  more-most f more m d =
      by_cases (ℕ_discrete d p)
      (λ e. rw (e, get_or-set_same (set sums q one) p two empty_tally inside ∙ b) (let h = m (get_or (set sums q one) p empty_tally) in let k = first p in omega arith))
      (λ e. rw (get_or-set_other (set sums q one) p d two empty_tally e) (let k = first d in omega arith))
    where
      first : (d : ℕ) → f (get_or (set sums q one) d empty_tally) ≤ f (get_or sums d empty_tally) + more
      first d =
          by_cases (ℕ_discrete d q)
          (λ e. rw (e, get_or-set_same sums q one empty_tally (rw z hq) ∙ a) (m (get_or sums q empty_tally)))
          (λ e. rw (get_or-set_other sums q d one empty_tally e) (omega arith))

with-swap : (t : Tally) (a b : Vm) → with_vm (with_vm t a) b ≡ with_vm (with_vm t b) a
with-swap t a b i =
    let m : t.memory + a.memory + b.memory ≡ t.memory + b.memory + a.memory = omega arith in
    let c : t.cpu + a.cpu + b.cpu ≡ t.cpu + b.cpu + a.cpu = omega arith in
    record { memory = m i; cpu = c i }

-- the last VM is added as the first is
busy-snoc : (room : Room) (places dests : List ℕ) (u n d : ℕ) → tally_at room d (busy_from places dests u (suc n)) ≡
    pick (counts_on d (cell (u + n) (get_or places (u + n) 0) (goal_in dests (u + n)))) (with_vm (tally_at room d (busy_from places dests u n)) (vm_of room (u + n))) (tally_at room d (busy_from places dests u n))
unfolding tally_at busy_from
busy-snoc room places dests u zero d = let z : u + 0 ≡ u = omega arith in rw z
busy-snoc room places dests u (suc n) d =
    let z : u + suc n ≡ suc u + n = omega arith in
    rw (z, busy-snoc room places dests (suc u) n d)
    (turned (counts_on d (cell u (get_or places u 0) (goal_in dests u))) (counts_on d (cell (suc u + n) (get_or places (suc u + n) 0) (goal_in dests (suc u + n)))))
  where
    T : Tally
    T = tally_at room d (busy_from places dests (suc u) n)

    turned : (a b : Bool) → pick a (with_vm (pick b (with_vm T (vm_of room (suc u + n))) T) (vm_of room u)) (pick b (with_vm T (vm_of room (suc u + n))) T) ≡
        pick b (with_vm (pick a (with_vm T (vm_of room u)) T) (vm_of room (suc u + n))) (pick a (with_vm T (vm_of room u)) T)
    turned true true = with-swap T (vm_of room (suc u + n)) (vm_of room u)
    turned true false = refl
    turned false true = refl
    turned false false = refl

-- a place as an index into the sums
pub place-offset : (p : ℕ) → p < 256 → Fits w64 (p * 16)
place-offset p h = record { fits = omega arith }

-- a VM can be added to a sum, and to the second once the first has changed
module _ (room : Room) (places dests : List ℕ) (v : ℕ) (sums : List Tally) (w : Loaded room places dests v sums) (s : IsSound room) (h : v < length room.vms) where
  pub light-memory : (d : ℕ) → (get_or sums d empty_tally).memory < 2 ^ 40
  light-memory d = let m = s.vms-most in let k = w.memory-most d in omega arith

  pub light-cpu : (d : ℕ) → (get_or sums d empty_tally).cpu < 2 ^ 40
  light-cpu d = let m = s.vms-most in let k = w.cpu-most d in omega arith

  module _ (q p : ℕ) (vm : Need) (one : Tally) (m : NeedOf room v vm) (hq : q < 256)
      (a : one ≡ record { memory = (get_or sums q empty_tally).memory + vm.memory; cpu = (get_or sums q empty_tally).cpu + vm.cpu }) where
    second-light : (f : Tally → ℕ) → f one < 2 ^ 40 → f (get_or sums p empty_tally) < 2 ^ 40 → f (get_or (set sums q one) p empty_tally) < 2 ^ 40
    second-light f x y =
        by_cases (ℕ_discrete p q) (λ e. rw (e, get_or-set_same sums q one empty_tally (rw w.size hq)) x)
        (λ e. rw (get_or-set_other sums q p one empty_tally e) y)

    pub second-memory : (get_or (set sums q one) p empty_tally).memory < 2 ^ 40
    second-memory =
        let x : one.memory < 2 ^ 40 = rw a (let k = m.memory-most in let o = w.memory-most q in let n = s.vms-most in omega arith) in
        second-light (λ (t : Tally). t.memory) x (light-memory p)

    pub second-cpu : (get_or (set sums q one) p empty_tally).cpu < 2 ^ 40
    second-cpu =
        let x : one.cpu < 2 ^ 40 = rw a (let k = m.cpu-most in let o = w.cpu-most q in let n = s.vms-most in omega arith) in
        second-light (λ (t : Tally). t.cpu) x (light-cpu p)

-- the turn, at VM v
module _ (room : Room) (places dests : List ℕ) (v q p : ℕ) (sums : List Tally) (vm : Need) (one two : Tally) (w : Loaded room places dests v sums)
    (r : Ready room places dests) (m : NeedOf room v vm) (y : q ≡ get_or dests v 0) (x : p ≡ get_or places v 0) (load-dest : q < 256) (load-place : p < 256) (h : v < length room.vms) (bound : v < 256) where
  load-leaves : (d : ℕ) → d < 64 → q ≡ d → p ≡ d → ⊥
  load-leaves d l e f = r.leaves v h bound (rw (← y, e) l) (sym y ∙ e ∙ sym f ∙ x)

  module _ (a : one ≡ record { memory = (get_or sums q empty_tally).memory + vm.memory; cpu = (get_or sums q empty_tally).cpu + vm.cpu })
      (b : two ≡ record { memory = (get_or (set sums q one) p empty_tally).memory + vm.memory; cpu = (get_or (set sums q one) p empty_tally).cpu + vm.cpu }) where
    last : (d : ℕ) → tally_at room d (busy_from places dests 0 (suc v)) ≡
        pick (counts_on d (cell v (get_or places v 0) (goal_in dests v))) (with_vm (tally_at room d (busy_from places dests 0 v)) (vm_of room v)) (tally_at room d (busy_from places dests 0 v))
    last d = let z : 0 + v ≡ v = omega arith in rw z at (busy-snoc room places dests 0 v d)

    pub loaded-more : Loaded room places dests (v + 1) (set (set sums q one) p two)
    unfolding plus
    loaded-more = record {
      size = length-set (set sums q one) p two ∙ length-set sums q one ∙ w.size;
      each = λ d g.
          after_both q p sums vm one two w.size load-dest load-place a b d (load-leaves d g) ∙
          rw (add-one v, last d, counts-is dests v (get_or places v 0) d g, ← w.each d g, x, y)
          (ap (λ (t : Tally). pick (eqb (get_or places v 0) d || eqb (get_or dests v 0) d) t (get_or sums d empty_tally)) (plus-is room v vm (get_or sums d empty_tally) m));
      memory-most = λ d. let n = m.memory-most in let e = w.memory-most d in
          let g = more-most q p sums vm one two w.size load-dest load-place a b (λ (t : Tally). t.memory) vm.memory (λ t. omega arith) d in omega arith;
      cpu-most = λ d. let n = m.cpu-most in let e = w.cpu-most d in
          let g = more-most q p sums vm one two w.size load-dest load-place a b (λ (t : Tally). t.cpu) vm.cpu (λ t. omega arith) d in omega arith;
    }

-- ---- the end

pub loaded-end : (room : Room) (places dests : List ℕ) (v : ℕ) (sums : List Tally) → Loaded room places dests v sums → v ≡ length room.vms → Loads room places dests sums
loaded-end room places dests v sums w e = record {
  size = w.size;
  each = λ d g. w.each d g ∙ ap (λ (n : ℕ). tally_at room d (busy_from places dests 0 n)) e;
  memory-most = λ d. rw e at (w.memory-most d);
  cpu-most = λ d. rw e at (w.cpu-most d);
}
