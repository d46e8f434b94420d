-- Laws on the pass that makes the direct step: the array of destinations and the sums, VM by VM.
use Prim.Native.Nat.{ℕ, suc, ◌+◌, ◌-◌, ◌*◌, ◌≤◌, ◌<◌}
use mathlib.Core.Bool.{Bool, true, false, not, ◌&&◌, ◌||◌, false≢true, and-false, or-true}
use mathlib.Core.List.{List, [], ◌∷◌, ◌++◌}
use mathlib.Core.Logic.{⊎_elim, by_cases}
use mathlib.Core.Path.{◌≡◌, refl, sym, ap, ap₂, ◌∙◌}
use native.Mathlib.Decide.{ℕ_discrete}
use native.Mathlib.Nat.{sub-zero}
use native.Mathlib.Numerals.{add-one}
use native.Mathlib.Omega.{arith}
use lib.ListN.{length, get_or, set, replicate, length-set}
use lib.Seq.{get_or-set_same, get_or-set_other}
use lib.Dec.{ltb, eqb}
use borrow.Author.Tests.{lt-ltb, ltb-true, eq-eqb, ne_eqb, eqb-true, eqb-false, not-true}
use Rattle.records.specs.Base.{pick, all}
use Rattle.records.specs.Room.{Room, IsSound, vm_of, nowhere}
use Rattle.records.specs.Plan.{Step}
use Rattle.records.proofs.Laws.Bools.{and_both, all_more}
use Rattle.records.proofs.Laws.Rows.{place-either}
use Rattle.rules.specs.Moments.{place_of, target_of, empty_tally, with_vm, tally_at, first_moment, all_running}
use Rattle.rules.specs.Rules.{from, aims, named, has_move, in_turn, sound_step}
use Rattle.rules.specs.Inner.{NeedOf, held, dests_from, busy_from, Loads}
use Rattle.rules.specs.declared.tally.Need.{Need}
use Rattle.rules.specs.declared.tally.Tally.{Tally}
use Rattle.rules.proofs.Laws.Adding.{joins, Joins, joins-tests, empty-sound, all_snoc, tally-there, tally-else}
use Rattle.rules.specs.Orders.{some}
use Rattle.rules.proofs.Laws.Sound.{sound-turn}
use Rattle.rules.proofs.Laws.Turn.{has-snoc}
use Rattle.rules.proofs.Laws.Fit.{running-is, held_at}
use Rattle.rules.proofs.Laws.Places.{target_at}
use Rattle.planner.specs.Picks.{moving, away, joined, joined_all, direct_step}
use Rattle.planner.specs.Inner.{held_back, joins_in}
use Rattle.planner.proofs.Laws.Waits.{turn-added}
use Rattle.planner.proofs.Laws.Joining.{with-is, dests-longer, joins-is, longer-sound}

-- before VM v: the step of the VMs below it, its destinations and its sums, and what is still to be joined
pub record Directing (room : Room) (places dests : List ℕ) (v : ℕ) (sums : List Tally) : Type 0 where
  pub step : Step
  pub array : dests ≡ dests_from step
  pub sound : sound_step room (held room places) step ≡ true
  pub below : all (λ move. ltb move.vm v) step ≡ true
  pub outs : (u : ℕ) → has_move step u ≡ true → away room (held room places) u ≡ true
  pub left : joined_all room (held room places) step (from v (length room.vms - v)) ≡ direct_step room (held room places)
  pub size : length sums ≡ 256
  pub each : (d : ℕ) → d < 64 → get_or sums d empty_tally ≡ tally_at room d (all_running (first_moment room (held room places) step))
  pub memory-most : (d : ℕ) → (get_or sums d empty_tally).memory ≤ (length room.vms + v) * 33554432
  pub cpu-most : (d : ℕ) → (get_or sums d empty_tally).cpu ≤ (length room.vms + v) * 131072

-- ---- the start: nobody joined, all VMs at rest

-- a step without moves, and its array
no-moves : (room : Room) (places : List ℕ) → named room (held room places) 0 [] ≡ true
unfolding named
no-moves room places = refl

pub dests-none : dests_from [] ≡ replicate 256 64
unfolding dests_from
dests-none = refl

-- the sums at rest are the tallies of the step without moves
pub rest-tally : (room : Room) (places dests : List ℕ) (sums : List Tally) (d : ℕ) → dests ≡ replicate 256 64 → Loads room places dests sums → IsSound room → d < 64 →
    get_or sums d empty_tally ≡ tally_at room d (all_running (first_moment room (held room places) []))
rest-tally room places dests sums d e l w h =
    l.each d h ∙ ap (λ (x : List ℕ). tally_at room d (busy_from places x 0 (length room.vms))) (e ∙ sym dests-none) ∙
    ap (tally_at room d) (running-is room places [] w (no-moves room places))

pub directing-start : (room : Room) (places dests : List ℕ) (sums : List Tally) → dests ≡ replicate 256 64 → Loads room places dests sums → IsSound room →
    Directing room places dests 0 sums
unfolding direct_step all has_move some
directing-start room places dests sums e l w =
    let z : length room.vms + 0 ≡ length room.vms = omega arith in
    record {
      step = [];
      array = e ∙ sym dests-none;
      sound = empty-sound room (held room places);
      below = refl;
      outs = λ u h. absurd (false≢true h);
      left = rw (sub-zero (length room.vms));
      size = l.size;
      each = λ d h. rest-tally room places dests sums d e l w h;
      memory-most = λ d. rw z (l.memory-most d);
      cpu-most = λ d. rw z (l.cpu-most d);
    }

-- ---- one VM

pub left-cons : (n v : ℕ) → v < n → from v (n - v) ≡ v ∷ from (v + 1) (n - (v + 1))
unfolding from
left-cons n v h = let e : n - v ≡ suc (n - suc v) = omega arith in rw (e, add-one)

pub left-none : (n v : ℕ) → n ≤ v → from v (n - v) ≡ []
unfolding from
left-none n v h = let z : n - v ≡ 0 = omega arith in rw z

-- one sum replaced
module _ (sums : List Tally) (t : ℕ) (sum : Tally) (z : length sums ≡ 256) (h : t < 256) where
  sum-at : get_or (set sums t sum) t empty_tally ≡ sum
  sum-at = get_or-set_same sums t sum empty_tally (rw z h)

  sum-most : (f : Tally → ℕ) (more less : ℕ) → less ≤ more → f sum ≤ more → ((d : ℕ) → f (get_or sums d empty_tally) ≤ less) → (d : ℕ) → f (get_or (set sums t sum) d empty_tally) ≤ more
  sum-most f more less l m e d =
      by_cases (ℕ_discrete d t)
      (λ q. rw (ap (λ (k : ℕ). get_or (set sums t sum) k empty_tally) q ∙ sum-at) m)
      (λ q. rw (get_or-set_other sums t d sum empty_tally q) (let b = e d in omega arith))

module _ (room : Room) (places dests : List ℕ) (v d : ℕ) (sums : List Tally) (ok : Bool) (inv : Directing room places dests v sums) (w : IsSound room) (h : v < length room.vms)
    (e : d ≡ (vm_of room v).target) (o : ok ≡ joins_in room places dests (get_or sums d empty_tally) v d) where
  target_is : place_of (target_of room) v ≡ d
  target_is = target_at room v ∙ sym e

  -- a VM can be sent to its target
  aimed : aims room v d ≡ true
  unfolding aims
  aimed =
      ⊎_elim (λ x. rw (lt-ltb d (length room.nodes) x))
      (λ x. rw (target_is, eq-eqb d nowhere x) (or-true (ltb d (length room.nodes))))
      (place-either (length room.nodes) d (rw e (w.targets v h)))

  out-is : eqb (get_or places v 0) d ≡ false → away room (held room places) v ≡ true
  unfolding away
  out-is x = rw (target_is, held_at room places v h, x)

  tally-is : d < 64 → get_or sums d empty_tally ≡ tally_at room d (all_running (first_moment room (held room places) inv.step))
  tally-is l = inv.each d l

  -- off its place, that is off its target, the VM is in turn exactly if it is not held back
  turn_is : eqb (get_or places v 0) d ≡ false → in_turn room (held room places) (inv.step ++ (moving v d ∷ [])) ≡ not (held_back room (held room places) v)
  turn_is x = turn-added room (held room places) inv.step v d inv.outs (sound-turn room (held room places) inv.step inv.sound) (out-is x)

  -- the whole step is sound with the move exactly if the move joins
  test-is : sound_step room (held room places) (inv.step ++ (moving v d ∷ [])) ≡ ok
  test-is = longer-sound room places dests inv.step (get_or sums d empty_tally) v d w inv.array inv.sound tally-is h aimed turn_is inv.below ∙ sym o

  joined_is : joined room (held room places) inv.step v ≡ pick (not (eqb (place_of (held room places) v) d) && ok) (inv.step ++ (moving v d ∷ [])) inv.step
  unfolding joined away
  joined_is = rw (target_is, test-is)

  next-left : (step : Step) → joined room (held room places) inv.step v ≡ step →
      joined_all room (held room places) step (from (v + 1) (length room.vms - (v + 1))) ≡ direct_step room (held room places)
  unfolding joined_all
  next-left step q = rw (← q) (rw (left-cons (length room.vms) v h) at inv.left)

  below_more : all (λ move. ltb move.vm (v + 1)) inv.step ≡ true
  below_more =
      all_more (λ move. ltb move.vm v) (λ move. ltb move.vm (v + 1))
      (λ move q. let k = ltb-true move.vm v q in lt-ltb move.vm (v + 1) (omega arith)) inv.step inv.below

  -- it joins
  pub directing-goes : (need : Need) (sum : Tally) → NeedOf room v need → sum ≡ record { memory = (get_or sums d empty_tally).memory + need.memory; cpu = (get_or sums d empty_tally).cpu + need.cpu } →
      ok ≡ true → d < 256 → (to : ℕ) → d ≡ to → Directing room places (set dests v to) (v + 1) (set sums d sum)
  unfolding joins
  directing-goes need sum k z q small to same = record {
    step = inv.step ++ (moving v d ∷ []);
    array = ap₂ (λ (l : List ℕ) (i : ℕ). set l v i) inv.array (sym same) ∙ sym (dests-longer inv.step v d inv.below);
    sound = test-is ∙ q;
    below = all_snoc (λ move. ltb move.vm (v + 1)) inv.step (moving v d) ∙ and_both below_more (lt-ltb v (v + 1) (omega arith));
    outs = outs;
    left = next-left (inv.step ++ (moving v d ∷ [])) (joined_is ∙ rw (off, q));
    size = length-set sums d sum ∙ inv.size;
    each = each;
    memory-most =
        let a = inv.memory-most d in let b = k.memory-most in let x = ap (λ (r : Tally). r.memory) z in
        sum-most sums d sum inv.size small (λ (r : Tally). r.memory) ((length room.vms + (v + 1)) * 33554432) ((length room.vms + v) * 33554432) (omega arith) (omega arith) inv.memory-most;
    cpu-most =
        let a = inv.cpu-most d in let b = k.cpu-most in let x = ap (λ (r : Tally). r.cpu) z in
        sum-most sums d sum inv.size small (λ (r : Tally). r.cpu) ((length room.vms + (v + 1)) * 131072) ((length room.vms + v) * 131072) (omega arith) (omega arith) inv.cpu-most;
  }
    where
      j : Joins room (held room places) inv.step v d
      j = joins-tests room (held room places) inv.step v d
          (sym (joins-is room places dests inv.step (get_or sums d empty_tally) v d w inv.array inv.sound tally-is h aimed turn_is) ∙ sym o ∙ q)

      away-from : d ≡ place_of (held room places) v → ⊥
      away-from = eqb-false d (place_of (held room places) v) (not-true (eqb d (place_of (held room places) v)) j.off)

      off : eqb (place_of (held room places) v) d ≡ false
      off = ne_eqb (place_of (held room places) v) d (λ p. away-from (sym p))

      outs : (u : ℕ) → has_move (inv.step ++ (moving v d ∷ [])) u ≡ true → away room (held room places) u ≡ true
      outs u e = either (has_move inv.step u) (eqb v u) refl refl (sym (has-snoc inv.step (moving v d) u) ∙ e)
        where
          either : (a b : Bool) → has_move inv.step u ≡ a → eqb v u ≡ b → (a || b) ≡ true → away room (held room places) u ≡ true
          either true b x y e = inv.outs u x
          either false true x y e = rw (← eqb-true v u y) (out-is (rw (held_at room places v h) at off))
          either false false x y e = absurd (false≢true e)

      each : (i : ℕ) → i < 64 → get_or (set sums d sum) i empty_tally ≡ tally_at room i (all_running (first_moment room (held room places) (inv.step ++ (moving v d ∷ []))))
      each i l =
          by_cases (ℕ_discrete i d)
          (λ p. let low : d < 64 = rw (← p) l in
          rw p
          (get_or-set_same sums d sum empty_tally (rw inv.size (omega arith)) ∙
          with-is room v need (get_or sums d empty_tally) sum z k ∙
          ap (λ (r : Tally). with_vm r (vm_of room v)) (inv.each d low) ∙
          sym (tally-there room (held room places) inv.step v d inv.below j.vm-there away-from)))
          (λ p. get_or-set_other sums d i sum empty_tally p ∙ inv.each i l ∙
          sym (tally-else room (held room places) inv.step v d inv.below j.vm-there away-from i (λ m. p (sym m))))

  -- it does not
  pub directing-stays : ok ≡ false → Directing room places dests (v + 1) sums
  directing-stays q = record {
    step = inv.step;
    array = inv.array;
    sound = inv.sound;
    below = below_more;
    outs = inv.outs;
    left = next-left inv.step (joined_is ∙ rw (q, and-false (not (eqb (place_of (held room places) v) d))));
    size = inv.size;
    each = inv.each;
    memory-most = λ i. let a = inv.memory-most i in omega arith;
    cpu-most = λ i. let a = inv.cpu-most i in omega arith;
  }

pub directing-end : (room : Room) (places dests : List ℕ) (v : ℕ) (sums : List Tally) → Directing room places dests v sums → length room.vms ≤ v →
    dests ≡ dests_from (direct_step room (held room places))
unfolding joined_all from
directing-end room places dests v sums inv h =
    let z : length room.vms - v ≡ 0 = omega arith in
    inv.array ∙ ap dests_from (rw z at inv.left)
