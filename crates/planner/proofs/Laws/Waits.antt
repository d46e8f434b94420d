-- Laws on VMs that wait, in the planner: the marks of a placement, a step with one move more, and a pivot, which brings nobody to its target.
use Prim.Native.Nat.{ℕ, ◌<◌}
use mathlib.Core.Bool.{Bool, true, false, not, ◌&&◌, ◌||◌, false≢true, or-false}
use mathlib.Core.List.{List, [], ◌∷◌, ◌++◌}
use mathlib.Core.Logic.{by_cases}
use mathlib.Core.Path.{◌≡◌, refl, sym, ap, ap₂, ◌∙◌}
use native.Mathlib.Decide.{ℕ_discrete}
use native.Mathlib.Omega.{arith}
use lib.ListN.{length, get_or, set, replicate, length-set, length-replicate, get_or-replicate}
use lib.Seq.{get_or-set_same, get_or-set_other, take-set-lt}
use lib.Dec.{ltb, eqb}
use borrow.Author.Tests.{ltb-true, eqb-true, eq-eqb, ne_eqb, not-true}
use Rattle.records.specs.Base.{pick, all}
use Rattle.records.specs.Room.{Constraint, ban, fence, spread, latency, before, kind_of, first_of, second_of, Room, IsSound, vm_of, constraint_ok}
use Rattle.records.specs.Plan.{Step}
use Rattle.records.specs.declared.constraints.Kind.{Kind}
use Rattle.records.specs.declared.constraints.Kind.TheVariants.{Before}
use Rattle.records.proofs.Laws.Bools.{and_left, and_right, all_head, all_tail}
use Rattle.records.proofs.Laws.Walk.{pair-sound}
use Rattle.rules.specs.Moments.{Placement, place_of, target_of, at_target}
use Rattle.rules.specs.Orders.{some}
use Rattle.rules.specs.Rules.{has_move, respects, in_turn}
use Rattle.rules.specs.Inner.{held}
use Rattle.rules.proofs.Laws.Fit.{held_at}
use Rattle.rules.proofs.Laws.Kept.{some_same}
use Rattle.rules.proofs.Laws.Places.{target_at}
use Rattle.rules.proofs.Laws.Turn.{turn-none, has-snoc}
use Rattle.planner.specs.Picks.{away, moving}
use Rattle.planner.proofs.Laws.Pairs.{or-turn}
use Rattle.planner.specs.Inner.{holds_back, held_back, pair_held, part_held, all_held, Waiting}

-- ---- two VMs, and a constraint by its kind

module _ (room : Room) (places : List ℕ) (marks : List Bool) (first second : ℕ) where
  pub pair-marked : (t : ℕ) → t ≡ (vm_of room first).target → (get_or places first 0 ≡ t → ⊥) → set marks second true ≡ pair_held room places marks first second
  unfolding pair_held
  pair-marked t e n = rw (ne_eqb (get_or places first 0) (vm_of room first).target (λ q. n (q ∙ sym e)))

  pub pair_left : (t : ℕ) → t ≡ (vm_of room first).target → get_or places first 0 ≡ t → marks ≡ pair_held room places marks first second
  unfolding pair_held
  pair_left t e n = rw (eq-eqb (get_or places first 0) (vm_of room first).target (n ∙ e))

pub part-before : (room : Room) (places : List ℕ) (marks after : List Bool) (first second : ℕ) (k : Constraint) (kind : Kind) → kind ≡ kind_of k →
    after ≡ pair_held room places marks first second → first ≡ first_of k → second ≡ second_of k → kind ≡ Before → after ≡ part_held room places marks k
unfolding part_held kind_of first_of second_of
part-before room places marks after first second (ban xs nodes) kind a b c d e = let z : ◌≡◌ {A = ℕ} 0 1 = cc in absurd (omega arith)
part-before room places marks after first second (fence xs nodes) kind a b c d e = let z : ◌≡◌ {A = ℕ} 0 1 = cc in absurd (omega arith)
part-before room places marks after first second (spread xs) kind a b c d e = let z : ◌≡◌ {A = ℕ} 0 1 = cc in absurd (omega arith)
part-before room places marks after first second (latency xs groups) kind a b c d e = let z : ◌≡◌ {A = ℕ} 0 1 = cc in absurd (omega arith)
part-before room places marks after first second (before u v) kind a b c d e = b ∙ ap₂ (pair_held room places marks) c d

-- the first of two VMs is there
pub first-below : (room : Room) (k : Constraint) (kind : Kind) (first : ℕ) → constraint_ok (length room.vms) (length room.nodes) k ≡ true → kind ≡ kind_of k → kind ≡ Before → first ≡ first_of k →
    first < length room.vms
first-below room k kind first o a b e = rw e (pair-sound (length room.vms) (length room.nodes) k o (sym a ∙ b)).0

pub part-other : (room : Room) (places : List ℕ) (marks : List Bool) (k : Constraint) (kind : Kind) → kind ≡ kind_of k → (kind ≡ Before → ⊥) → marks ≡ part_held room places marks k
unfolding part_held kind_of
part-other room places marks (ban vms nodes) kind a n = refl
part-other room places marks (fence vms nodes) kind a n = refl
part-other room places marks (spread vms) kind a n = refl
part-other room places marks (latency vms groups) kind a n = refl
part-other room places marks (before first second) kind a n = absurd (n a)

-- ---- the marks say what the definition says

module _ (room : Room) (places : List ℕ) (w : IsSound room) (v : ℕ) where
  part_length : (marks : List Bool) (k : Constraint) → length (part_held room places marks k) ≡ length marks
  unfolding part_held pair_held
  part_length marks (ban vms nodes) = refl
  part_length marks (fence vms nodes) = refl
  part_length marks (spread vms) = refl
  part_length marks (latency vms groups) = refl
  part_length marks (before first second) = go (eqb (get_or places first 0) (vm_of room first).target)
    where
      go : (b : Bool) → length (pick b marks (set marks second true)) ≡ length marks
      go true = refl
      go false = length-set marks second true

  part-at : (marks : List Bool) (k : Constraint) → length marks ≡ 256 → constraint_ok (length room.vms) (length room.nodes) k ≡ true →
      get_or (part_held room places marks k) v false ≡ (holds_back room (held room places) v k || get_or marks v false)
  unfolding part_held pair_held holds_back constraint_ok
  part-at marks (ban vms nodes) z c = refl
  part-at marks (fence vms nodes) z c = refl
  part-at marks (spread vms) z c = refl
  part-at marks (latency vms groups) z c = refl
  part-at marks (before first second) z c =
      let m = w.vms-most in
      let f = ltb-true first (length room.vms) (and_left (ltb first (length room.vms)) _ c) in
      let g = ltb-true second (length room.vms) (and_left (ltb second (length room.vms)) _ (and_right (ltb first (length room.vms)) _ c)) in
      rw (held_at room places first f, target_at room first) (go (eqb (get_or places first 0) (vm_of room first).target) (omega arith))
    where
      off : (a x : Bool) → x ≡ ((a && false) || x)
      off true x = refl
      off false x = refl

      go : (b : Bool) → second < 256 → get_or (pick b marks (set marks second true)) v false ≡ ((eqb second v && not b) || get_or marks v false)
      go true h = off (eqb second v) (get_or marks v false)
      go false h =
          by_cases (ℕ_discrete second v)
          (λ e. rw (eq-eqb second v e) (ap (λ (i : ℕ). get_or (set marks i true) v false) e ∙ get_or-set_same marks v true false (rw z (omega arith))))
          (λ e. rw (ne_eqb second v e) (get_or-set_other marks second v true false (λ q. e (sym q))))

  all-at : (marks : List Bool) (ks : List Constraint) → length marks ≡ 256 → all (constraint_ok (length room.vms) (length room.nodes)) ks ≡ true →
      get_or (all_held room places marks ks) v false ≡ (some (holds_back room (held room places) v) ks || get_or marks v false)
  unfolding all_held some
  all-at marks [] z c = refl
  all-at marks (k ∷ ks) z c =
      all-at (part_held room places marks k) ks (part_length marks k ∙ z) (all_tail (constraint_ok (length room.vms) (length room.nodes)) k ks c) ∙
      rw (part-at marks k z (all_head (constraint_ok (length room.vms) (length room.nodes)) k ks c))
      (or-turn (holds_back room (held room places) v k) (some (holds_back room (held room places) v) ks) (get_or marks v false))

-- ---- the walk over the constraints

pub waits-more : (room : Room) (places : List ℕ) (marks after result : List Bool) (k : Constraint) (ks rest : List Constraint) → ks ≡ k ∷ rest → after ≡ part_held room places marks k →
    all_held room places marks ks ≡ result → all_held room places after rest ≡ result
unfolding all_held
waits-more room places marks after result k ks rest e f inv = rw f (ap (all_held room places marks) (sym e) ∙ inv)

-- each constraint that is left is in range
pub ok-here : (v n : ℕ) (k : Constraint) (ks rest : List Constraint) → ks ≡ k ∷ rest → all (constraint_ok v n) ks ≡ true → constraint_ok v n k ≡ true
ok-here v n k ks rest e a = all_head (constraint_ok v n) k rest (rw e at a)

pub ok-later : (v n : ℕ) (k : Constraint) (ks rest : List Constraint) → ks ≡ k ∷ rest → all (constraint_ok v n) ks ≡ true → all (constraint_ok v n) rest ≡ true
ok-later v n k ks rest e a = all_tail (constraint_ok v n) k rest (rw e at a)

pub waits_end : (room : Room) (places : List ℕ) (marks : List Bool) (ks : List Constraint) → IsSound room → all_held room places marks ks ≡ all_held room places (replicate 256 false) room.constraints → ks ≡ [] →
    Waiting room places marks
unfolding held_back all_held
waits_end room places marks ks w inv h = record {
  each = λ v l.
      let m = w.vms-most in
      let same : marks ≡ all_held room places (replicate 256 false) room.constraints = rw h at inv in
      ap (λ (l : List Bool). get_or l v false) same ∙ all-at room places w v (replicate 256 false) room.constraints (length-replicate {A = Bool} 256 false) w.well-formed ∙
      rw (get_or-replicate {A = Bool} 256 v false false (omega arith)) (or-false (some (holds_back room (held room places) v) room.constraints));
}

-- ---- what a mark tells

module _ (room : Room) (places : List ℕ) (marks : List Bool) (v : ℕ) (m : Waiting room places marks) (h : v < length room.vms) where
  pub marked-waits : get_or marks v false ≡ true → held_back room (held room places) v ≡ true
  marked-waits n = sym (m.each v h) ∙ n

  pub unmarked-free : get_or marks v false ≡ false → held_back room (held room places) v ≡ false
  unmarked-free z = sym (m.each v h) ∙ z

-- ---- a step with one move more is in turn exactly if the VM is not held back

-- one constraint, by what the step moves and where the first is: `old` and `new` tell whether the step and the new move move the second, `beside` and
-- `itself` whether they move the first
turn-pair : (old new home beside itself : Bool) → pick old (home && not beside) true ≡ true → (beside ≡ true → home ≡ false) →
    (itself ≡ true → (old || new) ≡ true → home ≡ false) → pick (old || new) (home && not (beside || itself)) true ≡ not (new && not home)
turn-pair true new true true itself r b i = absurd (false≢true r)
turn-pair true new true false true r b i = absurd (false≢true (sym (i refl refl)))
turn-pair true true true false false r b i = refl
turn-pair true false true false false r b i = refl
turn-pair true new false beside itself r b i = absurd (false≢true r)
turn-pair false true true true itself r b i = absurd (false≢true (sym (b refl)))
turn-pair false true true false true r b i = absurd (false≢true (sym (i refl refl)))
turn-pair false true true false false r b i = refl
turn-pair false true false beside itself r b i = refl
turn-pair false false home beside itself r b i = refl

and-not : (a b : Bool) → (not a && not b) ≡ not (a || b)
and-not true b = refl
and-not false b = refl

eqb-turn : (a b : ℕ) → eqb a b ≡ eqb b a
eqb-turn a b = by_cases (ℕ_discrete a b) (λ e. eq-eqb a b e ∙ sym (eq-eqb b a (sym e))) (λ e. ne_eqb a b e ∙ sym (ne_eqb b a (λ q. e (sym q))))

module _ (room : Room) (places : Placement) (step : Step) (v d : ℕ) (outs : (u : ℕ) → has_move step u ≡ true → away room places u ≡ true) where
  -- a VM of the step, being off its target, is no first that is there
  beside-off : (first : ℕ) → has_move step first ≡ true → at_target room places first ≡ false
  unfolding away
  beside-off first h = not-true (at_target room places first) (outs first h)

  one_more : (k : Constraint) → (kind_of k ≡ Before → v ≡ first_of k → (has_move step (second_of k) || eqb v (second_of k)) ≡ true → at_target room places (first_of k) ≡ false) →
      respects room places step k ≡ true → respects room places (step ++ (moving v d ∷ [])) k ≡ not (holds_back room places v k)
  unfolding respects holds_back kind_of first_of second_of
  one_more (ban vms nodes) i e = refl
  one_more (fence vms nodes) i e = refl
  one_more (spread vms) i e = refl
  one_more (latency vms groups) i e = refl
  one_more (before first second) i e =
      rw (has-snoc step (moving v d) first, has-snoc step (moving v d) second, eqb-turn second v)
      (turn-pair (has_move step second) (eqb v second) (at_target room places first) (has_move step first) (eqb v first) e (beside-off first)
      (λ q r. i refl (eqb-true v first q) r))

  each_more : (C : Constraint → Bool) →
      ((k : Constraint) → C k ≡ true → kind_of k ≡ Before → v ≡ first_of k → (has_move step (second_of k) || eqb v (second_of k)) ≡ true → at_target room places (first_of k) ≡ false) →
      (ks : List Constraint) → all C ks ≡ true → all (respects room places step) ks ≡ true →
      all (respects room places (step ++ (moving v d ∷ []))) ks ≡ not (some (holds_back room places v) ks)
  unfolding all some
  each_more C i [] c e = refl
  each_more C i (k ∷ ks) c e =
      ap₂ (λ (a b : Bool). a && b) (one_more k (i k (all_head C k ks c)) (all_head (respects room places step) k ks e))
      (each_more C i ks (all_tail C k ks c) (all_tail (respects room places step) k ks e)) ∙
      and-not (holds_back room places v k) (some (holds_back room places v) ks)

  -- a VM out of place: whatever order there is between the moves of the step, it is not touched, since a first that is waited for is on its target
  -- and so not the VM; what is left is whether the VM itself waits
  pub turn-added : in_turn room places step ≡ true → away room places v ≡ true → in_turn room places (step ++ (moving v d ∷ [])) ≡ not (held_back room places v)
  unfolding in_turn held_back away
  turn-added e a =
      each_more (respects room places step) (λ k c b q r. ap (at_target room places) (sym q) ∙ not-true (at_target room places v) a) room.constraints e e

-- a VM alone, out of place or not: it does not come before itself
pub turn-lone : (room : Room) (places : Placement) (v d : ℕ) → IsSound room → in_turn room places (moving v d ∷ []) ≡ not (held_back room places v)
unfolding in_turn held_back has_move some
turn-lone room places v d w =
    each_more room places [] v d (λ u h. absurd (false≢true h)) (constraint_ok (length room.vms) (length room.nodes))
    (λ k c b q r. absurd ((pair-sound (length room.vms) (length room.nodes) k c b).2 (sym q ∙ eqb-true v (second_of k) r))) room.constraints w.well-formed
    (turn-none room places)

-- ---- a pivot brings nobody to its target

pub held-set : (room : Room) (places : List ℕ) (v d : ℕ) → v < length room.vms → held room (set places v d) ≡ set (held room places) v d
unfolding held
held-set room places v d h = take-set-lt (length room.vms) places v d h

-- two placements with the same VMs on their targets hold the same VMs back
module _ (room : Room) (p q : Placement) (same : (u : ℕ) → at_target room p u ≡ at_target room q u) (v : ℕ) where
  holds_same : (k : Constraint) → holds_back room p v k ≡ holds_back room q v k
  unfolding holds_back
  holds_same (ban vms nodes) = refl
  holds_same (fence vms nodes) = refl
  holds_same (spread vms) = refl
  holds_same (latency vms groups) = refl
  holds_same (before first second) = ap (λ (b : Bool). eqb second v && not b) (same first)

  held_same : held_back room p v ≡ held_back room q v
  unfolding held_back
  held_same = some_same (holds_back room p v) (holds_back room q v) holds_same room.constraints

-- the marks of a placement are those behind a pivot from it: the VM that steps aside is off its target before and after, everybody else is where it was
pub waits-aside : (room : Room) (places : List ℕ) (marks : List Bool) (v d : ℕ) → Waiting room places marks → length places ≡ 256 → v < length room.vms → IsSound room →
    away room (held room places) v ≡ true → (d ≡ (vm_of room v).target → ⊥) → Waiting room (set places v d) marks
unfolding away
waits-aside room places marks v d m z h w a n = record {
  each = λ u l. m.each u l ∙ held_same room (held room places) (held room (set places v d)) same u;
}
  where
    off : at_target room (held room places) v ≡ false
    off = not-true (at_target room (held room places) v) a

    there : place_of (held room (set places v d)) v ≡ d
    there = held_at room (set places v d) v h ∙ get_or-set_same places v d 0 (rw z (let k = w.vms-most in omega arith))

    elsewhere : (u : ℕ) → (u ≡ v → ⊥) → place_of (held room (set places v d)) u ≡ place_of (held room places) u
    elsewhere u x = ap (λ (l : List ℕ). get_or l u 0) (held-set room places v d h) ∙ get_or-set_other (held room places) v u d 0 x

    same : (u : ℕ) → at_target room (held room places) u ≡ at_target room (held room (set places v d)) u
    same u =
        by_cases (ℕ_discrete u v)
        (λ x. rw x (off ∙ sym (rw there (ne_eqb d (place_of (target_of room) v) (λ q. n (q ∙ target_at room v))))))
        (λ x. ap (λ (p : ℕ). eqb p (place_of (target_of room) u)) (sym (elsewhere u x)))
