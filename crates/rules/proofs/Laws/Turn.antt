-- Laws on VMs that wait for others: what a step in turn says of them, and that a step with fewer moves is in turn too, where whoever the whole does not move is
-- where it was.
use Prim.Native.Nat.{ℕ}
use mathlib.Core.Bool.{Bool, true, false, not, ◌&&◌, ◌||◌, false≢true, or-false, or_assoc}
use mathlib.Core.List.{List, [], ◌∷◌, ◌++◌}
use mathlib.Core.Path.{◌≡◌, refl, sym, ap, ◌∙◌}
use lib.ListN.{set}
use lib.Seq.{get_or-set_other}
use lib.Dec.{eqb}
use borrow.Author.Tests.{eqb-true, eqb-false, not-true}
use Rattle.records.specs.Base.{pick, all}
use Rattle.records.specs.Room.{Constraint, ban, fence, spread, latency, before, Room}
use Rattle.records.specs.Plan.{Move, Step}
use Rattle.records.proofs.Laws.Bools.{and_left, and_right, and_both, all_more}
use Rattle.rules.specs.Moments.{Placement, place_of, at_target, after, staying, waiting, phase_of}
use Rattle.rules.specs.Orders.{some}
use Rattle.rules.specs.Rules.{has_move, respects, in_turn, puts, waits_for}

-- ---- the moves of a step

-- a VM without a move stays, and is where it was
pub still-phase : (step : Step) (v : ℕ) → has_move step v ≡ false → phase_of step v ≡ staying
unfolding has_move some phase_of
still-phase [] v e = refl
still-phase (move ∷ moves) v e = go (eqb move.vm v) e (still-phase moves v)
  where
    go : (b : Bool) → (b || has_move moves v) ≡ false → (has_move moves v ≡ false → phase_of moves v ≡ staying) → pick b (waiting move.to) (phase_of moves v) ≡ staying
    go true e more = absurd (false≢true (sym e))
    go false e more = more e

pub still-place : (places : Placement) (step : Step) (v : ℕ) → has_move step v ≡ false → place_of (after places step) v ≡ place_of places v
unfolding has_move some after
still-place places [] v e = refl
still-place places (move ∷ moves) v e = go (eqb move.vm v) refl e (still-place (set places move.vm move.to) moves v)
  where
    go : (b : Bool) → eqb move.vm v ≡ b → (b || has_move moves v) ≡ false →
        (has_move moves v ≡ false → place_of (after (set places move.vm move.to) moves) v ≡ place_of (set places move.vm move.to) v) →
        place_of (after (set places move.vm move.to) moves) v ≡ place_of places v
    go true q e more = absurd (false≢true (sym e))
    go false q e more =
        more e ∙ get_or-set_other places move.vm v move.to 0 (λ x. eqb-false move.vm v q (sym x))

-- ---- a step in turn

pub turn-none : (room : Room) (places : Placement) → in_turn room places [] ≡ true
unfolding in_turn respects has_move some all
turn-none room places = go room.constraints
  where
    one : (k : Constraint) → respects room places [] k ≡ true
    one (ban vms nodes) = refl
    one (fence vms nodes) = refl
    one (spread vms) = refl
    one (latency vms groups) = refl
    one (before first second) = refl

    go : (ks : List Constraint) → all (respects room places []) ks ≡ true
    go [] = refl
    go (k ∷ ks) = and_both (one k) (go ks)

module _ (room : Room) (places : Placement) (step : Step) (first second : ℕ) where
  -- whoever it waits for is on its target when the step starts, and has no move in the step
  pub record Waited : Type 0 where
    pub home : at_target room places first ≡ true
    pub still : has_move step first ≡ false

  waited-one : (k : Constraint) → puts first second k ≡ true → respects room places step k ≡ true → has_move step second ≡ true → Waited
  unfolding puts respects
  waited-one (ban vms nodes) p e h = absurd (false≢true p)
  waited-one (fence vms nodes) p e h = absurd (false≢true p)
  waited-one (spread vms) p e h = absurd (false≢true p)
  waited-one (latency vms groups) p e h = absurd (false≢true p)
  waited-one (before a b) p e h =
      let x = eqb-true a first (and_left (eqb a first) (eqb b second) p) in
      let y = eqb-true b second (and_right (eqb a first) (eqb b second) p) in
      let t : (at_target room places first && not (has_move step first)) ≡ true = rw (x, y, h) at e in
      record { home = and_left (at_target room places first) _ t; still = not-true (has_move step first) (and_right (at_target room places first) _ t) }

  waited-some : (ks : List Constraint) → some (puts first second) ks ≡ true → all (respects room places step) ks ≡ true → has_move step second ≡ true → Waited
  unfolding some all
  waited-some [] p e h = absurd (false≢true p)
  waited-some (k ∷ ks) p e h = go (puts first second k) refl p (λ q. waited-some ks q (and_right (respects room places step k) _ e) h)
    where
      go : (b : Bool) → puts first second k ≡ b → (b || some (puts first second) ks) ≡ true → (some (puts first second) ks ≡ true → Waited) → Waited
      go true q p more = waited-one k q (and_left (respects room places step k) _ e) h
      go false q p more = more p

  pub waited : in_turn room places step ≡ true → waits_for room second first ≡ true → has_move step second ≡ true → Waited
  unfolding in_turn waits_for
  waited e p h = waited-some room.constraints p e h

-- ---- a part of a step in turn

-- a step with fewer moves, at a placement where whoever the whole does not move is where it was
module _ (room : Room) (places next : Placement) (part whole : Step) (fewer : (u : ℕ) → has_move part u ≡ true → has_move whole u ≡ true)
    (same : (u : ℕ) → has_move whole u ≡ false → place_of next u ≡ place_of places u) where
  respects-part : (k : Constraint) → respects room places whole k ≡ true → respects room next part k ≡ true
  unfolding respects
  respects-part (ban vms nodes) e = refl
  respects-part (fence vms nodes) e = refl
  respects-part (spread vms) e = refl
  respects-part (latency vms groups) e = refl
  respects-part (before first second) e = go (has_move part second) refl
    where
      still : (x : Bool) → has_move part first ≡ x → has_move whole first ≡ false → not x ≡ true
      still true y s = absurd (false≢true (sym s ∙ fewer first y))
      still false y s = refl

      go : (b : Bool) → has_move part second ≡ b → pick b (at_target room next first && not (has_move part first)) true ≡ true
      go false q = refl
      go true q =
          let t : (at_target room places first && not (has_move whole first)) ≡ true = rw (fewer second q) at e in
          let s = not-true (has_move whole first) (and_right (at_target room places first) _ t) in
          and_both {a = at_target room next first} {b = not (has_move part first)} (rw (same first s) (and_left (at_target room places first) _ t)) (still (has_move part first) refl s)

  pub turn-less : in_turn room places whole ≡ true → in_turn room next part ≡ true
  unfolding in_turn
  turn-less e = all_more (respects room places whole) (respects room next part) respects-part room.constraints e

-- a placement at which whoever is on its target at another is there too keeps a step in turn
pub turn-homes : (room : Room) (p q : Placement) (step : Step) → ((u : ℕ) → at_target room p u ≡ true → at_target room q u ≡ true) →
    in_turn room p step ≡ true → in_turn room q step ≡ true
unfolding in_turn respects
turn-homes room p q step homes e = all_more (respects room p step) (respects room q step) one room.constraints e
  where
    pair : (first : ℕ) (b : Bool) → pick b (at_target room p first && not (has_move step first)) true ≡ true →
        pick b (at_target room q first && not (has_move step first)) true ≡ true
    pair first false e = refl
    pair first true e =
        and_both {a = at_target room q first} {b = not (has_move step first)} (homes first (and_left (at_target room p first) _ e)) (and_right (at_target room p first) _ e)

    one : (k : Constraint) → respects room p step k ≡ true → respects room q step k ≡ true
    one (ban vms nodes) e = refl
    one (fence vms nodes) e = refl
    one (spread vms) e = refl
    one (latency vms groups) e = refl
    one (before first second) e = pair first (has_move step second) e

-- the moves of a step with one move more
pub has-snoc : (step : Step) (move : Move) (v : ℕ) → has_move (step ++ (move ∷ [])) v ≡ (has_move step v || eqb move.vm v)
unfolding has_move some
has-snoc [] move v = or-false (eqb move.vm v)
has-snoc (m ∷ ms) move v = ap (λ (b : Bool). eqb m.vm v || b) (has-snoc ms move v) ∙ sym (or_assoc (eqb m.vm v) (has_move ms v) (eqb move.vm v))
