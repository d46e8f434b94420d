-- Laws on one step: at each moment with which the marks agree, every VM counts on the place that the stop leaves it at.
use Prim.Native.Nat.{ℕ, zero, suc, ◌+◌, ◌≤◌, ◌<◌}
use mathlib.Core.Bool.{Bool, true, false, ◌&&◌, or-true}
use mathlib.Core.List.{List, [], ◌∷◌}
use mathlib.Core.Logic.{◌⊎◌, inl, inr, ⊎_elim, by_cases}
use mathlib.Core.Path.{◌≡◌, refl, sym, ap, ◌∙◌}
use native.Mathlib.Decide.{ℕ_discrete}
use native.Mathlib.Omega.{arith}
use lib.ListN.{length, get_or}
use lib.Dec.{eqb}
use borrow.Author.Tests.{eq-eqb, eqb-true}
use Rattle.records.specs.Base.{pick}
use Rattle.records.specs.Room.{Room}
use Rattle.records.specs.Plan.{Move, Step, move_of}
use Rattle.rules.specs.Moments.{Placement, place_of, after, Phase, staying, waiting, running, ended, Cell, cell, Moment, number_of, counts_on, phase_of, cells_from, first_moment}
use Rattle.rules.specs.Orders.{some, stands_on}
use Rattle.rules.specs.Rules.{named}
use Rattle.rules.proofs.Laws.Orders.{never, named-rest, Under, empty, both, Onward, none, same, runs, over, stops, goal, after-goal}
use Rattle.rules.proofs.Laws.Sound.{named-part, phase-part, phase-below}
use Rattle.stop.specs.Stops.{ended_moves}
use Rattle.stop.specs.Promises.{is_waiting, has_ended, waits_at, ended_at, Agree}
use Rattle.stop.proofs.Laws.Before.{ended-part}

-- ---- cells numbered from v on, each of which counts on a place

pub data Standing (left : Placement) : ℕ → ℕ → Moment → Type 0 where
  nobody : {v : ℕ} → Standing left v 0 []
  one : {v n p : ℕ} {x : Phase} {cs : Moment} → counts_on (place_of left v) (cell v p x) ≡ true → Standing left (suc v) n cs → Standing left v (suc n) (cell v p x ∷ cs)

pub standing-under : {left : Placement} {v n : ℕ} {cs : Moment} (d : ℕ) → Standing left v n cs → Under d (cells_from left [] v n) cs
unfolding cells_from counts_on phase_of
standing-under d nobody = empty
standing-under {left} d (one {v = v} {p = p} {x = x} c s) =
    both (λ e. ap (λ (k : ℕ). counts_on k (cell v p x)) (sym (eqb-true (place_of left v) d e)) ∙ c) (standing-under d s)

pub standing-there : {left : Placement} {v n : ℕ} {cs : Moment} (u : ℕ) → Standing left v n cs → v ≤ u → u < v + n → stands_on cs u (place_of left u) ≡ true
unfolding stands_on some
standing-there u nobody l h = absurd (omega arith)
standing-there {left} u (one {v = v} {p = p} {x = x} c s) l h =
    by_cases (ℕ_discrete v u)
    (λ e. let d : counts_on (place_of left u) (cell v p x) ≡ true = ap (λ (k : ℕ). counts_on (place_of left k) (cell v p x)) (sym e) ∙ c in rw (eq-eqb v u e, d))
    (λ e. rw (standing-there u s (omega arith) (omega arith)) (or-true (eqb v u && counts_on (place_of left u) (cell v p x))))

-- ---- the phases that a step gives

pub phase-kind : (step : Step) (v : ℕ) → (phase_of step v ≡ staying) ⊎ ((to : ℕ) × (phase_of step v ≡ waiting to))
unfolding phase_of
phase-kind [] v = inl refl
phase-kind (move ∷ moves) v = go (eqb move.vm v) (phase-kind moves v)
  where
    go : (b : Bool) → (phase_of moves v ≡ staying) ⊎ ((to : ℕ) × (phase_of moves v ≡ waiting to)) →
        (pick b (waiting move.to) (phase_of moves v) ≡ staying) ⊎ ((to : ℕ) × (pick b (waiting move.to) (phase_of moves v) ≡ waiting to))
    go true r = inr (move.to, refl)
    go false r = r

waiting-is : (x : Phase) (to : ℕ) → x ≡ staying → x ≡ waiting to → ⊥
waiting-is x to e f = never (cc)

-- the mark of the VM that waits
record MarkOf (step : Step) (marks : List ℕ) (v to : ℕ) : Type 0 where
  index : ℕ
  there : index < length step
  vm-is : (move_of step index).vm ≡ v
  phase-is : phase_of (ended_moves step marks) v ≡ pick (eqb (get_or marks index 0) 1) (waiting to) staying

-- one move more in front
module _ (move : Move) (ended : Step) (v to : ℕ) where
  head-phase : (b : Bool) → eqb move.vm v ≡ true → waiting move.to ≡ waiting to → phase_of ended v ≡ staying → phase_of (pick b (move ∷ ended) ended) v ≡ pick b (waiting to) staying
  unfolding phase_of
  head-phase true q f s = rw q f
  head-phase false q f s = s

  tail-phase : (b : Bool) → eqb move.vm v ≡ false → phase_of (pick b (move ∷ ended) ended) v ≡ phase_of ended v
  unfolding phase_of
  tail-phase true q = rw q
  tail-phase false q = refl

mark_of : (room : Room) (start : Placement) (least : ℕ) (step : Step) (marks : List ℕ) (v to : ℕ) → named room start least step ≡ true → length marks ≡ length step →
    phase_of step v ≡ waiting to → MarkOf step marks v to
unfolding phase_of ended_moves move_of
mark_of room start least [] marks v to n l e = absurd (waiting-is staying to refl e)
mark_of room start least (move ∷ moves) [] v to n l e = absurd (omega arith)
mark_of room start least (move ∷ moves) (mark ∷ marks) v to n l e =
    go (eqb move.vm v) refl e (λ f. mark_of room start (suc move.vm) moves marks v to rest (omega arith) f)
  where
    rest : named room start (suc move.vm) moves ≡ true
    rest = named-rest room start least move moves n

    above : named room start (suc move.vm) (ended_moves moves marks) ≡ true
    above = named-part room start (suc move.vm) (suc move.vm) (ended-part moves marks) (omega arith) rest

    go : (b : Bool) → eqb move.vm v ≡ b → pick b (waiting move.to) (phase_of moves v) ≡ waiting to → (phase_of moves v ≡ waiting to → MarkOf moves marks v to) →
        MarkOf (move ∷ moves) (mark ∷ marks) v to
    go true q f more =
        let k = eqb-true move.vm v q in
        record {
          index = 0;
          there = omega arith;
          vm-is = k;
          phase-is = head-phase move (ended_moves moves marks) v to (eqb mark 1) q f (phase-below room start (suc move.vm) (ended_moves moves marks) v above (omega arith));
        }
    go false q f more =
        let r = more f in
        let t = r.there in
        record { index = suc r.index; there = omega arith; vm-is = r.vm-is; phase-is = tail-phase move (ended_moves moves marks) v to (eqb mark 1) q ∙ r.phase-is }

-- ---- where a stop leaves each VM

module _ (room : Room) (start : Placement) (step : Step) (marks : List ℕ) (n : named room start 0 step ≡ true) (l : length start ≡ length room.vms)
    (m : length marks ≡ length step) where
  abbrev left : Placement
  left = after start (ended_moves step marks)

  left-goal : (v : ℕ) → place_of left v ≡ goal (place_of start v) (phase_of (ended_moves step marks) v)
  left-goal v = after-goal room start start 0 (ended_moves step marks) v (named-part room start 0 0 (ended-part step marks) (omega arith) n) l

  -- a VM without a move stays, another is at its place or on its destination
  left-still : (v : ℕ) → phase_of step v ≡ staying → place_of left v ≡ place_of start v
  unfolding goal
  left-still v e =
      left-goal v ∙ ap (goal (place_of start v)) (⊎_elim (λ p. p) (λ p. p ∙ e) (phase-part room start 0 (ended-part step marks) v n))

  left-either : (v to : ℕ) → phase_of step v ≡ waiting to → (place_of left v ≡ place_of start v) ⊎ (place_of left v ≡ to)
  unfolding goal
  left-either v to e =
      ⊎_elim (λ p. inl (left-goal v ∙ ap (goal (place_of start v)) p)) (λ p. inr (left-goal v ∙ ap (goal (place_of start v)) (p ∙ e)))
      (phase-part room start 0 (ended-part step marks) v n)

  -- which of the two, its mark says
  module _ (cs : Moment) (a : Agree cs step marks) (v to : ℕ) (e : phase_of step v ≡ waiting to) where
    at_mark : (x : ℕ) (i : ℕ) → phase_of (ended_moves step marks) v ≡ pick (eqb (get_or marks i 0) 1) (waiting to) staying → get_or marks i 0 ≡ x →
        place_of left v ≡ goal (place_of start v) (pick (eqb x 1) (waiting to) staying)
    at_mark x i p q = left-goal v ∙ ap (goal (place_of start v)) (p ∙ ap (λ (k : ℕ). pick (eqb k 1) (waiting to) staying) q)

    left_ended : ended_at cs v ≡ true → place_of left v ≡ to
    unfolding goal
    left_ended h =
        let r = mark_of room start 0 step marks v to n m e in
        at_mark 1 r.index r.phase-is (a.ended-marked r.index r.there (ap (ended_at cs) r.vm-is ∙ h))

    left-waiting : waits_at cs v ≡ true → place_of left v ≡ place_of start v
    unfolding goal
    left-waiting h =
        let r = mark_of room start 0 step marks v to n m e in
        at_mark 0 r.index r.phase-is (a.waiting-unmarked r.index r.there (ap (waits_at cs) r.vm-is ∙ h))

  -- so at the moment every VM counts there
  abbrev Ended : Moment → Type 0
  Ended cs = (u to : ℕ) → phase_of step u ≡ waiting to → ended_at cs u ≡ true → place_of left u ≡ to

  abbrev Waits : Moment → Type 0
  Waits cs = (u to : ℕ) → phase_of step u ≡ waiting to → waits_at cs u ≡ true → place_of left u ≡ place_of start u

  counts-still : (v p : ℕ) (x : Phase) → place_of left v ≡ p → (x ≡ staying) ⊎ ((to : ℕ) × (x ≡ waiting to)) → counts_on (place_of left v) (cell v p x) ≡ true
  unfolding counts_on
  counts-still v p x e (inl q) = rw q (eq-eqb p (place_of left v) (sym e))
  counts-still v p x e (inr (to, q)) = rw q (eq-eqb p (place_of left v) (sym e))

  counts-running : (v p d : ℕ) → (place_of left v ≡ p) ⊎ (place_of left v ≡ d) → counts_on (place_of left v) (cell v p (running d)) ≡ true
  unfolding counts_on
  counts-running v p d (inl h) = rw (eq-eqb p (place_of left v) (sym h))
  counts-running v p d (inr h) = rw (eq-eqb d (place_of left v) (sym h)) (or-true (eqb p (place_of left v)))

  counts-ended : (v p d : ℕ) → place_of left v ≡ d → counts_on (place_of left v) (cell v p (ended d)) ≡ true
  unfolding counts_on
  counts-ended v p d h = eq-eqb d (place_of left v) (sym h)

  ended-tail : (c : Cell) (cs : Moment) → Ended (c ∷ cs) → Ended cs
  unfolding ended_at some
  ended-tail c cs h u to e t = h u to e (rw t (or-true (eqb (number_of c) u && has_ended c)))

  waits-tail : (c : Cell) (cs : Moment) → Waits (c ∷ cs) → Waits cs
  unfolding waits_at some
  waits-tail c cs h u to e t = h u to e (rw t (or-true (eqb (number_of c) u && is_waiting c)))

  waits-head : (v p d : ℕ) (cs : Moment) → waits_at (cell v p (waiting d) ∷ cs) v ≡ true
  unfolding waits_at some is_waiting
  waits-head v p d cs = rw (eq-eqb v v refl)

  ended-head : (v p d : ℕ) (cs : Moment) → ended_at (cell v p (ended d) ∷ cs) v ≡ true
  unfolding ended_at some has_ended
  ended-head v p d cs = rw (eq-eqb v v refl)

  standing : {ws cs : Moment} → Onward ws cs → (v k : ℕ) → ws ≡ cells_from start step v k → Ended cs → Waits cs → Standing left v k cs
  unfolding cells_from
  standing none v zero e f w = nobody
  standing none v (suc k) e f w = never (cc)
  standing (same o) v zero e f w = never (cc)
  standing (same {c = cell u p x} {ws = ws} {cs = cs} o) v (suc k) e f w =
      let number : u ≡ v = cc in
      let place : p ≡ place_of start v = cc in
      let phase : x ≡ phase_of step v = cc in
      let tail : ws ≡ cells_from start step (suc v) k = cc in
      let here : place_of left v ≡ p =
      ⊎_elim (λ q. left-still v q ∙ sym place)
      (λ q. w v q.0 q.1 (rw (phase, q.1, number) (waits-head v p q.0 cs)) ∙ sym place) (phase-kind step v) in
      rw number (one (counts-still v p x here (rw phase (phase-kind step v))) (standing o (suc v) k tail (ended-tail (cell u p x) cs f) (waits-tail (cell u p x) cs w)))
  standing (runs o) v zero e f w = never (cc)
  standing (runs {v = u} {p = p} {d = d} {ws = ws} {cs = cs} o) v (suc k) e f w =
      let number : u ≡ v = cc in
      let place : p ≡ place_of start v = cc in
      let phase : waiting d ≡ phase_of step v = cc in
      let tail : ws ≡ cells_from start step (suc v) k = cc in
      rw number (one (counts-running v p d (⊎_elim (λ q. inl (q ∙ sym place)) inr (left-either v d (sym phase))))
      (standing o (suc v) k tail (ended-tail (cell u p (running d)) cs f) (waits-tail (cell u p (running d)) cs w)))
  standing (over o) v zero e f w = never (cc)
  standing (over {v = u} {p = p} {d = d} {ws = ws} {cs = cs} o) v (suc k) e f w =
      let number : u ≡ v = cc in
      let phase : waiting d ≡ phase_of step v = cc in
      let tail : ws ≡ cells_from start step (suc v) k = cc in
      let here : place_of left v ≡ d = f v d (sym phase) (rw number (ended-head v p d cs)) in
      rw number (one (counts-ended v p d here) (standing o (suc v) k tail (ended-tail (cell u p (ended d)) cs f) (waits-tail (cell u p (ended d)) cs w)))
  standing (stops o) v zero e f w = never (cc)
  standing (stops {v = u} {p = p} {d = d} {ws = ws} {cs = cs} o) v (suc k) e f w =
      let phase : running d ≡ phase_of step v = cc in
      absurd (⊎_elim (λ q. stray (phase ∙ q)) (λ q. stray-to q.0 (phase ∙ q.1)) (phase-kind step v))
    where
      stray : running d ≡ staying → ⊥
      stray q = never (cc)

      stray-to : (to : ℕ) → running d ≡ waiting to → ⊥
      stray-to to q = never (cc)

  pub agree-standing : {cs : Moment} → Onward (first_moment room start step) cs → Agree cs step marks → Standing left 0 (length room.vms) cs
  unfolding first_moment
  agree-standing {cs} o a = standing o 0 (length room.vms) refl (λ u to e h. left_ended cs a u to e h) (λ u to e h. left-waiting cs a u to e h)
