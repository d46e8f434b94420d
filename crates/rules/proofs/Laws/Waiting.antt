-- Laws on VMs that wait for others, over orders and runs: while a VM moves, whoever it waits for is at rest on its target.
use Prim.Native.Nat.{ℕ, zero, suc, ◌+◌, ◌≤◌, ◌<◌}
use mathlib.Core.Bool.{Bool, true, false, ◌&&◌, ◌||◌, false≢true, or-true}
use mathlib.Core.List.{List, [], ◌∷◌}
use mathlib.Core.Logic.{by_cases}
use mathlib.Core.Path.{◌≡◌, refl, sym, ap, ◌∙◌}
use native.Mathlib.Decide.{ℕ_discrete}
use native.Mathlib.Omega.{arith}
use lib.ListN.{length}
use lib.Dec.{eqb}
use borrow.Author.Tests.{eqb-true, eq-eqb, ne_eqb}
use Rattle.records.specs.Room.{Room}
use Rattle.records.specs.Plan.{Step}
use Rattle.records.proofs.Laws.Bools.{and_left, and_right}
use Rattle.rules.specs.Moments.{Placement, place_of, target_of, after, staying, waiting, running, cell, Moment, number_of, phase_of, cells_from, first_moment, at_rest}
use Rattle.rules.specs.Orders.{Act, begin, finish, Event, begins, ends, later, Order, done, next, Run, stop, step, some, is_running, runs_at, stays_on, rests_on, EachBegin, EachMoment, EachBeginOfRun, EachMomentOfRun}
use Rattle.rules.specs.Rules.{has_move, in_turn, waits_for, sound_step}
use Rattle.rules.specs.Promises.{sound_all, InTurn, WaitsItsTurn}
use Rattle.rules.proofs.Laws.Orders.{after-length, order-leaves}
use Rattle.rules.proofs.Laws.Sound.{sound-named, sound-turn}
use Rattle.rules.proofs.Laws.Turn.{still-phase, waited}

-- ---- a VM at rest on a place

-- an event moves nobody who has no move
rests-same : (v d : ℕ) {cs ds : Moment} {a : Act} → Event cs a ds → rests_on ds v d ≡ rests_on cs v d
unfolding rests_on some stays_on
rests-same v d begins = refl
rests-same v d ends = refl
rests-same v d (later {c = c} e) = ap (λ (b : Bool). eqb (number_of c) v && stays_on d c || b) (rests-same v d e)

rests-first : (places : Placement) (moves : Step) (v d : ℕ) → phase_of moves v ≡ staying → place_of places v ≡ d → (k n : ℕ) → k ≤ v → v < k + n →
    rests_on (cells_from places moves k n) v d ≡ true
unfolding rests_on some stays_on cells_from
rests-first places moves v d p q k zero l h = absurd (omega arith)
rests-first places moves v d p q k (suc n) l h =
    by_cases (ℕ_discrete k v)
    (λ e. rw (e, p, eq-eqb v v refl, eq-eqb (place_of places v) d q))
    (λ e. rw (rests-first places moves v d p q (suc k) n (omega arith) (omega arith)) (or-true (eqb k v && stays_on d (cell k (place_of places k) (phase_of moves k)))))

-- ---- a VM without a move

-- each cell of VM v stays
abbrev Stays : ℕ → Moment → Type 0
Stays v [] = Unit
Stays v (cell w p x ∷ cs) = (w ≡ v → x ≡ staying) × Stays v cs

stays-first : (places : Placement) (moves : Step) (v : ℕ) → phase_of moves v ≡ staying → (k n : ℕ) → Stays v (cells_from places moves k n)
unfolding cells_from
stays-first places moves v p k zero = tt
stays-first places moves v p k (suc n) = (λ e. rw e p, stays-first places moves v p (suc k) n)

-- it never begins, and stays
not-waiting : {d : ℕ} {A : Type 0} → waiting d ≡ staying → A
not-waiting e = let z : ◌≡◌ {A = ℕ} 0 1 = cc in absurd (omega arith)

not-running : {d : ℕ} {A : Type 0} → running d ≡ staying → A
not-running e = let z : ◌≡◌ {A = ℕ} 0 1 = cc in absurd (omega arith)

stays-event : (v : ℕ) {cs ds : Moment} {a : Act} → Event cs a ds → Stays v cs → Stays v ds
stays-event v begins s = (λ e. not-waiting (s.0 e), s.1)
stays-event v ends s = (λ e. not-running (s.0 e), s.1)
stays-event v (later {c = cell w p x} e) s = (s.0, stays-event v e s.1)

stays-begin : (v : ℕ) {w d : ℕ} {cs ds : Moment} → Event cs (begin w d) ds → Stays v cs → w ≡ v → ⊥
stays-begin v begins s e = not-waiting (s.0 e)
stays-begin v (later {c = cell w p x} e) s q = stays-begin v e s.1 q

stays-quiet : (v : ℕ) (cs : Moment) → Stays v cs → runs_at cs v ≡ false
unfolding runs_at some is_running
stays-quiet v [] s = refl
stays-quiet v (cell w p x ∷ cs) s =
    by_cases (ℕ_discrete w v)
    (λ e. rw (s.0 e, stays-quiet v cs s.1) (or-none (eqb w v)))
    (λ e. rw (ne_eqb w v e, stays-quiet v cs s.1))
  where
    or-none : (b : Bool) → (b && false || false) ≡ false
    or-none true = refl
    or-none false = refl

-- ---- one order

-- what every event keeps has its say at each begin and each moment
module _ (P : Moment → ℕ → ℕ → Type 0) (Q I : Moment → Type 0) (kept : (cs ds : Moment) (a : Act) → Event cs a ds → I cs → I ds)
    (at-begin : (cs ds : Moment) (v d : ℕ) → Event cs (begin v d) ds → I cs → P cs v d) (at-moment : (cs : Moment) → I cs → Q cs) where
  kept-each : {cs ds : Moment} (o : Order cs ds) → I cs → EachBegin P o × EachMoment Q o
  kept-each (done {cs = cs}) i = (tt, at-moment cs i)
  kept-each (next {cs = cs} {ds = ds} {a = begin v d} e o) i = let r = kept-each o (kept cs ds (begin v d) e i) in ((at-begin cs ds v d e i, r.0), (at-moment cs i, r.1))
  kept-each (next {cs = cs} {ds = ds} {a = finish v} e o) i = let r = kept-each o (kept cs ds (finish v) e i) in (r.0, (at-moment cs i, r.1))

module _ (room : Room) (first second : ℕ) where
  -- at a begin of the second, and while it runs, the first is at rest on its target
  abbrev AtBegin : Moment → ℕ → ℕ → Type 0
  AtBegin cs v d = v ≡ second → rests_on cs first (place_of (target_of room) first) ≡ true

  abbrev AtMoment : Moment → Type 0
  AtMoment cs = runs_at cs second ≡ true → rests_on cs first (place_of (target_of room) first) ≡ true

  -- nobody runs between two steps
  rest-quiet : (places : Placement) → AtMoment (at_rest room places)
  unfolding first_moment phase_of
  rest-quiet places e = absurd (false≢true (sym (stays-quiet second (cells_from places [] 0 (length room.vms)) (stays-first places [] second refl 0 (length room.vms))) ∙ e))

  module _ (w : waits_for room second first ≡ true) (there : first < length room.vms) where
    -- a step that moves the second has the first at rest; in one that does not, the second stays
    order-waits : (places : Placement) (moves : Step) → in_turn room places moves ≡ true → {end : Moment} (o : Order (first_moment room places moves) end) →
        EachBegin AtBegin o × EachMoment AtMoment o
    unfolding first_moment
    order-waits places moves turn o = go (has_move moves second) refl
      where
        go : (b : Bool) → has_move moves second ≡ b → EachBegin AtBegin o × EachMoment AtMoment o
        go true q =
            let x = waited room places moves first second turn w q in
            kept-each AtBegin AtMoment (λ cs. rests_on cs first (place_of (target_of room) first) ≡ true) (λ cs ds a e i. rests-same first (place_of (target_of room) first) e ∙ i) (λ cs ds v d e i k. i) (λ cs i k. i) o
            (rests-first places moves first (place_of (target_of room) first) (still-phase moves first x.still)
            (eqb-true (place_of places first) (place_of (target_of room) first) x.home) 0 (length room.vms) (omega arith) (omega arith))
        go false q =
            kept-each AtBegin AtMoment (Stays second) (λ cs ds a e i. stays-event second e i) (λ cs ds v d e i k. absurd (stays-begin second e i k))
            (λ cs i k. absurd (false≢true (sym (stays-quiet second cs i) ∙ k))) o
            (stays-first places moves second (still-phase moves second q) 0 (length room.vms))

    run-waits : {places last : Placement} {steps : List Step} (run : Run room places steps last) → InTurn room run → EachBeginOfRun AtBegin run × EachMomentOfRun AtMoment run
    run-waits (stop {places = places}) t = (tt, rest-quiet places)
    run-waits (step {places = places} {moves = moves} o s r) t =
        let a = order-waits places moves t.0 o in
        let b = run-waits r t.1 in
        ((a.0, b.0), (a.1, b.1))

-- ---- whole runs

pub run-turn : {room : Room} {places last : Placement} {steps : List Step} → sound_all room places steps ≡ true → length places ≡ length room.vms →
    (run : Run room places steps last) → InTurn room run
unfolding sound_all
run-turn e l stop = tt
run-turn {room} {places} e l (step {moves = moves} {steps = steps} o s r) =
    let sound = and_left (sound_step room places moves) (sound_all room (after places moves) steps) e in
    let more : sound_all room (after places moves) steps ≡ true = and_right (sound_step room places moves) (sound_all room (after places moves) steps) e in
    let left = order-leaves room places moves (sound-named room places moves sound) l o s in
    (sound-turn room places moves sound, run-turn (rw (← left) at more) (ap length left ∙ after-length places moves ∙ l) r)

-- in every run of sound steps, where each first is there
pub waits-its-turn : (room : Room) (places : Placement) (steps : List Step) → ((first second : ℕ) → waits_for room second first ≡ true → first < length room.vms) →
    sound_all room places steps ≡ true → length places ≡ length room.vms → WaitsItsTurn room places steps
waits-its-turn room places steps there e l = record {
  begins = λ last run first second w. (run-waits room first second w (there first second w) run (run-turn e l run)).0;
  runs = λ last run first second w. (run-waits room first second w (there first second w) run (run-turn e l run)).1;
}
