-- Laws on stops in every run: what the moment of a stop has, the placement that it leaves has.
use Prim.Native.Nat.{ℕ, zero, suc, ◌-◌, ◌≤◌, ◌<◌}
use mathlib.Core.Bool.{Bool, true, false, ◌&&◌, ◌||◌, false≢true}
use mathlib.Core.List.{List, [], ◌∷◌, ◌++◌}
use mathlib.Core.Logic.{inl, inr, ⊎_elim}
use mathlib.Core.Path.{◌≡◌, refl, sym, ap, ◌∙◌}
use native.Mathlib.Omega.{arith}
use lib.ListN.{length, get_or, take, drop}
use lib.Dec.{ltb, eqb}
use borrow.Author.Tests.{ltb-true, eqb-true}
use Rattle.records.specs.Base.{all}
use Rattle.records.specs.Room.{Room, node_of, nowhere}
use Rattle.records.specs.Plan.{Step, move_of}
use Rattle.records.proofs.Laws.Bools.{and_left, and_right}
use Rattle.rules.specs.Moments.{Placement, place_of, current_of, target_of, after, Phase, staying, waiting, running, ended, cell, Moment, tally_at, phase_of, cells_from, first_moment, at_rest, begun, all_running, settled, places_left}
use Rattle.rules.specs.Orders.{Order, done, next, Run, stop, step, some, mates, stands_on, Apart, EachMoment, EachMomentOfRun}
use Rattle.rules.specs.Rules.{aims, named}
use Rattle.rules.specs.Promises.{after_all, named_all, StaysWithin, StaysApart}
use Rattle.rules.proofs.Laws.Orders.{never, after-length, memory_in, cpu_in, memory-load, cpu-load, load, under-load, Onward, onward_self, onward-event, joined, run-all, end-all, all_over, over-settled, named-sends, named-rest, phase-all, goal, after-goal}
use Rattle.rules.proofs.Laws.Runs.{run_ends, some-run}
use Rattle.rules.proofs.Laws.Spreads.{stands-under}
use Rattle.rules.proofs.Laws.Sound.{named-part}
use Rattle.rules.proofs.Laws.Verdicts.{current-length}
use Rattle.stop.specs.Stops.{numbered, ended_moves, stopped_at}
use Rattle.stop.specs.Promises.{is_waiting, has_ended, waits_at, ended_at, Agree, EachStop, SomeMoment, SomeStop, as_placed}
use Rattle.stop.proofs.Laws.Before.{ended-part, named-before, named-at, after-all-length, split_steps}
use Rattle.stop.proofs.Laws.Standing.{standing-under, standing-there, phase-kind, agree-standing}

-- ---- claims over moments

-- what each moment has, and what follows from it onward from the first
each-onward : (P Q : Moment → Type 0) {ws : Moment} → ((cs : Moment) → Onward ws cs → P cs → Q cs) → {cs ds : Moment} → Onward ws cs → (o : Order cs ds) → EachMoment P o → EachMoment Q o
each-onward P Q h w (done {cs = cs}) p = h cs w p
each-onward P Q h w (next {cs = cs} e o) p = (h cs w p.0, each-onward P Q h (onward-event w e) o p.1)

each-always : (Q : Moment → Type 0) {ws : Moment} → ((cs : Moment) → Onward ws cs → Q cs) → {cs ds : Moment} → Onward ws cs → (o : Order cs ds) → EachMoment Q o
each-always Q h w (done {cs = cs}) = h cs w
each-always Q h w (next {cs = cs} e o) = (h cs w, each-always Q h (onward-event w e) o)

-- ---- one run behind another

run-joined : {room : Room} {places mid last : Placement} {before behind : List Step} → Run room places before mid → Run room mid behind last → Run room places (before ++ behind) last
run-joined stop r = r
run-joined (step o s p) r = step o s (run-joined p r)

moments-behind : (Q : Moment → Type 0) {room : Room} {places mid last : Placement} {before behind : List Step} (p : Run room places before mid) (r : Run room mid behind last) →
    EachMomentOfRun Q (run-joined p r) → EachMomentOfRun Q r
unfolding run-joined
moments-behind Q stop r m = m
moments-behind Q (step o s p) r m = moments-behind Q p r m.1

-- so what each moment of every run has, each moment of each order of the step behind some steps has
moments-at : (Q : Moment → Type 0) (room : Room) (places start : Placement) (before behind : List Step) (moves : Step) →
    ((last : Placement) (run : Run room places (before ++ (moves ∷ behind)) last) → EachMomentOfRun Q run) → Run room places before start →
    {end : Moment} (o : Order (first_moment room start moves) end) → settled end ≡ true → EachMoment Q o
moments-at Q room places start before behind moves h p {end} o s =
    let r = some-run room (places_left end) behind in
    (moments-behind Q p (step o s r.1) (h r.0 (run-joined p (step o s r.1)))).0

-- ---- stops in step n of a plan

module _ (room : Room) (steps : List Step) (n : ℕ) (marks : List ℕ) (name : named_all room (current_of room) steps ≡ true) (first : 1 ≤ n) (last : n ≤ length steps)
    (count : length marks ≡ length (numbered steps n)) where
  below : n - 1 < length steps
  below = omega arith

  steps-split : take (n - 1) steps ++ (numbered steps n ∷ drop (suc (n - 1)) steps) ≡ steps
  unfolding numbered
  steps-split = split_steps steps (n - 1) below

  abbrev left : Placement
  left = stopped_at room steps n marks

  module _ (start : Placement) (run : Run room (current_of room) (take (n - 1) steps) start) where
    start_is : start ≡ after_all (current_of room) (take (n - 1) steps)
    start_is = run_ends (named-before room (current_of room) steps (n - 1) name) (current-length room) run

    start-length : length start ≡ length room.vms
    start-length = ap length start_is ∙ after-all-length (current_of room) (take (n - 1) steps) ∙ current-length room

    step-named : named room start 0 (numbered steps n) ≡ true
    unfolding numbered
    step-named = rw start_is (named-at room (current_of room) steps (n - 1) name below)

    left_is : left ≡ after start (ended_moves (numbered steps n) marks)
    unfolding stopped_at
    left_is = rw start_is

    module _ {cs : Moment} (w : Onward (first_moment room start (numbered steps n)) cs) (a : Agree cs (numbered steps n) marks) where
      stands : (v : ℕ) → v < length room.vms → stands_on cs v (place_of left v) ≡ true
      stands v h = rw left_is (standing-there v (agree-standing room start (numbered steps n) marks step-named start-length count w a) (omega arith) (omega arith))

      load-most : (f : ℕ → ℕ) (d : ℕ) → load f d (at_rest room left) ≤ load f d cs
      unfolding first_moment
      load-most f d = rw left_is (under-load f (standing-under d (agree-standing room start (numbered steps n) marks step-named start-length count w a)))

      apart-still : (v u : ℕ) → Apart v u cs → Apart v u (at_rest room left)
      unfolding first_moment
      apart-still v u p d k x y =
          let under = standing-under d (agree-standing room start (numbered steps n) marks step-named start-length count w a) in
          p d k (stands-under v under (rw left_is at x)) (stands-under u under (rw left_is at y))

  pub stop-there : EachStop room steps n marks (λ cs. (v : ℕ) → v < length room.vms → stands_on cs v (place_of left v) ≡ true)
  stop-there start run end order whole =
      each-always (λ cs. Agree cs (numbered steps n) marks → (v : ℕ) → v < length room.vms → stands_on cs v (place_of left v) ≡ true)
      (λ cs w a v h. stands start run w a v h) (onward_self (first_moment room start (numbered steps n))) order

  -- what each moment of every run has and goes down to less
  stop-keeps : (Q : Moment → Type 0) (A : Type 0) → ((last : Placement) (r : Run room (current_of room) steps last) → EachMomentOfRun Q r) →
      ((start : Placement) → Run room (current_of room) (take (n - 1) steps) start → (cs : Moment) → Onward (first_moment room start (numbered steps n)) cs →
      Agree cs (numbered steps n) marks → Q cs → A) → EachStop room steps n marks (λ cs. A)
  stop-keeps Q A h f start run end order whole =
      each-onward Q (λ cs. Agree cs (numbered steps n) marks → A) (λ cs w q a. f start run cs w a q) (onward_self (first_moment room start (numbered steps n))) order
      (moments-at Q room (current_of room) start (take (n - 1) steps) (drop (suc (n - 1)) steps) (numbered steps n) (rw steps-split h) run order whole)

  pub stop-memory : StaysWithin room (current_of room) steps → (d : ℕ) → d < length room.nodes → (tally_at room d (as_placed room)).memory ≤ (node_of room d).memory →
      EachStop room steps n marks (λ cs. (tally_at room d (at_rest room left)).memory ≤ (node_of room d).memory)
  stop-memory k d h m =
      stop-keeps (λ cs. (tally_at room d cs).memory ≤ (node_of room d).memory) ((tally_at room d (at_rest room left)).memory ≤ (node_of room d).memory)
      (λ last r. k.memory last r d h m)
      (λ start run cs w a q. let l = load-most start run w a (memory_in room) d in let x = memory-load room d (at_rest room left) in let y = memory-load room d cs in omega arith)

  pub stop-cpu : StaysWithin room (current_of room) steps → (d : ℕ) → d < length room.nodes → (tally_at room d (as_placed room)).cpu ≤ (node_of room d).cpu →
      EachStop room steps n marks (λ cs. (tally_at room d (at_rest room left)).cpu ≤ (node_of room d).cpu)
  stop-cpu k d h m =
      stop-keeps (λ cs. (tally_at room d cs).cpu ≤ (node_of room d).cpu) ((tally_at room d (at_rest room left)).cpu ≤ (node_of room d).cpu)
      (λ last r. k.cpu last r d h m)
      (λ start run cs w a q. let l = load-most start run w a (cpu_in room) d in let x = cpu-load room d (at_rest room left) in let y = cpu-load room d cs in omega arith)

  pub stop-apart : StaysApart room (current_of room) steps → (v u : ℕ) → mates room v u ≡ true → Apart v u (as_placed room) →
      EachStop room steps n marks (λ cs. Apart v u (at_rest room left))
  stop-apart k v u m p =
      stop-keeps (Apart v u) (Apart v u (at_rest room left)) (λ last r. k.apart last r v u m p) (λ start run cs w a q. apart-still start run w a v u q)

-- ---- the phases that a step gives

not-running : (moves : Step) (v to : ℕ) → phase_of moves v ≡ running to → ⊥
not-running moves v to q = ⊎_elim (λ e. stays (sym e ∙ q)) (λ e. waits e.0 (sym e.1 ∙ q)) (phase-kind moves v)
  where
    stays : staying ≡ running to → ⊥
    stays e = never (cc)

    waits : (d : ℕ) → waiting d ≡ running to → ⊥
    waits d e = never (cc)

not-ended : (moves : Step) (v to : ℕ) → phase_of moves v ≡ ended to → ⊥
not-ended moves v to q = ⊎_elim (λ e. stays (sym e ∙ q)) (λ e. waits e.0 (sym e.1 ∙ q)) (phase-kind moves v)
  where
    stays : staying ≡ ended to → ⊥
    stays e = never (cc)

    waits : (d : ℕ) → waiting d ≡ ended to → ⊥
    waits d e = never (cc)

-- ---- VMs that go on running

module _ (room : Room) (few : length room.nodes ≤ 64) (v : ℕ) (wanted : place_of (target_of room) v < length room.nodes) where
  aims-up : (d : ℕ) → aims room v d ≡ true → d < length room.nodes
  unfolding aims
  aims-up d e = go (ltb d (length room.nodes)) refl e
    where
      go : (b : Bool) → ltb d (length room.nodes) ≡ b → (b || (eqb d nowhere && eqb (place_of (target_of room) v) nowhere)) ≡ true → d < length room.nodes
      go true t q = ltb-true d (length room.nodes) t
      go false t q = let k = eqb-true (place_of (target_of room) v) nowhere (and_right (eqb d nowhere) (eqb (place_of (target_of room) v) nowhere) q) in absurd (omega arith)

  all-sent : (start : Placement) (least : ℕ) (moves : Step) → named room start least moves ≡ true → all (λ move. aims room move.vm move.to) moves ≡ true
  unfolding all
  all-sent start least [] e = refl
  all-sent start least (move ∷ moves) e = rw (named-sends room start least move moves e) (all-sent start (suc move.vm) moves (named-rest room start least move moves e))

  up-after : (places : Placement) (moves : Step) → named room places 0 moves ≡ true → length places ≡ length room.vms → place_of places v < length room.nodes →
      place_of (after places moves) v < length room.nodes
  unfolding goal
  up-after places moves e l h = rw (after-goal room places places 0 moves v e l) (go (phase_of moves v) refl)
    where
      sent : (to : ℕ) → phase_of moves v ≡ waiting to → to < length room.nodes
      sent to q = aims-up to (phase-all (aims room) moves v to (all-sent places 0 moves e) q)

      go : (x : Phase) → phase_of moves v ≡ x → goal (place_of places v) x < length room.nodes
      go staying q = h
      go (waiting to) q = sent to q
      go (running to) q = absurd (not-running moves v to q)
      go (ended to) q = absurd (not-ended moves v to q)

  up-all : (places : Placement) (steps : List Step) → named_all room places steps ≡ true → length places ≡ length room.vms → place_of places v < length room.nodes →
      place_of (after_all places steps) v < length room.nodes
  unfolding after_all named_all
  up-all places [] e l h = h
  up-all places (moves ∷ steps) e l h =
      let name = and_left (named room places 0 moves) (named_all room (after places moves) steps) e in
      up-all (after places moves) steps (and_right (named room places 0 moves) (named_all room (after places moves) steps) e) (after-length places moves ∙ l) (up-after places moves name l h)

  pub stopped-up : (steps : List Step) (n : ℕ) (marks : List ℕ) → named_all room (current_of room) steps ≡ true → 1 ≤ n → n ≤ length steps →
      place_of (current_of room) v < length room.nodes → place_of (stopped_at room steps n marks) v < length room.nodes
  unfolding stopped_at numbered
  stopped-up steps n marks e f h k =
      let b : n - 1 < length steps = omega arith in
      let before = after_all (current_of room) (take (n - 1) steps) in
      let Named-step = named-at room (current_of room) steps (n - 1) e b in
      up-after before (ended_moves (get_or steps (n - 1) []) marks) (named-part room before 0 0 (ended-part (get_or steps (n - 1) []) marks) (omega arith) Named-step)
      (after-all-length (current_of room) (take (n - 1) steps) ∙ current-length room)
      (up-all (current_of room) (take (n - 1) steps) (named-before room (current_of room) steps (n - 1) e) (current-length room) k)

-- ---- any marks can come from a stop: from one with every move running

neither : (a : Bool) → (a && false || false) ≡ false
neither true = refl
neither false = refl

some-joined-moment : (Q : Moment → Type 0) {cs ds es : Moment} (o : Order cs ds) (p : Order ds es) → Q ds → SomeMoment Q (joined o p)
unfolding joined
some-joined-moment Q done done q = q
some-joined-moment Q done (next e p) q = inl q
some-joined-moment Q (next e o) p q = inr (some-joined-moment Q o p q)

module _ (places : Placement) (moves : Step) (u : ℕ) where
  -- a VM with every move running neither waits nor has ended
  runs-only : (v : ℕ) → (has_ended (cell v (place_of places v) (begun (phase_of moves v))) ≡ false) × (is_waiting (cell v (place_of places v) (begun (phase_of moves v))) ≡ false)
  unfolding begun has_ended is_waiting
  runs-only v = ⊎_elim (λ e. rw e (refl, refl)) (λ e. rw e.1 (refl, refl)) (phase-kind moves v)

  none-ended : (v k : ℕ) → ended_at (all_running (cells_from places moves v k)) u ≡ false
  unfolding ended_at some all_running cells_from
  none-ended v zero = refl
  none-ended v (suc k) = rw ((runs-only v).0, none-ended (suc v) k) (neither (eqb v u))

  none-waits : (v k : ℕ) → waits_at (all_running (cells_from places moves v k)) u ≡ false
  unfolding waits_at some all_running cells_from
  none-waits v zero = refl
  none-waits v (suc k) = rw ((runs-only v).1, none-waits (suc v) k) (neither (eqb v u))

running-agrees : (room : Room) (places : Placement) (moves : Step) (marks : List ℕ) → Agree (all_running (first_moment room places moves)) moves marks
unfolding first_moment
running-agrees room places moves marks = record {
  ended-marked = λ i h e. absurd (false≢true (sym (none-ended places moves (move_of moves i).vm 0 (length room.vms)) ∙ e));
  waiting-unmarked = λ i h e. absurd (false≢true (sym (none-waits places moves (move_of moves i).vm 0 (length room.vms)) ∙ e));
}

pub some-stop : (room : Room) (steps : List Step) (n : ℕ) (marks : List ℕ) → SomeStop room steps n marks
some-stop room steps n marks =
    let before = some-run room (current_of room) (take (n - 1) steps) in
    let moment = first_moment room before.0 (numbered steps n) in
    record {
      start = before.0;
      run = before.1;
      end = all_over moment;
      order = joined (run-all moment) (end-all moment);
      whole = over-settled moment;
      moment = some-joined-moment (λ cs. Agree cs (numbered steps n) marks) (run-all moment) (end-all moment) (running-agrees room before.0 (numbered steps n) marks);
    }

-- so what holds at each stop holds, if it does not speak of the moment
each-some : (A : Type 0) (Q : Moment → Type 0) {cs ds : Moment} (o : Order cs ds) → EachMoment (λ xs. Q xs → A) o → SomeMoment Q o → A
each-some A Q done h q = h q
each-some A Q (next e o) h (inl q) = h.0 q
each-some A Q (next e o) h (inr q) = each-some A Q o h.1 q

pub any-marks : (A : Type 0) (room : Room) (steps : List Step) (n : ℕ) (marks : List ℕ) → EachStop room steps n marks (λ cs. A) → SomeStop room steps n marks → A
any-marks A room steps n marks h s =
    each-some A (λ cs. Agree cs (numbered steps n) marks) s.order (h s.start s.run s.end s.order s.whole) s.moment

-- and what holds, holds at each stop
pub each-stop : (A : Type 0) (room : Room) (steps : List Step) (n : ℕ) (marks : List ℕ) → A → EachStop room steps n marks (λ cs. A)
each-stop A room steps n marks x start run end order whole =
    each-always (λ cs. Agree cs (numbered steps n) marks → A) (λ cs w a. x) (onward_self (first_moment room start (numbered steps n))) order
