-- The promises of `build` as theorems about `answer_of`: each field of `Built`.
use Prim.Native.Nat.{ℕ, ◌≤◌, ◌<◌}
use mathlib.Core.Bool.{Bool, true, false, not, false≢true}
use mathlib.Core.List.{List, [], ◌∷◌, ◌++◌}
use mathlib.Core.Logic.{◌↔◌, ◌⊎◌, inl, inr}
use mathlib.Core.Path.{◌≡◌, refl, sym, ap, ◌∙◌}
use native.Mathlib.Omega.{arith}
use lib.ListN.{length, drop}
use lib.Dec.{ltb, eqb}
use borrow.Author.Tests.{lt-ltb, le-ltb, not-true, ltb-true, ltb-false, not-false, ne_eqb, eqb-false}
use Rattle.std.specs.Prelude.{Result, Ok, Err}
use Rattle.records.specs.Base.{pick, all}
use Rattle.records.specs.Bytes.{version_of, AreBytes}
use Rattle.records.specs.Room.{Room, IsSound, HasAmounts, most_reserve, room_at, cluster_check}
use Rattle.records.specs.Plan.{Step, move_total, steps_of, shaped, plan_check, plan_bytes, front_of}
use Rattle.records.specs.Inner.{tells_sources}
use Rattle.records.specs.declared.faults.ClusterFault.{ClusterFault}
use Rattle.records.proofs.Laws.Sound.{read-sound, read-amounts}
use Rattle.records.proofs.Laws.RoundTrip.{plan-length, plan-front, plan-whole, version-is, steps-of-plan, header_is}
use Rattle.rules.specs.Moments.{Placement, place_of, current_of, target_of, after}
use Rattle.rules.specs.Orders.{Run}
use Rattle.rules.specs.Rules.{target_check}
use Rattle.rules.specs.Cost.{cost_of}
use Rattle.rules.specs.Verdict.{home, verdict_of, packed}
use Rattle.rules.specs.Returned.{SaysGood, SaysBlocked, SaysRefused}
use Rattle.rules.specs.Promises.{after_all, sourced_all, sound_all, Shaped, EveryRun, EndsAway, Checked}
use Rattle.rules.specs.declared.faults.TargetFault.{TargetFault}
use Rattle.rules.specs.declared.faults.Fault.{Fault}
use Rattle.rules.specs.declared.faults.Verdict.{Verdict}
use Rattle.rules.proofs.Laws.Contract.{contract}
use Rattle.rules.proofs.Laws.Costs.{cost-low}
use Rattle.rules.proofs.Laws.Returned.{says-accepted, says-refused}
use Rattle.rules.proofs.Laws.Runs.{sound-all-named, run_ends, run-obeys, sound-orders, stays_within}
use Rattle.rules.proofs.Laws.Sources.{names-places}
use Rattle.rules.proofs.Laws.Spreads.{stays-apart}
use Rattle.rules.proofs.Laws.Running.{keeps-running}
use Rattle.rules.proofs.Laws.Waiting.{run-turn, waits-its-turn}
use Rattle.rules.proofs.Laws.Bound.{first-there}
use Rattle.rules.proofs.Laws.Verdicts.{current-length, off-some, off-home}
use Rattle.planner.specs.Picks.{away, direct_step, pivot_step, or_else, next_step, Picks}
use Rattle.planner.specs.Answer.{steps_for, made_of, outcome, answer_reserve, answer_check, answer_of, buffer_of, build_number, packed_answer, least_buffer}
use Rattle.planner.specs.Promises.{Answers, told_made, TellsAnswer, Stuck, Written, Planned, Halted, Taken, Built}
use Rattle.planner.specs.Inner.{Packs}
use Rattle.planner.specs.declared.answer.Made.{Made}
use Rattle.planner.specs.declared.answer.BuildFault.{BuildFault}
use Rattle.planner.specs.declared.answer.Answer.{Answer}
use Rattle.planner.specs.declared.answer.Answer.TheVariants.{Plan, Blocked, Refused}
use Rattle.planner.proofs.Laws.Budget.{not-empty, budget, budget-none, budget-most, budget-511, picks-steps, picks-sound, picks-sourced, picks-tell, picks-ends, picks-moves, picks-count, picks-shaped}
use Rattle.planner.proofs.Laws.Direct.{direct-none}
use Rattle.planner.proofs.Laws.Naming.{from_empty}
use Rattle.planner.proofs.Laws.Packing.{tells-answer, says-plan, says-blocked, blocked-says}
use Rattle.planner.proofs.Laws.Pivots.{no-pivot}

-- ---- where the planner rests

-- where there is no next step no direct move is sound and no pivot is useful
pub rest-stuck : (room : Room) (places : Placement) → next_step room places ≡ [] → home room places ≡ false → Stuck room places
unfolding next_step or_else away
rest-stuck room places e h =
    let b = both (direct_step room places) (pivot_step room places) (from_empty places (or_else (direct_step room places) (pivot_step room places)) e) in
    let w = off-some room places h in
    record {
      lost = (w.0, w.1, ap not (ne_eqb (place_of places w.0) (place_of (target_of room) w.0) w.2));
      no-direct = direct-none room places b.0;
      no-pivot = no-pivot room places b.1;
    }
  where
    both : (one two : Step) → or_else one two ≡ [] → (one ≡ []) × (two ≡ [])
    both [] two q = (refl, q)
    both (move ∷ moves) two q = absurd (not-empty move moves q)

stuck-away : (room : Room) (places : Placement) → Stuck room places → home room places ≡ false
unfolding away
stuck-away room places s =
    let v = s.lost.0 in
    off-home room places v s.lost.1 (eqb-false (place_of places v) (place_of (target_of room) v) (not-true (eqb (place_of places v) (place_of (target_of room) v)) s.lost.2))

-- ---- the cases of an answer

abbrev refuses : Answer → Bool
refuses (Plan made) = false
refuses (Blocked made) = false
refuses (Refused fault) = true

abbrev blocks : Answer → Bool
blocks (Plan made) = false
blocks (Blocked made) = true
blocks (Refused fault) = false

abbrev no_made : Made
no_made = record { steps = 0; moves = 0; cost = 0 }

abbrev made_in : Answer → Made
made_in (Plan made) = made
made_in (Blocked made) = made
made_in (Refused fault) = no_made

-- an answer that is no refusal has none of the faults 23 and 1 to 10
taken_of : (reserve : ℕ) (cluster before : List ℕ) → refuses (answer_of reserve cluster (length before)) ≡ false → Taken reserve cluster before
unfolding answer_of answer_reserve answer_check
taken_of reserve cluster before e = on-reserve (ltb most_reserve reserve) refl e
  where
    on-size : (b : Bool) → ltb (length before) least_buffer ≡ b → reserve ≤ most_reserve → cluster_check cluster ≡ Ok tt → target_check (room_at reserve cluster) ≡ Ok tt →
        refuses (pick b (Refused BuildFault.Buffer) (outcome (room_at reserve cluster) (steps_for (room_at reserve cluster)))) ≡ false → Taken reserve cluster before
    on-size true q k c t f = absurd (false≢true (sym f))
    on-size false q k c t f = record { taken = record { reserve-taken = k; cluster-whole = c; target-good = t }; buffer-long = ltb-false (length before) least_buffer q }

    on-target : (t : Result (Unit {0}) TargetFault) → target_check (room_at reserve cluster) ≡ t → reserve ≤ most_reserve → cluster_check cluster ≡ Ok tt →
        refuses (answer_check BuildFault.Target t (pick (ltb (length before) least_buffer) (Refused BuildFault.Buffer) (outcome (room_at reserve cluster) (steps_for (room_at reserve cluster))))) ≡ false → Taken reserve cluster before
    on-target (Ok tt) q k c f = on-size (ltb (length before) least_buffer) refl k c q f
    on-target (Err fault) q k c f = absurd (false≢true (sym f))

    on-cluster : (c : Result (Unit {0}) ClusterFault) → cluster_check cluster ≡ c → reserve ≤ most_reserve →
        refuses (answer_check BuildFault.Cluster c (answer_check BuildFault.Target (target_check (room_at reserve cluster)) (pick (ltb (length before) least_buffer) (Refused BuildFault.Buffer) (outcome (room_at reserve cluster) (steps_for (room_at reserve cluster)))))) ≡ false →
        Taken reserve cluster before
    on-cluster (Ok tt) q k f = on-target (target_check (room_at reserve cluster)) refl k q f
    on-cluster (Err fault) q k f = absurd (false≢true (sym f))

    on-reserve : (b : Bool) → ltb most_reserve reserve ≡ b →
        refuses (pick b (Refused BuildFault.Reserve) (answer_check BuildFault.Cluster (cluster_check cluster)
        (answer_check BuildFault.Target (target_check (room_at reserve cluster)) (pick (ltb (length before) least_buffer) (Refused BuildFault.Buffer) (outcome (room_at reserve cluster) (steps_for (room_at reserve cluster))))))) ≡ false →
        Taken reserve cluster before
    on-reserve true q f = absurd (false≢true (sym f))
    on-reserve false q f = on-cluster (cluster_check cluster) refl (ltb-false most_reserve reserve q) f

-- ---- what the planner makes of a room

module _ (room : Room) (w : IsSound room) where
  picks-are : Picks room (current_of room) (steps_for room)
  unfolding steps_for
  picks-are = picks-steps room (current_of room) (current-length room)

  steps-sound : sound_all room (current_of room) (steps_for room) ≡ true
  steps-sound = picks-sound room (current_of room) (steps_for room) picks-are

  steps-sourced : sourced_all (current_of room) (steps_for room) ≡ true
  steps-sourced = picks-sourced room (current_of room) (steps_for room) picks-are

  steps-tell : all tells_sources (steps_for room) ≡ true
  steps-tell = picks-tell room (current_of room) (steps_for room) picks-are

  steps-shaped : shaped (steps_for room) ≡ true
  steps-shaped = picks-shaped room w.vms-most (current_of room) (steps_for room) (current-length room) picks-are

  moves-few : move_total (steps_for room) ≤ budget room (current_of room)
  moves-few = picks-moves room (current_of room) (steps_for room) (current-length room) picks-are

  steps-few : length (steps_for room) ≤ move_total (steps_for room)
  steps-few = picks-count room (current_of room) (steps_for room) picks-are

  moves-511 : move_total (steps_for room) ≤ 511
  moves-511 = let a = moves-few in let b = budget-511 room (current_of room) w.vms-most in omega arith

  -- where every run ends
  ends_there : {last : Placement} → Run room (current_of room) (steps_for room) last →
      last ≡ after_all (current_of room) (steps_for room)
  ends_there run =
      run_ends (sound-all-named room (current_of room) (steps_for room) steps-sound) (current-length room) run

  -- what is written
  written-for : (plan : List ℕ) → plan ≡ plan_bytes (steps_for room) → Written room plan (made_of room (steps_for room))
  unfolding made_of
  written-for plan p =
      let e : steps_of plan ≡ steps_for room = ap steps_of p ∙ steps-of-plan (steps_for room) steps-tell steps-shaped in
      let m = moves-few in let n = steps-few in let k = moves-511 in
      record {
        picks = rw e picks-are;
        named = rw e (sound-all-named room (current_of room) (steps_for room) steps-sound);
        well-sourced = rw e steps-sourced;
        obeys = rw e (λ last run. run-obeys steps-sound (current-length room) run);
        in-turn = rw e (λ last run. run-turn steps-sound (current-length room) run);
        reaches = rw e (λ last run. ends_there run);
        auditor = rw e (stays_within room (current_of room) (steps_for room) w.nodes-most steps-sound (current-length room));
        apart = rw e (stays-apart room (current_of room) (steps_for room) steps-sound (current-length room));
        running = rw e (keeps-running room (current_of room) (steps_for room) w.nodes-most (sound-all-named room (current_of room) (steps_for room) steps-sound) (current-length room));
        waits = rw e (waits-its-turn room (current_of room) (steps_for room) (first-there room w) steps-sound (current-length room));
        none = λ z. e ∙ empty (steps_for room) (let b = budget-none room (current_of room) z in omega arith);
        short = λ z. rw e (let b = budget-most room (current_of room) z in omega arith);
        version = ap version_of p ∙ version-is (steps_for room) steps-tell steps-shaped;
        sources = rw e (names-places room (current_of room) (steps_for room) (current-length room) steps-sound steps-sourced steps-tell);
        header = λ z. p ∙ ap plan_bytes (sym e ∙ z) ∙ header_is;
        small = rw p (let l = plan-length (steps_for room) steps-tell in omega arith);
        steps = rw e;
        moves = rw e;
        cost = rw e;
      }
    where
      empty : (l : List Step) → length l ≤ 0 → l ≡ []
      empty [] h = refl
      empty (x ∷ xs) h = absurd (omega arith)

  -- it is the record at the front of the buffer, and read as the steps
  front-is : (behind : List ℕ) → front_of (plan_bytes (steps_for room) ++ behind) ≡ plan_bytes (steps_for room)
  front-is behind = plan-front (steps_for room) steps-tell steps-shaped behind

  steps-back : (plan : List ℕ) → plan ≡ plan_bytes (steps_for room) → steps_of plan ≡ steps_for room
  steps-back plan p = ap steps_of p ∙ steps-of-plan (steps_for room) steps-tell steps-shaped

  whole-is : (plan : List ℕ) → plan ≡ plan_bytes (steps_for room) → plan_check plan ≡ Ok tt
  whole-is plan p = ap plan_check p ∙ plan-whole (steps_for room) steps-tell steps-shaped

  -- there is no next step where it leads
  rests : next_step room (after_all (current_of room) (steps_for room)) ≡ []
  rests = picks-ends room (current_of room) (steps_for room) picks-are

  -- its runs, where it leads home and where it does not
  runs-home : home room (after_all (current_of room) (steps_for room)) ≡ true → EveryRun room (current_of room) (steps_for room)
  runs-home h = record {
    obeys = λ last run. run-obeys steps-sound (current-length room) run;
    in-turn = λ last run. run-turn steps-sound (current-length room) run;
    ends = λ last run. ap (home room) (ends_there run) ∙ h;
  }

  runs-away : home room (after_all (current_of room) (steps_for room)) ≡ false → EndsAway room (current_of room) (steps_for room)
  runs-away h = record {
    sound = steps-sound;
    well-sourced = steps-sourced;
    obeys = λ last run. run-obeys steps-sound (current-length room) run;
    in-turn = λ last run. run-turn steps-sound (current-length room) run;
    away = λ last run. off-some room last (ap (home room) (ends_there run) ∙ h);
  }

  -- the counts and the cost fit the number returned
  made-packs : HasAmounts room → Packs (Plan (made_of room (steps_for room)))
  unfolding made_of
  made-packs a = let m = moves-511 in let n = steps-few in (omega arith, omega arith, cost-low room (steps_for room) a steps-shaped)

-- ---- a cluster that is taken

module _ (reserve : ℕ) (cluster before : List ℕ) (t : Taken reserve cluster before) where
  pub taken-answer : answer_of reserve cluster (length before) ≡ outcome (room_at reserve cluster) (steps_for (room_at reserve cluster))
  unfolding answer_of answer_reserve answer_check
  taken-answer = rw (le-ltb most_reserve reserve t.taken.reserve-taken, t.taken.cluster-whole, t.taken.target-good, le-ltb (length before) least_buffer t.buffer-long)

  sound-room : IsSound (room_at reserve cluster)
  sound-room = read-sound reserve cluster t.taken.cluster-whole

  -- its answer: which of the two, and with which counts
  blocks_is : blocks (answer_of reserve cluster (length before)) ≡ not (home (room_at reserve cluster) (after_all (current_of (room_at reserve cluster)) (steps_for (room_at reserve cluster))))
  unfolding outcome
  blocks_is = ap blocks taken-answer ∙ go (home (room_at reserve cluster) (after_all (current_of (room_at reserve cluster)) (steps_for (room_at reserve cluster))))
    where
      go : (b : Bool) → blocks (pick b (Plan (made_of (room_at reserve cluster) (steps_for (room_at reserve cluster)))) (Blocked (made_of (room_at reserve cluster) (steps_for (room_at reserve cluster))))) ≡ not b
      go true = refl
      go false = refl

  made-is : made_in (answer_of reserve cluster (length before)) ≡ made_of (room_at reserve cluster) (steps_for (room_at reserve cluster))
  unfolding outcome
  made-is = ap made_in taken-answer ∙ go (home (room_at reserve cluster) (after_all (current_of (room_at reserve cluster)) (steps_for (room_at reserve cluster))))
    where
      go : (b : Bool) → made_in (pick b (Plan (made_of (room_at reserve cluster) (steps_for (room_at reserve cluster)))) (Blocked (made_of (room_at reserve cluster) (steps_for (room_at reserve cluster))))) ≡
          made_of (room_at reserve cluster) (steps_for (room_at reserve cluster))
      go true = refl
      go false = refl

  -- its buffer
  front-for : (a : Answer) (out : List ℕ) → refuses a ≡ false → out ≡ buffer_of a (plan_bytes (steps_for (room_at reserve cluster))) before → front_of out ≡ plan_bytes (steps_for (room_at reserve cluster))
  unfolding buffer_of
  front-for (Plan made) out r e = ap front_of e ∙ front-is (room_at reserve cluster) sound-room (drop (length (plan_bytes (steps_for (room_at reserve cluster)))) before)
  front-for (Blocked made) out r e = ap front_of e ∙ front-is (room_at reserve cluster) sound-room (drop (length (plan_bytes (steps_for (room_at reserve cluster)))) before)
  front-for (Refused fault) out r e = absurd (false≢true (sym r))

  module _ (bytes : AreBytes cluster) (made : Made) (plan : List ℕ) (p : plan ≡ plan_bytes (steps_for (room_at reserve cluster))) where
    plan-steps : steps_of plan ≡ steps_for (room_at reserve cluster)
    plan-steps = steps-back (room_at reserve cluster) sound-room plan p

    written-made : made_of (room_at reserve cluster) (steps_for (room_at reserve cluster)) ≡ made → Written (room_at reserve cluster) plan made
    written-made m = rw (← m) (written-for (room_at reserve cluster) sound-room plan p)

    -- what the checker says of it, by its contract
    whole : Shaped reserve cluster plan
    whole = record { taken = t.taken; plan-whole = whole-is (room_at reserve cluster) sound-room plan p }

    checks : Checked reserve cluster plan (packed (verdict_of reserve cluster plan))
    checks = contract reserve cluster plan bytes (packed (verdict_of reserve cluster plan)) refl

    accepted-is : EveryRun (room_at reserve cluster) (current_of (room_at reserve cluster)) (steps_of plan) → verdict_of reserve cluster plan ≡ Verdict.Accepted (cost_of (room_at reserve cluster) (steps_of plan))
    accepted-is runs =
        let w = written-for (room_at reserve cluster) sound-room plan p in
        let good = (checks.exact whole w.named w.well-sourced).1 runs in
        says-accepted (packed (verdict_of reserve cluster plan)) (verdict_of reserve cluster plan) checks.told good ∙ ap Verdict.Accepted (checks.cost good)

    refused-is : EndsAway (room_at reserve cluster) (current_of (room_at reserve cluster)) (steps_of plan) → verdict_of reserve cluster plan ≡ Verdict.Refused Fault.OffTarget
    refused-is ends = (says-refused (packed (verdict_of reserve cluster plan)) (verdict_of reserve cluster plan) Fault.OffTarget checks.told).0 (checks.off-target.1 (whole, ends))

    planned-is : answer_of reserve cluster (length before) ≡ Plan made → Planned reserve cluster plan made
    planned-is e =
        let w = written-made (sym made-is ∙ ap made_in e) in
        let h : home (room_at reserve cluster) (after_all (current_of (room_at reserve cluster)) (steps_for (room_at reserve cluster))) ≡ true =
        not-false (home (room_at reserve cluster) (after_all (current_of (room_at reserve cluster)) (steps_for (room_at reserve cluster)))) (sym blocks_is ∙ ap blocks e) in
        let runs : EveryRun (room_at reserve cluster) (current_of (room_at reserve cluster)) (steps_of plan) = rw plan-steps (runs-home (room_at reserve cluster) sound-room h) in
        record { written = w; runs = runs; accepted = accepted-is runs ∙ ap Verdict.Accepted (sym w.cost) }

    halted-is : answer_of reserve cluster (length before) ≡ Blocked made → Halted reserve cluster plan made
    halted-is e =
        let h : home (room_at reserve cluster) (after_all (current_of (room_at reserve cluster)) (steps_for (room_at reserve cluster))) ≡ false =
        not-true (home (room_at reserve cluster) (after_all (current_of (room_at reserve cluster)) (steps_for (room_at reserve cluster)))) (sym blocks_is ∙ ap blocks e) in
        record {
          written = written-made (sym made-is ∙ ap made_in e);
          refused = refused-is (rw plan-steps (runs-away (room_at reserve cluster) sound-room h));
        }

  -- blocked means stuck
  blocked-is : (plan : List ℕ) → plan ≡ plan_bytes (steps_for (room_at reserve cluster)) →
      ((made : Made) × (answer_of reserve cluster (length before) ≡ Blocked made)) ↔ Stuck (room_at reserve cluster) (after_all (current_of (room_at reserve cluster)) (steps_of plan))
  unfolding outcome
  blocked-is plan p =
      rw (steps-back (room_at reserve cluster) sound-room plan p) (
        (λ b. rest-stuck (room_at reserve cluster) (after_all (current_of (room_at reserve cluster)) (steps_for (room_at reserve cluster))) (rests (room_at reserve cluster) sound-room)
            (not-true (home (room_at reserve cluster) (after_all (current_of (room_at reserve cluster)) (steps_for (room_at reserve cluster)))) (sym blocks_is ∙ ap blocks b.1))),
        (λ s. (made_of (room_at reserve cluster) (steps_for (room_at reserve cluster)), taken-answer ∙ rw (stuck-away (room_at reserve cluster) (after_all (current_of (room_at reserve cluster)) (steps_for (room_at reserve cluster))) s))),
      )

-- ---- the number returned

-- the answer to a record of bytes packs
packs : (reserve : ℕ) (cluster before : List ℕ) → AreBytes cluster → (a : Answer) → a ≡ answer_of reserve cluster (length before) → Packs a
packs reserve cluster before bytes (Plan made) e =
    let t = taken_of reserve cluster before (ap refuses (sym e)) in
    let m : made_of (room_at reserve cluster) (steps_for (room_at reserve cluster)) ≡ made = sym (made-is reserve cluster before t) ∙ ap made_in (sym e) in
    rw m at (made-packs (room_at reserve cluster) (sound-room reserve cluster before t) (read-amounts reserve cluster bytes))
packs reserve cluster before bytes (Blocked made) e =
    let t = taken_of reserve cluster before (ap refuses (sym e)) in
    let m : made_of (room_at reserve cluster) (steps_for (room_at reserve cluster)) ≡ made = sym (made-is reserve cluster before t) ∙ ap made_in (sym e) in
    rw m at (made-packs (room_at reserve cluster) (sound-room reserve cluster before t) (read-amounts reserve cluster bytes))
packs reserve cluster before bytes (Refused fault) e = tt

pub answer-packs : (reserve : ℕ) (cluster before after : List ℕ) (a : Answer) → Answers (room_at reserve cluster) (answer_of reserve cluster (length before)) before after a → AreBytes cluster → Packs a
answer-packs reserve cluster before after a g bytes = packs reserve cluster before bytes a g.is

-- ---- 23

-- of all faults only the reserve's has this number
number-23 : (f : BuildFault) → build_number f ≡ 23 → f ≡ BuildFault.Reserve
number-23 BuildFault.Reserve e = refl
number-23 (BuildFault.Cluster ClusterFault.TooShort) e = absurd (omega arith)
number-23 (BuildFault.Cluster ClusterFault.Version) e = absurd (omega arith)
number-23 (BuildFault.Cluster ClusterFault.Length) e = absurd (omega arith)
number-23 (BuildFault.Cluster ClusterFault.Counts) e = absurd (omega arith)
number-23 (BuildFault.Cluster ClusterFault.Fill) e = absurd (omega arith)
number-23 (BuildFault.Cluster ClusterFault.VmRow) e = absurd (omega arith)
number-23 (BuildFault.Cluster ClusterFault.Constraint) e = absurd (omega arith)
number-23 (BuildFault.Target TargetFault.Overfull) e = absurd (omega arith)
number-23 (BuildFault.Target TargetFault.Broken) e = absurd (omega arith)
number-23 BuildFault.Buffer e = absurd (omega arith)

tells-23 : (r : ℕ) (a : Answer) → TellsAnswer r a → SaysRefused r 23 0 → a ≡ Refused BuildFault.Reserve
tells-23 r (Plan made) t s = let p = t.0 in let q = s.0 in absurd (omega arith)
tells-23 r (Blocked made) t s = let p = t.0 in let q = s.0 in absurd (omega arith)
tells-23 r (Refused fault) t s = ap Refused (number-23 fault (sym t.0.1 ∙ s.1))

-- an answer that is given before the cluster is looked at
abbrev early : Answer → Bool
early (Plan made) = false
early (Blocked made) = false
early (Refused BuildFault.Reserve) = true
early (Refused (BuildFault.Cluster fault)) = false
early (Refused (BuildFault.Target fault)) = false
early (Refused BuildFault.Buffer) = false

module _ (reserve : ℕ) (cluster before : List ℕ) where
  made-later : (b : Bool) (one two : Made) → early (pick b (Plan one) (Blocked two)) ≡ false
  made-later true one two = refl
  made-later false one two = refl

  size-later : (b : Bool) (rest : Answer) → early rest ≡ false → early (pick b (Refused BuildFault.Buffer) rest) ≡ false
  size-later true rest l = refl
  size-later false rest l = l

  target-later : (c : Result (Unit {0}) TargetFault) (rest : Answer) → early rest ≡ false → early (answer_check BuildFault.Target c rest) ≡ false
  unfolding answer_check
  target-later (Ok tt) rest l = l
  target-later (Err fault) rest l = refl

  cluster-later : (c : Result (Unit {0}) ClusterFault) (rest : Answer) → early rest ≡ false → early (answer_check BuildFault.Cluster c rest) ≡ false
  unfolding answer_check
  cluster-later (Ok tt) rest l = l
  cluster-later (Err fault) rest l = refl

  later : early (answer_check BuildFault.Cluster (cluster_check cluster) (answer_check BuildFault.Target (target_check (room_at reserve cluster))
      (pick (ltb (length before) least_buffer) (Refused BuildFault.Buffer) (outcome (room_at reserve cluster) (steps_for (room_at reserve cluster)))))) ≡ false
  unfolding outcome
  later =
      cluster-later (cluster_check cluster) _ (target-later (target_check (room_at reserve cluster)) _ (size-later (ltb (length before) least_buffer) _
      (made-later (home (room_at reserve cluster) (after_all (current_of (room_at reserve cluster)) (steps_for (room_at reserve cluster)))) _ _)))

  is-reserve : answer_of reserve cluster (length before) ≡ Refused BuildFault.Reserve → most_reserve < reserve
  unfolding answer_of answer_reserve
  is-reserve e = go (ltb most_reserve reserve) refl _ later e
    where
      go : (b : Bool) → ltb most_reserve reserve ≡ b → (rest : Answer) → early rest ≡ false → pick b (Refused BuildFault.Reserve) rest ≡ Refused BuildFault.Reserve → most_reserve < reserve
      go true q rest l f = ltb-true most_reserve reserve q
      go false q rest l f = absurd (false≢true (sym l ∙ ap early f))

-- ---- all promises

module _ (reserve : ℕ) (cluster before after : List ℕ) (a : Answer) (r : ℕ) (g : Answers (room_at reserve cluster) (answer_of reserve cluster (length before)) before after a) (e : r ≡ packed_answer a)
    (bytes : AreBytes cluster) where
  told : TellsAnswer r (answer_of reserve cluster (length before))
  told = rw (e ∙ ap packed_answer g.is) (tells-answer (answer_of reserve cluster (length before)) (packs reserve cluster before bytes (answer_of reserve cluster (length before)) refl))

  -- a plan, or blocked, by what the number says
  plan-is : SaysGood r → answer_of reserve cluster (length before) ≡ Plan (told_made r)
  plan-is q = says-plan r (answer_of reserve cluster (length before)) told q

  halt-is : SaysBlocked r → answer_of reserve cluster (length before) ≡ Blocked (told_made r)
  halt-is q = says-blocked r (answer_of reserve cluster (length before)) told q

  taken-says : Taken reserve cluster before → SaysGood r ⊎ SaysBlocked r
  unfolding outcome
  taken-says t = go (home (room_at reserve cluster) (after_all (current_of (room_at reserve cluster)) (steps_for (room_at reserve cluster)))) (rw (taken-answer reserve cluster before t) at told)
    where
      go : (b : Bool) → TellsAnswer r (pick b (Plan (made_of (room_at reserve cluster) (steps_for (room_at reserve cluster)))) (Blocked (made_of (room_at reserve cluster) (steps_for (room_at reserve cluster))))) → SaysGood r ⊎ SaysBlocked r
      go true x = inl x.0
      go false x = inr x.0

  says-taken : SaysGood r ⊎ SaysBlocked r → Taken reserve cluster before
  says-taken (inl q) = taken_of reserve cluster before (ap refuses (plan-is q))
  says-taken (inr q) = taken_of reserve cluster before (ap refuses (halt-is q))

  front : (t : Taken reserve cluster before) → refuses (answer_of reserve cluster (length before)) ≡ false → front_of after ≡ plan_bytes (steps_for (room_at reserve cluster))
  front t n = front-for reserve cluster before t (answer_of reserve cluster (length before)) after n g.buffer

  not-refused : Taken reserve cluster before → refuses (answer_of reserve cluster (length before)) ≡ false
  not-refused t = go (taken-says t)
    where
      go : SaysGood r ⊎ SaysBlocked r → refuses (answer_of reserve cluster (length before)) ≡ false
      go (inl q) = ap refuses (plan-is q)
      go (inr q) = ap refuses (halt-is q)

  reserve-says : most_reserve < reserve → SaysRefused r 23 0
  unfolding answer_of answer_reserve
  reserve-says h = let u : TellsAnswer r (Refused BuildFault.Reserve) = rw (lt-ltb most_reserve reserve h) at told in u.0

  pub built : Built reserve cluster before after r
  built = record {
    is = e ∙ ap packed_answer g.is;
    told = told;
    buffer = g.buffer;
    reserved = (λ s. is-reserve reserve cluster before (tells-23 r (answer_of reserve cluster (length before)) told s), reserve-says);
    answers = (taken-says, says-taken);
    planned = λ q. let t = says-taken (inl q) in planned-is reserve cluster before t bytes (told_made r) (front_of after) (front t (ap refuses (plan-is q))) (plan-is q);
    halted = λ q. let t = says-taken (inr q) in halted-is reserve cluster before t bytes (told_made r) (front_of after) (front t (ap refuses (halt-is q))) (halt-is q);
    blocked = λ t.
        let x = blocked-is reserve cluster before t (front_of after) (front t (not-refused t)) in
        (λ q. x.0 (told_made r, halt-is q), λ s. let m = x.1 s in blocked-says r (answer_of reserve cluster (length before)) m.0 told m.1);
    sound = sound-orders (room_at reserve cluster);
  }
