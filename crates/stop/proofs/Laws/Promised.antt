-- The promises of `stop`, each from the definitions and from the contract of `check`, gathered in `stopped`.
use Prim.Native.Nat.{ℕ, zero, suc, ◌-◌, ◌≤◌, ◌<◌}
use mathlib.Core.Bool.{Bool, true, false, not, ◌&&◌, false≢true}
use mathlib.Core.List.{List, [], ◌∷◌}
use mathlib.Core.Logic.{◌↔◌}
use mathlib.Core.Path.{◌≡◌, refl, sym, ap, ◌∙◌}
use native.Mathlib.Omega.{arith}
use lib.ListN.{length, get_or, take, drop}
use lib.Seq.{take_at}
use lib.Dec.{ltb, leb}
use borrow.Author.Tests.{lt-ltb, le-ltb, le-leb, eq-eqb, ltb-true, ltb-false, leb-true, leb-false}
use Rattle.std.specs.Prelude.{Result, Ok, Err}
use Rattle.records.specs.Base.{pick, all}
use Rattle.records.specs.Bytes.{AreBytes}
use Rattle.records.specs.Room.{Room, node_of, room_of, room_at, at_reserve, at_places, updated, cluster_check}
use Rattle.records.specs.Plan.{Step, steps_of}
use Rattle.records.proofs.Laws.Bools.{and_left, and_right, and_both}
use Rattle.records.proofs.Laws.Cluster.{nodes-most, whole-most}
use Rattle.records.proofs.Laws.Reserve.{room-nodes}
use Rattle.records.proofs.Laws.Updated.{updated-length, updated-other, updated-room, updated-whole}
use Rattle.records.proofs.Laws.Written.{written-zero}
use Rattle.rules.specs.Moments.{Placement, current_of, after, tally_at, at_rest}
use Rattle.rules.specs.Rules.{target_check}
use Rattle.rules.specs.Verdict.{verdict_of, packed}
use Rattle.rules.specs.Returned.{SaysGood, SaysRefused}
use Rattle.rules.specs.Promises.{named_all, Accepts, Checked}
use Rattle.rules.specs.declared.faults.Fault.{Fault}
use Rattle.rules.specs.declared.faults.Verdict.{Verdict}
use Rattle.rules.proofs.Laws.Orders.{never, after-length}
use Rattle.rules.proofs.Laws.Reserve.{current-same, named-same}
use Rattle.rules.proofs.Laws.Returned.{accepted-says}
use Rattle.rules.proofs.Laws.Verdicts.{only-holds, step-most, current-length}
use Rattle.rules.proofs.Laws.Taken.{cluster-whole}
use Rattle.rules.proofs.Laws.Contract.{contract}
use Rattle.stop.specs.Stops.{numbered, ended_moves, marked, marks_ok, stopped_at, stopped_record, accepted_stop, on_verdict, stop_of, buffer_of, packed_stop, told_length}
use Rattle.stop.specs.Promises.{Stops, StoppedWell, StepMarked, MarksKnown, TellsStop, Stopped, as_placed}
use Rattle.stop.specs.Inner.{Packs, as_outcome, array_stopped, stopped_places, Puts}
use Rattle.stop.specs.declared.outcome.StopFault.{StopFault}
use Rattle.stop.specs.declared.outcome.StopFault.TheVariants.{Check, NoStep, BadMark, Buffer}
use Rattle.stop.specs.declared.outcome.Outcome.{Outcome}
use Rattle.stop.specs.declared.outcome.Outcome.TheVariants.{Done, Refused}
use Rattle.stop.proofs.Laws.Placed.{placed-currents, placed-moment, placed-tally, placed-check, placed-reserve}
use Rattle.stop.proofs.Laws.Outcomes.{marked-first, marked-last, marked-each}
use Rattle.stop.proofs.Laws.Before.{after-all-length, places-at, record_is, stopped-known}
use Rattle.stop.proofs.Laws.Stopping.{stop-there, stop-memory, stop-cpu, stop-apart, stopped-up, some-stop, each-stop}
use Rattle.stop.proofs.Laws.Packing.{tells-stop, says-done, done-says, refused_says, says-no-step, says-bad-mark, says-short}

-- ---- the three tests of a stop

-- the outcome that they lead to, the buffer being too short if c
abbrev tested : ℕ → Bool → Bool → Bool → Outcome
tested size a b c = pick (not a) (Refused NoStep) (pick (not b) (Refused BadMark) (pick c (Refused Buffer) (Done size)))

module _ (size : ℕ) where
  tested-no-step : (a b c : Bool) → tested size a b c ≡ Refused NoStep → a ≡ false
  tested-no-step false b c e = refl
  tested-no-step true false c e = never (cc)
  tested-no-step true true false e = never (cc)
  tested-no-step true true true e = never (cc)

  tested-bad-mark : (a b c : Bool) → tested size a b c ≡ Refused BadMark → (a ≡ true) × (b ≡ false)
  tested-bad-mark false b c e = never (cc)
  tested-bad-mark true false c e = (refl, refl)
  tested-bad-mark true true false e = never (cc)
  tested-bad-mark true true true e = never (cc)

  tested-short : (a b c : Bool) → tested size a b c ≡ Refused Buffer → (a ≡ true) × (b ≡ true) × (c ≡ true)
  tested-short false b c e = never (cc)
  tested-short true false c e = never (cc)
  tested-short true true false e = never (cc)
  tested-short true true true e = (refl, refl, refl)

  tested-done : (k : ℕ) (a b c : Bool) → tested size a b c ≡ Done k → (a ≡ true) × (b ≡ true) × (c ≡ false) × (k ≡ size)
  tested-done k false b c e = never (cc)
  tested-done k true false c e = never (cc)
  tested-done k true true false e = (refl, refl, refl, cc)
  tested-done k true true true e = never (cc)

  tested-own : (f : Fault) (a b c : Bool) → tested size a b c ≡ Refused (Check f) → ⊥
  tested-own f false b c e = never (cc)
  tested-own f true false c e = never (cc)
  tested-own f true true false e = never (cc)
  tested-own f true true true e = never (cc)

-- ---- what the tests say

step-marked : (steps : List Step) (marks : List ℕ) (n : ℕ) → marked steps n marks ≡ true → StepMarked steps n marks
step-marked steps marks n e = record { first = marked-first steps marks n e; last = marked-last steps marks n e; each = marked-each steps marks n e }

marked-true : (steps : List Step) (marks : List ℕ) (n : ℕ) → StepMarked steps n marks → marked steps n marks ≡ true
unfolding marked
marked-true steps marks n s = rw (le-leb 1 n s.first, le-leb n (length steps) s.last, eq-eqb (length marks) (length (numbered steps n)) s.each)

marks-known : (marks : List ℕ) → marks_ok marks ≡ true → MarksKnown marks
unfolding marks_ok all
marks-known [] e i h = absurd (omega arith)
marks-known (mark ∷ marks) e zero h = leb-true mark 1 (and_left (leb mark 1) (all (λ m. leb m 1) marks) e)
marks-known (mark ∷ marks) e (suc i) h = marks-known marks (and_right (leb mark 1) (all (λ m. leb m 1) marks) e) i (omega arith)

marks-true : (marks : List ℕ) → MarksKnown marks → marks_ok marks ≡ true
unfolding marks_ok all
marks-true [] h = refl
marks-true (mark ∷ marks) h = and_both (le-leb mark 1 (h 0 (omega arith))) (marks-true marks (λ i k. h (suc i) (omega arith)))

marks-false : (marks : List ℕ) → marks_ok marks ≡ false → (i : ℕ) × (i < length marks) × (1 < get_or marks i 0)
unfolding marks_ok all
marks-false [] e = absurd (false≢true (sym e))
marks-false (mark ∷ marks) e = go (leb mark 1) refl e (marks-false marks)
  where
    go : (b : Bool) → leb mark 1 ≡ b → (b && all (λ m. leb m 1) marks) ≡ false → (all (λ m. leb m 1) marks ≡ false → (i : ℕ) × (i < length marks) × (1 < get_or marks i 0)) →
        (i : ℕ) × (i < suc (length marks)) × (1 < get_or (mark ∷ marks) i 0)
    go true q f more = let r = more f in let h = r.1 in (suc r.0, omega arith, r.2)
    go false q f more = (0, omega arith, leb-false mark 1 q)

decided : (b : Bool) → (b ≡ true → ⊥) → b ≡ false
decided true h = absurd (h refl)
decided false h = refl

-- ---- behind the checker

module _ (reserve : ℕ) (cluster plan : List ℕ) (n : ℕ) (marks : List ℕ) (size : ℕ) where
  accepted-is : Accepts reserve cluster plan → stop_of reserve cluster plan n marks size ≡ accepted_stop cluster plan n marks size
  unfolding stop_of on_verdict
  accepted-is a = rw a.1

  refused-is : (f : Fault) → verdict_of reserve cluster plan ≡ Verdict.Refused f → stop_of reserve cluster plan n marks size ≡ Refused (Check f)
  unfolding stop_of on_verdict
  refused-is f e = rw e

  -- an outcome that is not the checker's is of an accepted plan
  abbrev Own : Outcome → Type 0
  Own o = (f : Fault) → o ≡ Refused (Check f) → ⊥

  own-accepted : (o : Outcome) → Own o → stop_of reserve cluster plan n marks size ≡ o → Accepts reserve cluster plan × (accepted_stop cluster plan n marks size ≡ o)
  own-accepted o own e = go (verdict_of reserve cluster plan) refl
    where
      go : (v : Verdict) → verdict_of reserve cluster plan ≡ v → Accepts reserve cluster plan × (accepted_stop cluster plan n marks size ≡ o)
      go (Verdict.Accepted cost) q = ((cost, q), sym (accepted-is (cost, q)) ∙ e)
      go (Verdict.Refused f) q = absurd (own f (sym e ∙ refused-is f q))

  opened : accepted_stop cluster plan n marks size ≡ tested (length cluster) (marked (steps_of plan) n marks) (marks_ok marks) (ltb size (length cluster))
  unfolding accepted_stop
  opened = refl

  at-tests : (a b c : Bool) → Accepts reserve cluster plan → marked (steps_of plan) n marks ≡ a → marks_ok marks ≡ b → ltb size (length cluster) ≡ c →
      stop_of reserve cluster plan n marks size ≡ tested (length cluster) a b c
  at-tests a b c s e f g = accepted-is s ∙ opened ∙ rw (e, f, g)

-- and the checker's is that of a plan that it refuses
module _ (reserve : ℕ) (cluster plan : List ℕ) (n : ℕ) (marks : List ℕ) (size : ℕ) (f : Fault) where
  check-refused : stop_of reserve cluster plan n marks size ≡ Refused (Check f) → verdict_of reserve cluster plan ≡ Verdict.Refused f
  check-refused e = go (verdict_of reserve cluster plan) refl
    where
      go : (v : Verdict) → verdict_of reserve cluster plan ≡ v → v ≡ Verdict.Refused f
      go (Verdict.Accepted cost) q =
          absurd (tested-own (length cluster) f (marked (steps_of plan) n marks) (marks_ok marks) (ltb size (length cluster))
          (sym (opened reserve cluster plan n marks size) ∙ sym (accepted-is reserve cluster plan n marks size (cost, q)) ∙ e))
      go (Verdict.Refused g) q = let h : Refused (Check g) ≡ Refused (Check f) = sym (refused-is reserve cluster plan n marks size g q) ∙ e in let k : g ≡ f = cc in ap Verdict.Refused k

own-done : (k : ℕ) (f : Fault) → Done k ≡ Refused (Check f) → ⊥
own-done k f e = never (cc)

own-no-step : (f : Fault) → Refused NoStep ≡ Refused (Check f) → ⊥
own-no-step f e = never (cc)

own-bad-mark : (f : Fault) → Refused BadMark ≡ Refused (Check f) → ⊥
own-bad-mark f e = never (cc)

own-short : (f : Fault) → Refused Buffer ≡ Refused (Check f) → ⊥
own-short f e = never (cc)

-- ---- the contracts of the inner functions

pub stops-refused : (reserve : ℕ) (cluster plan : List ℕ) (n : ℕ) (marks before : List ℕ) (f : Fault) → verdict_of reserve cluster plan ≡ Verdict.Refused f →
    Stops reserve cluster plan n marks before before (Refused (Check f))
unfolding buffer_of
stops-refused reserve cluster plan n marks before f e = record { is = sym (refused-is reserve cluster plan n marks (length before) f e); buffer = refl }

-- no step has 15 whatever the reserve
named-all-same : (reserve : ℕ) (room : Room) (places : Placement) (steps : List Step) → named_all (at_reserve reserve room) places steps ≡ named_all room places steps
unfolding named_all
named-all-same reserve room places [] = refl
named-all-same reserve room places (step ∷ steps) = rw (named-same reserve room places 0 step, named-all-same reserve room (after places step) steps)

module _ (reserve : ℕ) (cluster plan : List ℕ) (a : Accepts reserve cluster plan) where
  names : named_all (room_at reserve cluster) (current_of (room_at reserve cluster)) (steps_of plan) ≡ true
  names = (only-holds reserve cluster plan a.0 a.1).1

  own-names : named_all (room_of cluster) (current_of (room_of cluster)) (steps_of plan) ≡ true
  own-names = sym (named-all-same reserve (room_of cluster) (current_of (room_of cluster)) (steps_of plan)) ∙ rw (current-same reserve (room_of cluster)) at names

-- behind the checker: 20 and 21, then what is put
module _ (reserve : ℕ) (cluster plan : List ℕ) (accepts : Accepts reserve cluster plan) (n : ℕ) (marks before : List ℕ)
    (found : Result (List ℕ) StopFault) (g : found ≡ stopped_places (room_at reserve cluster) (steps_of plan) n marks) where
  array : List ℕ
  array = array_stopped (room_at reserve cluster) (steps_of plan) n marks

  tests-of : (a b : Bool) → Result (List ℕ) StopFault
  tests-of a b = pick (not a) (Err NoStep) (pick (not b) (Err BadMark) (Ok array))

  found-is : found ≡ tests-of (marked (steps_of plan) n marks) (marks_ok marks)
  unfolding stopped_places tests-of array
  found-is = g

  pub stops-fault : (fault : StopFault) → found ≡ Err fault → Stops reserve cluster plan n marks before before (Refused fault)
  unfolding buffer_of tests-of
  stops-fault fault q = record { is = go (marked (steps_of plan) n marks) (marks_ok marks) refl refl (sym found-is ∙ q); buffer = refl }
    where
      go : (a b : Bool) → marked (steps_of plan) n marks ≡ a → marks_ok marks ≡ b → tests-of a b ≡ Err fault → Refused fault ≡ stop_of reserve cluster plan n marks (length before)
      go false b h k x =
          let same : NoStep ≡ fault = cc in
          ap Refused (sym same) ∙ sym (at-tests reserve cluster plan n marks (length before) false b (ltb (length before) (length cluster)) accepts h k refl)
      go true false h k x =
          let same : BadMark ≡ fault = cc in
          ap Refused (sym same) ∙ sym (at-tests reserve cluster plan n marks (length before) true false (ltb (length before) (length cluster)) accepts h k refl)
      go true true h k x = absurd (cc)

  module _ (places : List ℕ) (q : found ≡ Ok places) where
    passed-tests : (marked (steps_of plan) n marks ≡ true) × (marks_ok marks ≡ true) × (places ≡ array)
    unfolding tests-of
    passed-tests = go (marked (steps_of plan) n marks) (marks_ok marks) refl refl (sym found-is ∙ q)
      where
        go : (a b : Bool) → marked (steps_of plan) n marks ≡ a → marks_ok marks ≡ b → tests-of a b ≡ Ok places → (a ≡ true) × (b ≡ true) × (places ≡ array)
        go false b h k x = absurd (cc)
        go true false h k x = absurd (cc)
        go true true h k x = (refl, refl, cc)

    pub stops-put : (after : List ℕ) (r : Result ℕ StopFault) → Puts cluster places before after r → AreBytes cluster → Stops reserve cluster plan n marks before after (as_outcome r)
    unfolding array
    stops-put after r p b = record {
      is =
          ap as_outcome p.is ∙ sized (ltb (length before) (length cluster)) ∙
          sym (at-tests reserve cluster plan n marks (length before) true true (ltb (length before) (length cluster)) accepts passed-tests.0 passed-tests.1 refl);
      buffer =
          p.buffer ∙
          ap (λ (l : List ℕ). buffer_of (as_outcome r) l before)
          (ap (updated cluster) passed-tests.2 ∙
          record_is reserve cluster plan marks n (cluster-whole reserve cluster plan accepts) (names reserve cluster plan accepts) passed-tests.0);
    }
      where
        sized : (c : Bool) → as_outcome (pick c (Err Buffer) (Ok (length cluster))) ≡ tested (length cluster) true true c
        sized true = refl
        sized false = refl

-- ---- what holds of the record written

module _ (reserve : ℕ) (cluster plan : List ℕ) (b : AreBytes cluster) (a : Accepts reserve cluster plan) (n : ℕ) (marks : List ℕ) (m : marked (steps_of plan) n marks ≡ true) where
  -- the checker's contract
  checks : Checked reserve cluster plan (packed (verdict_of reserve cluster plan))
  checks = contract reserve cluster plan b (packed (verdict_of reserve cluster plan)) refl

  good : SaysGood (packed (verdict_of reserve cluster plan))
  good = accepted-says (packed (verdict_of reserve cluster plan)) (verdict_of reserve cluster plan) a.0 checks.told a.1

  whole : cluster_check cluster ≡ Ok tt
  whole = cluster-whole reserve cluster plan a

  abbrev places : Placement
  places = stopped_at (room_of cluster) (steps_of plan) n marks

  -- the placement has a place for each VM
  places-long : length places ≡ length (room_at reserve cluster).vms
  unfolding stopped_at at_reserve
  places-long = after-length _ (ended_moves (numbered (steps_of plan) n) marks) ∙ after-all-length (current_of (room_of cluster)) (take (n - 1) (steps_of plan)) ∙ current-length (room_of cluster)

  module _ (bytes : List ℕ) (e : bytes ≡ stopped_record cluster plan n marks) where
    bytes-are : bytes ≡ updated cluster places
    unfolding stopped_record
    bytes-are = e

    room-is : room_of bytes ≡ at_places places (room_of cluster)
    room-is = ap room_of bytes-are ∙ updated-room cluster places whole

    left_is : room_at reserve bytes ≡ at_places places (room_at reserve cluster)
    left_is = ap (at_reserve reserve) room-is ∙ placed-reserve places (room_of cluster) reserve

    currents-are : current_of (room_at reserve bytes) ≡ stopped_at (room_at reserve cluster) (steps_of plan) n marks
    currents-are = ap current_of left_is ∙ placed-currents places (room_at reserve cluster) places-long ∙ sym (places-at reserve cluster marks (steps_of plan) n)

    rest-is : as_placed (room_at reserve bytes) ≡ at_rest (room_at reserve cluster) (stopped_at (room_at reserve cluster) (steps_of plan) n marks)
    rest-is =
        ap (λ (p : Placement). at_rest (room_at reserve bytes) p) currents-are ∙
        ap (λ (room : Room). at_rest room (stopped_at (room_at reserve cluster) (steps_of plan) n marks)) left_is ∙
        placed-moment places (room_at reserve cluster) (stopped_at (room_at reserve cluster) (steps_of plan) n marks) []

    tally-is : (d : ℕ) → tally_at (room_at reserve bytes) d (as_placed (room_at reserve bytes)) ≡
        tally_at (room_at reserve cluster) d (at_rest (room_at reserve cluster) (stopped_at (room_at reserve cluster) (steps_of plan) n marks))
    tally-is d =
        ap (tally_at (room_at reserve bytes) d) rest-is ∙
        ap (λ (room : Room). tally_at room d (at_rest (room_at reserve cluster) (stopped_at (room_at reserve cluster) (steps_of plan) n marks))) left_is ∙
        placed-tally places (room_at reserve cluster) d (at_rest (room_at reserve cluster) (stopped_at (room_at reserve cluster) (steps_of plan) n marks))

    node-is : (d : ℕ) → node_of (room_at reserve bytes) d ≡ node_of (room_at reserve cluster) d
    unfolding node_of at_places
    node-is d = ap (λ (room : Room). node_of room d) left_is

    stopped-well : StoppedWell reserve cluster plan n marks bytes (room_at reserve cluster) (room_at reserve bytes)
    stopped-well =
        let first = marked-first (steps_of plan) marks n m in
        let last = marked-last (steps_of plan) marks n m in
        let each = marked-each (steps_of plan) marks n m in
        let name = names reserve cluster plan a in
        let few : length (room_at reserve cluster).nodes ≤ 64 = rw (room-nodes reserve cluster) (nodes-most cluster whole) in
        record {
          is = e;
          long = ap length bytes-are ∙ updated-length cluster places;
          others = λ i h. ap (λ (l : List ℕ). get_or l i 0) bytes-are ∙ updated-other cluster places i h;
          stands-for = room-is;
          places = currents-are;
          there = rw currents-are (stop-there (room_at reserve cluster) (steps_of plan) n marks name first last each);
          memory = λ d h k. rw (tally-is d, node-is d) (stop-memory (room_at reserve cluster) (steps_of plan) n marks name first last each (checks.auditor good) d h k);
          cpu = λ d h k. rw (tally-is d, node-is d) (stop-cpu (room_at reserve cluster) (steps_of plan) n marks name first last each (checks.auditor good) d h k);
          apart = λ v w k p. rw rest-is (stop-apart (room_at reserve cluster) (steps_of plan) n marks name first last each (checks.apart good) v w k p);
          running = λ v h k t.
              rw currents-are (each-stop _ (room_at reserve cluster) (steps_of plan) n marks
              (stopped-up (room_at reserve cluster) few v t (steps_of plan) n marks name first last k));
          some-stop = some-stop (room_at reserve cluster) (steps_of plan) n marks;
          again = record {
            reserve-taken = (checks.only good).0.taken.reserve-taken;
            cluster-whole = ap cluster_check bytes-are ∙ updated-whole cluster places whole (stopped-known cluster marks (steps_of plan) n whole (own-names reserve cluster plan a) m);
            target-good = ap target_check left_is ∙ placed-check places (room_at reserve cluster) ∙ (checks.only good).0.taken.target-good;
          };
        }

-- ---- the number returned

-- an outcome has room in it
pub stop-packs : (reserve : ℕ) (cluster plan : List ℕ) (n : ℕ) (marks before after : List ℕ) (o : Outcome) → Stops reserve cluster plan n marks before after o → Packs o
stop-packs reserve cluster plan n marks before after o s = go o s.is
  where
    size-most : (k : ℕ) → Done k ≡ stop_of reserve cluster plan n marks (length before) → k ≤ 65535
    size-most k q =
        let w = own-accepted reserve cluster plan n marks (length before) (Done k) (own-done k) (sym q) in
        let t = tested-done (length cluster) k (marked (steps_of plan) n marks) (marks_ok marks) (ltb (length before) (length cluster)) (sym (opened reserve cluster plan n marks (length before)) ∙ w.1) in
        let l = whole-most cluster (cluster-whole reserve cluster plan w.0) in
        let e = t.3 in
        omega arith

    go : (o : Outcome) → o ≡ stop_of reserve cluster plan n marks (length before) → Packs o
    go (Done k) q = size-most k q
    go (Refused (Check f)) q = step-most reserve cluster plan f (check-refused reserve cluster plan n marks (length before) f (sym q))
    go (Refused NoStep) q = omega arith
    go (Refused BadMark) q = omega arith
    go (Refused Buffer) q = omega arith

module _ (reserve : ℕ) (cluster plan : List ℕ) (n : ℕ) (marks before after : List ℕ) (b : AreBytes cluster) where
  abbrev outcome : Outcome
  outcome = stop_of reserve cluster plan n marks (length before)

  module _ (o : Outcome) (s : Stops reserve cluster plan n marks before after o) (r : ℕ) (q : r ≡ packed_stop o) where
    told : TellsStop r outcome
    told = rw (← s.is, q) (tells-stop o (stop-packs reserve cluster plan n marks before after o s))

    -- the tests of an outcome that is the stop's own
    tests : (x : Outcome) → ((f : Fault) → x ≡ Refused (Check f) → ⊥) → outcome ≡ x →
        Accepts reserve cluster plan × (tested (length cluster) (marked (steps_of plan) n marks) (marks_ok marks) (ltb (length before) (length cluster)) ≡ x)
    tests x own e =
        let w = own-accepted reserve cluster plan n marks (length before) x own e in
        (w.0, sym (opened reserve cluster plan n marks (length before)) ∙ w.1)

    no-step-is : SaysRefused r 20 0 ↔ (Accepts reserve cluster plan × (StepMarked (steps_of plan) n marks → ⊥))
    no-step-is = (
      (λ x.
          let w = tests (Refused NoStep) own-no-step (says-no-step r outcome told x) in
          let t = tested-no-step (length cluster) (marked (steps_of plan) n marks) (marks_ok marks) (ltb (length before) (length cluster)) w.1 in
          (w.0, λ y. false≢true (sym t ∙ marked-true (steps_of plan) marks n y))),
      (λ x.
          refused_says r outcome NoStep told
          (at-tests reserve cluster plan n marks (length before) false (marks_ok marks) (ltb (length before) (length cluster)) x.0
          (decided (marked (steps_of plan) n marks) (λ y. x.1 (step-marked (steps_of plan) marks n y))) refl refl)),
    )

    bad-mark-is : SaysRefused r 21 0 ↔ (Accepts reserve cluster plan × StepMarked (steps_of plan) n marks × (i : ℕ) × (i < length marks) × (1 < get_or marks i 0))
    bad-mark-is = (
      (λ x.
          let w = tests (Refused BadMark) own-bad-mark (says-bad-mark r outcome told x) in
          let t = tested-bad-mark (length cluster) (marked (steps_of plan) n marks) (marks_ok marks) (ltb (length before) (length cluster)) w.1 in
          let m = marks-false marks t.1 in
          (w.0, step-marked (steps_of plan) marks n t.0, m.0, m.1, m.2)),
      (λ x.
          refused_says r outcome BadMark told
          (at-tests reserve cluster plan n marks (length before) true false (ltb (length before) (length cluster)) x.0 (marked-true (steps_of plan) marks n x.1)
          (decided (marks_ok marks) (λ y. let h = marks-known marks y x.2 x.3 in let k = x.4 in omega arith)) refl)),
    )

    short-is : SaysRefused r 22 0 ↔ (Accepts reserve cluster plan × StepMarked (steps_of plan) n marks × MarksKnown marks × (length before < length cluster))
    short-is = (
      (λ x.
          let w = tests (Refused Buffer) own-short (says-short r outcome told x) in
          let t = tested-short (length cluster) (marked (steps_of plan) n marks) (marks_ok marks) (ltb (length before) (length cluster)) w.1 in
          (w.0, step-marked (steps_of plan) marks n t.0, marks-known marks t.1, ltb-true (length before) (length cluster) t.2)),
      (λ x.
          refused_says r outcome Buffer told
          (at-tests reserve cluster plan n marks (length before) true true true x.0 (marked-true (steps_of plan) marks n x.1) (marks-true marks x.2)
          (lt-ltb (length before) (length cluster) x.3))),
    )

    done-tests : SaysGood r → Accepts reserve cluster plan × (marked (steps_of plan) n marks ≡ true) × (marks_ok marks ≡ true) × (ltb (length before) (length cluster) ≡ false) × (told_length r ≡ length cluster)
    done-tests g =
        let w = tests (Done (told_length r)) (own-done (told_length r)) (says-done r outcome told g) in
        let t = tested-done (length cluster) (told_length r) (marked (steps_of plan) n marks) (marks_ok marks) (ltb (length before) (length cluster)) w.1 in
        (w.0, t.0, t.1, t.2, t.3)

    stopped-is : SaysGood r ↔ (Accepts reserve cluster plan × StepMarked (steps_of plan) n marks × MarksKnown marks × (length cluster ≤ length before))
    stopped-is = (
      (λ g. let t = done-tests g in (t.0, step-marked (steps_of plan) marks n t.1, marks-known marks t.2, ltb-false (length before) (length cluster) t.3)),
      (λ x.
          done-says r outcome (length cluster) told
          (at-tests reserve cluster plan n marks (length before) true true false x.0 (marked-true (steps_of plan) marks n x.1) (marks-true marks x.2)
          (le-ltb (length before) (length cluster) x.3))),
    )

    buffer-is : after ≡ buffer_of outcome (stopped_record cluster plan n marks) before
    buffer-is = rw (← s.is) s.buffer

    front-is : SaysGood r → take (told_length r) after ≡ stopped_record cluster plan n marks
    unfolding buffer_of stopped_record
    front-is g =
        let t = done-tests g in
        let d : outcome ≡ Done (told_length r) = says-done r outcome told g in
        let l : length (stopped_record cluster plan n marks) ≡ told_length r = updated-length cluster (stopped_at (room_of cluster) (steps_of plan) n marks) ∙ sym t.4 in
        ap (take (told_length r)) (buffer-is ∙ ap (λ (x : Outcome). buffer_of x (stopped_record cluster plan n marks) before) d ∙ written-zero before (stopped_record cluster plan n marks)) ∙
        take_at (stopped_record cluster plan n marks) (drop (length (stopped_record cluster plan n marks)) before) (told_length r) l

    pub stopped : Stopped reserve cluster plan n marks before after r
    stopped = record {
      is = q ∙ ap packed_stop s.is;
      told = told;
      buffer = buffer-is;
      checked = λ f e. q ∙ ap packed_stop (s.is ∙ refused-is reserve cluster plan n marks (length before) f e) ∙ sym (ap packed e);
      no_step = no-step-is;
      bad-mark = bad-mark-is;
      short = short-is;
      stopped = stopped-is;
      written = λ g. let t = done-tests g in stopped-well reserve cluster plan b t.0 n marks t.1 (take (told_length r) after) (front-is g);
    }
