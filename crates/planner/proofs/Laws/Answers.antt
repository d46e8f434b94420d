-- Laws on the answer: the record that is written, the refusals in their turn.
use Prim.Native.Nat.{ℕ, ◌+◌, ◌≤◌, ◌<◌}
use mathlib.Core.Bool.{Bool, true, false}
use mathlib.Core.List.{List, ◌++◌}
use mathlib.Core.Path.{◌≡◌, refl, sym, ap, ◌∙◌}
use native.Mathlib.Omega.{arith}
use lib.ListN.{length, take, drop, length-append, length-drop}
use lib.Seq.{take_at, length-take-le}
use lib.Dec.{ltb}
use borrow.Author.Tests.{lt-ltb, le-ltb}
use Rattle.std.specs.Prelude.{Result, Ok, Err}
use Rattle.records.specs.Base.{pick}
use Rattle.records.specs.Bytes.{bytes16, bytes32}
use Rattle.records.specs.Room.{Room, most_reserve, room_at, cluster_check, cluster_read, read_as}
use Rattle.records.specs.Plan.{steps_of, steps_bytes, header_bytes, record_bytes, written_version, plan_bytes, written, plan_check}
use Rattle.records.specs.declared.faults.ClusterFault.{ClusterFault}
use Rattle.records.specs.declared.faults.ReadFault.{ReadFault}
use Rattle.records.proofs.Laws.RoundTrip.{plan-length, plan-whole, steps-of-plan}
use Rattle.records.proofs.Laws.Written.{written-earlier, written-zero}
use Rattle.rules.specs.Moments.{current_of}
use Rattle.rules.specs.Rules.{target_check}
use Rattle.rules.proofs.Laws.Orders.{never}
use Rattle.rules.specs.Cost.{cost_of}
use Rattle.rules.specs.Verdict.{home}
use Rattle.rules.specs.Promises.{after_all}
use Rattle.rules.specs.declared.faults.TargetFault.{TargetFault}
use Rattle.planner.specs.Answer.{steps_for, made_of, outcome, answer_reserve, answer_check, answer_of, buffer_of, least_buffer}
use Rattle.planner.specs.Promises.{Answers}
use Rattle.planner.specs.Inner.{Trailed, read_refusal}
use Rattle.planner.specs.declared.steps.Trail.{Trail}
use Rattle.planner.specs.declared.answer.Made.{Made}
use Rattle.planner.specs.declared.answer.BuildFault.{BuildFault}
use Rattle.planner.specs.declared.answer.BuildFault.TheVariants.{Reserve, Cluster, Target, Buffer}
use Rattle.planner.specs.declared.answer.Answer.{Answer}
use Rattle.planner.specs.declared.answer.Answer.TheVariants.{Plan, Blocked, Refused}

-- ---- the record that is written

module _ (room : Room) (before mid : List ℕ) (trail : Trail) (t : Trailed room before mid trail) (b : least_buffer ≤ length before) where
  plan-low : length (plan_bytes (steps_for room)) ≤ least_buffer
  plan-low = let a = plan-length (steps_for room) t.tells in let m = t.moves-most in let n = t.steps-most in omega arith

  size_is : length (plan_bytes (steps_for room)) ≡ 7 + length (steps_bytes (steps_for room))
  unfolding plan_bytes record_bytes header_bytes bytes32 bytes16
  size_is = omega arith

  end_low : trail.end ≤ length before
  end_low = let a = plan-low in let c = size_is in let e = t.end in omega arith

  module _ (out : List ℕ) (f : out ≡ written mid 0 (header_bytes written_version trail.end trail.steps)) where
    record_is : out ≡ plan_bytes (steps_for room) ++ drop (length (plan_bytes (steps_for room))) before
    unfolding plan_bytes record_bytes header_bytes bytes32 bytes16
    record_is =
        let a = plan-low in let c = size_is in
        f ∙ rw (t.buffer, t.end, t.steps)
        (written-earlier before 0 (header_bytes written_version (7 + length (steps_bytes (steps_for room))) (length (steps_for room))) (steps_bytes (steps_for room)) (omega arith)) ∙
        written-zero before (plan_bytes (steps_for room))

    part-is : take trail.end out ≡ plan_bytes (steps_for room)
    part-is =
        let c = size_is in let e = t.end in
        ap (take trail.end) record_is ∙
        take_at (plan_bytes (steps_for room)) (drop (length (plan_bytes (steps_for room))) before) trail.end (omega arith)

    out-size : length out ≡ length before
    out-size =
        let a = plan-low in
        let c = length-drop (length (plan_bytes (steps_for room))) before in
        let d = ap length record_is ∙ length-append (plan_bytes (steps_for room)) (drop (length (plan_bytes (steps_for room))) before) in
        omega arith

    pub part_low : trail.end ≤ length out
    part_low = let a = out-size in let c = end_low in omega arith

    pub part_length : length (take trail.end out) ≡ trail.end
    part_length = length-take-le trail.end out part_low

    pub part-whole : plan_check (take trail.end out) ≡ Ok tt
    part-whole = ap plan_check part-is ∙ plan-whole (steps_for room) t.tells t.shaped

    module _ (cost : ℕ) (c : cost ≡ cost_of room (steps_of (take trail.end out))) where
      cost-is : cost ≡ cost_of room (steps_for room)
      cost-is = c ∙ ap (cost_of room) (ap steps_of part-is ∙ steps-of-plan (steps_for room) t.tells t.shaped)

      made : Made
      made = record { steps = trail.steps; moves = trail.moves; cost = cost }

      made-is : made ≡ made_of room (steps_for room)
      unfolding made made_of
      made-is i = record { steps = t.steps i; moves = t.moves i; cost = cost-is i }

      pub answer-plan : trail.home ≡ true → Answers room (outcome room (steps_for room)) before out (Plan (record { steps = trail.steps; moves = trail.moves; cost = cost }))
      unfolding made outcome buffer_of
      answer-plan h =
          let k : home room (after_all (current_of room) (steps_for room)) ≡ true = sym t.home ∙ h in
          record { is = rw k (ap Plan made-is); buffer = rw k record_is }

      pub answer-blocked : trail.home ≡ false → Answers room (outcome room (steps_for room)) before out (Blocked (record { steps = trail.steps; moves = trail.moves; cost = cost }))
      unfolding made outcome buffer_of
      answer-blocked h =
          let k : home room (after_all (current_of room) (steps_for room)) ≡ false = sym t.home ∙ h in
          record { is = rw k (ap Blocked made-is); buffer = rw k record_is }

-- ---- the refusals

-- one answer under two names
answers-same : (room : Room) (before after : List ℕ) (one two r : Answer) → one ≡ two → Answers room one before after r → Answers room two before after r
answers-same room before after one two r e a = rw e at a

refused-same : (room : Room) (before : List ℕ) (answer : Answer) (f : BuildFault) → answer ≡ Refused f → Answers room answer before before (Refused f)
unfolding buffer_of
refused-same room before answer f e = rw e (record { is = refl; buffer = refl })

-- from the target on
from-target : Room → ℕ → Answer
from-target room size = answer_check Target (target_check room) (pick (ltb size least_buffer) (Refused Buffer) (outcome room (steps_for room)))

-- what reading the cluster says of the answer
module _ (room : Room) (rest : Answer) where
  not-read : (late : Bool) (check : Result (Unit {0}) ClusterFault) (fault : ReadFault) → pick late (Err ReadFault.Reserve) (read_as room check) ≡ Err fault →
      pick late (Refused Reserve) (answer_check Cluster check rest) ≡ Refused (read_refusal fault)
  unfolding answer_check
  not-read true check fault e = let f : ReadFault.Reserve ≡ fault = cc in ap (λ (x : ReadFault). Refused (read_refusal x)) f
  not-read false (Ok tt) fault e = never (cc)
  not-read false (Err damage) fault e = let f : ReadFault.Record damage ≡ fault = cc in ap (λ (x : ReadFault). Refused (read_refusal x)) f

  was-read : (late : Bool) (check : Result (Unit {0}) ClusterFault) (read : Room) → pick late (Err ReadFault.Reserve) (read_as room check) ≡ Ok read →
      (room ≡ read) × (pick late (Refused Reserve) (answer_check Cluster check rest) ≡ rest)
  unfolding answer_check
  was-read true check read e = never (cc)
  was-read false (Ok tt) read e = (cc, refl)
  was-read false (Err damage) read e = never (cc)

module _ (reserve : ℕ) (s before : List ℕ) (r : Result Room ReadFault) (e : r ≡ cluster_read reserve s) where
  pub answer-read : (fault : ReadFault) (refusal : BuildFault) → r ≡ Err fault → refusal ≡ read_refusal fault →
      Answers (room_at reserve s) (answer_of reserve s (length before)) before before (Refused refusal)
  unfolding cluster_read answer_of answer_reserve from-target
  answer-read fault refusal q f =
      refused-same (room_at reserve s) before (answer_of reserve s (length before)) refusal
      (not-read (room_at reserve s) (from-target (room_at reserve s) (length before)) (ltb most_reserve reserve) (cluster_check s) fault (sym e ∙ q) ∙ ap Refused (sym f))

  module _ (room : Room) (q : r ≡ Ok room) where
    read-is : (room_at reserve s ≡ room) × (answer_of reserve s (length before) ≡ from-target (room_at reserve s) (length before))
    unfolding cluster_read answer_of answer_reserve from-target
    read-is = was-read (room_at reserve s) (from-target (room_at reserve s) (length before)) (ltb most_reserve reserve) (cluster_check s) room (sym e ∙ q)

    -- the answer to bytes is that to the room read from them
    whole-is : (after : List ℕ) (a : Answer) → Answers room (from-target room (length before)) before after a → Answers (room_at reserve s) (answer_of reserve s (length before)) before after a
    whole-is after a x =
        answers-same (room_at reserve s) before after (from-target (room_at reserve s) (length before)) (answer_of reserve s (length before)) a (sym read-is.1) (rw (← read-is.0) at x)

    module _ (found : Result (Unit {0}) TargetFault) (t : found ≡ target_check room) where
      pub answer-target : (fault : TargetFault) (refusal : BuildFault) → found ≡ Err fault → refusal ≡ Target fault →
          Answers (room_at reserve s) (answer_of reserve s (length before)) before before (Refused refusal)
      unfolding answer_check from-target
      answer-target fault refusal g f = whole-is before (Refused refusal) (refused-same room before (from-target room (length before)) refusal (rw (sym t ∙ g, f)))

      module _ (g : found ≡ Ok tt) where
        pub answer-buffer : length before < least_buffer → Answers (room_at reserve s) (answer_of reserve s (length before)) before before (Refused Buffer)
        unfolding answer_check from-target
        answer-buffer h = whole-is before (Refused Buffer) (refused-same room before (from-target room (length before)) Buffer (rw (sym t ∙ g, lt-ltb (length before) least_buffer h)))

        pub answer-taken : (after : List ℕ) (a : Answer) → Answers room (outcome room (steps_for room)) before after a → least_buffer ≤ length before →
            Answers (room_at reserve s) (answer_of reserve s (length before)) before after a
        unfolding answer_check from-target
        answer-taken after a x h =
            whole-is after a (answers-same room before after (outcome room (steps_for room)) (from-target room (length before)) a (rw (sym t ∙ g, le-ltb (length before) least_buffer h)) x)
