-- The promises of `split`, each from the definitions and from the contract of `check`, gathered in `split-promised`.
use Prim.Native.Nat.{ℕ, ◌≤◌, ◌<◌, ◌^◌}
use mathlib.Core.Bool.{Bool, true, false}
use mathlib.Core.List.{List, [], ◌++◌}
use mathlib.Core.Logic.{◌↔◌, ◌⊎◌, inl, inr, ⊎_elim}
use mathlib.Core.Path.{◌≡◌, refl, sym, ap, ◌∙◌}
use native.Mathlib.Omega.{arith}
use lib.ListN.{length, drop}
use lib.Dec.{ltb}
use borrow.Author.Tests.{lt-ltb, le-ltb, ltb-true, ltb-false}
use Rattle.std.specs.Prelude.{Ok}
use Rattle.records.specs.Base.{pick}
use Rattle.records.specs.Bytes.{AreBytes}
use Rattle.records.specs.Room.{room_at}
use Rattle.records.specs.Plan.{move_total, steps_of, most_steps, plan_check, header_bytes, kept_version, written_version, front_of, written}
use Rattle.records.specs.declared.faults.PlanFault.{PlanFault}
use Rattle.records.proofs.Laws.Sound.{read-amounts}
use Rattle.records.proofs.Laws.Steps.{empty-steps}
use Rattle.records.proofs.Laws.Written.{written-zero}
use Rattle.records.proofs.Laws.RoundTrip.{record-version, record-none, kept-none}
use Rattle.rules.specs.Moments.{current_of}
use Rattle.rules.specs.Cost.{cost_of}
use Rattle.rules.specs.Verdict.{verdict_of, packed}
use Rattle.rules.specs.Returned.{SaysGood, SaysRefused}
use Rattle.rules.specs.Promises.{Accepts, Checked, AcceptedDivided}
use Rattle.rules.specs.declared.faults.Fault.{Fault}
use Rattle.rules.specs.declared.faults.Verdict.{Verdict}
use Rattle.rules.proofs.Laws.Orders.{never}
use Rattle.rules.proofs.Laws.Returned.{accepted-says}
use Rattle.rules.proofs.Laws.Costs.{cost-low}
use Rattle.rules.proofs.Laws.Verdicts.{only-holds, accepted-steps, step-most}
use Rattle.rules.proofs.Laws.Taken.{plan-whole}
use Rattle.rules.proofs.Laws.Contract.{contract}
use Rattle.split.specs.Splits.{all_singles, split_record, least_split, divided_into, on_verdict, accepted_split, split_of, buffer_of, packed_split}
use Rattle.split.specs.Promises.{SplitWell, told_divided, TellsSplit, Splits, Split}
use Rattle.split.specs.Inner.{Packs}
use Rattle.split.specs.declared.outcome.Divided.{Divided}
use Rattle.split.specs.declared.outcome.SplitFault.TheVariants.{Check, Buffer, TooMany}
use Rattle.split.specs.declared.outcome.Outcome.{Outcome}
use Rattle.split.specs.declared.outcome.Outcome.TheVariants.{Done, Refused}
use Rattle.split.proofs.Laws.Singles.{all-length, all-divide, all-single, all-rise, singles-most}
use Rattle.split.proofs.Laws.Writing.{split_steps, split-shaped, split-front, split-low}
use Rattle.split.proofs.Laws.Packing.{tells-split, says-done, done-says, refused_says, says-short, says-many}

-- ---- the two tests of a split

-- the outcome that they lead to: a short buffer, too many steps
abbrev tested : Divided → Bool → Bool → Outcome
tested divided a b = pick a (Refused Buffer) (pick b (Refused TooMany) (Done divided))

module _ (divided : Divided) where
  tested-short : (a b : Bool) → tested divided a b ≡ Refused Buffer → a ≡ true
  tested-short true b e = refl
  tested-short false true e = never (cc)
  tested-short false false e = never (cc)

  tested-many : (a b : Bool) → tested divided a b ≡ Refused TooMany → (a ≡ false) × (b ≡ true)
  tested-many true b e = never (cc)
  tested-many false true e = (refl, refl)
  tested-many false false e = never (cc)

  tested-done : (d : Divided) (a b : Bool) → tested divided a b ≡ Done d → (a ≡ false) × (b ≡ false) × (d ≡ divided)
  tested-done d true b e = never (cc)
  tested-done d false true e = never (cc)
  tested-done d false false e = (refl, refl, cc)

  tested-own : (f : Fault) (a b : Bool) → tested divided a b ≡ Refused (Check f) → ⊥
  tested-own f true b e = never (cc)
  tested-own f false true e = never (cc)
  tested-own f false false e = never (cc)

-- ---- behind the checker

-- what is answered, and whether the steps are too many
abbrev into : ℕ → List ℕ → List ℕ → Divided
into reserve cluster plan = divided_into (room_at reserve cluster) (all_singles (steps_of plan))

abbrev many : List ℕ → Bool
many plan = ltb most_steps (length (all_singles (steps_of plan)))

module _ (reserve : ℕ) (cluster plan : List ℕ) (size : ℕ) where
  accepted-is : Accepts reserve cluster plan → split_of reserve cluster plan size ≡ tested (into reserve cluster plan) (ltb size least_split) (many plan)
  unfolding split_of on_verdict accepted_split
  accepted-is a = rw a.1

  refused-is : (f : Fault) → verdict_of reserve cluster plan ≡ Verdict.Refused f → split_of reserve cluster plan size ≡ Refused (Check f)
  unfolding split_of on_verdict
  refused-is f e = rw e

  -- an outcome that is not the checker's is of an accepted plan, and what the tests lead to
  own-accepted : (o : Outcome) → ((f : Fault) → o ≡ Refused (Check f) → ⊥) → split_of reserve cluster plan size ≡ o → Accepts reserve cluster plan × (tested (into reserve cluster plan) (ltb size least_split) (many plan) ≡ o)
  own-accepted o own e = go (verdict_of reserve cluster plan) refl
    where
      go : (v : Verdict) → verdict_of reserve cluster plan ≡ v → Accepts reserve cluster plan × (tested (into reserve cluster plan) (ltb size least_split) (many plan) ≡ o)
      go (Verdict.Accepted cost) q = ((cost, q), sym (accepted-is (cost, q)) ∙ e)
      go (Verdict.Refused f) q = absurd (own f (sym e ∙ refused-is f q))

  -- and the checker's is that of a plan that it refuses
  check-refused : (f : Fault) → split_of reserve cluster plan size ≡ Refused (Check f) → verdict_of reserve cluster plan ≡ Verdict.Refused f
  check-refused f e = go (verdict_of reserve cluster plan) refl
    where
      go : (v : Verdict) → verdict_of reserve cluster plan ≡ v → v ≡ Verdict.Refused f
      go (Verdict.Accepted cost) q = absurd (tested-own (into reserve cluster plan) f (ltb size least_split) (many plan) (sym (accepted-is (cost, q)) ∙ e))
      go (Verdict.Refused g) q = let h : Refused (Check g) ≡ Refused (Check f) = sym (refused-is g q) ∙ e in let k : g ≡ f = cc in ap Verdict.Refused k

own-done : (d : Divided) (f : Fault) → Done d ≡ Refused (Check f) → ⊥
own-done d f e = never (cc)

own-short : (f : Fault) → Refused Buffer ≡ Refused (Check f) → ⊥
own-short f e = never (cc)

own-many : (f : Fault) → Refused TooMany ≡ Refused (Check f) → ⊥
own-many f e = never (cc)

-- ---- the contracts of the inner functions

module _ (reserve : ℕ) (cluster plan before : List ℕ) where
  pub splits-refused : (f : Fault) → verdict_of reserve cluster plan ≡ Verdict.Refused f → Splits reserve cluster plan before before (Refused (Check f))
  unfolding buffer_of
  splits-refused f e = record { is = sym (refused-is reserve cluster plan (length before) f e); buffer = refl }

  -- behind the checker: 10 and 14, then the record
  module _ (accepts : Accepts reserve cluster plan) where
    pub splits-short : length before < least_split → Splits reserve cluster plan before before (Refused Buffer)
    unfolding buffer_of
    splits-short h = record { is = sym (accepted-is reserve cluster plan (length before) accepts ∙ rw (lt-ltb (length before) least_split h)); buffer = refl }

    module _ (moves : ℕ) (m : moves ≡ move_total (steps_of plan)) (h : least_split ≤ length before) where
      count : length (all_singles (steps_of plan)) ≡ moves
      count = all-length (steps_of plan) ∙ sym m

      pub splits-many : most_steps < moves → Splits reserve cluster plan before before (Refused TooMany)
      unfolding buffer_of
      splits-many k = record {
        is = sym (accepted-is reserve cluster plan (length before) accepts ∙ rw (le-ltb (length before) least_split h, count, lt-ltb most_steps moves k));
        buffer = refl;
      }

      pub splits-done : (divided : Divided) (after : List ℕ) → divided ≡ divided_into (room_at reserve cluster) (all_singles (steps_of plan)) → after ≡ written before 0 (split_record plan) →
          moves ≤ most_steps → Splits reserve cluster plan before after (Done divided)
      unfolding buffer_of
      splits-done divided after d a k = record {
        is = ap Done d ∙ sym (accepted-is reserve cluster plan (length before) accepts ∙ rw (le-ltb (length before) least_split h, count, le-ltb most_steps moves k));
        buffer = a;
      }

-- ---- the record written

module _ (reserve : ℕ) (cluster plan : List ℕ) (b : AreBytes cluster) (a : Accepts reserve cluster plan) (few : move_total (steps_of plan) ≤ most_steps) where
  whole : plan_check plan ≡ Ok tt
  whole = plan-whole reserve cluster plan a

  count-few : length (all_singles (steps_of plan)) ≤ most_steps
  count-few = singles-most (steps_of plan) (move_total (steps_of plan)) refl few

  -- what the checker promises of the plan, and of its steps divided
  checks : Checked reserve cluster plan (packed (verdict_of reserve cluster plan))
  checks = contract reserve cluster plan b (packed (verdict_of reserve cluster plan)) refl

  singles-accepted : AcceptedDivided reserve cluster plan (all_singles (steps_of plan))
  singles-accepted =
      checks.divided (accepted-says (packed (verdict_of reserve cluster plan)) (verdict_of reserve cluster plan) a.0 checks.told a.1)
      (all_singles (steps_of plan)) (all-divide (steps_of plan)) count-few

  steps-are : steps_of (split_record plan) ≡ all_singles (steps_of plan)
  steps-are = split_steps plan whole (move_total (steps_of plan)) refl few

  empty-is : plan ≡ [] → split_record plan ≡ header_bytes 2 7 0
  unfolding split_record all_singles
  empty-is e =
      let z : length plan ≡ 0 = ap length e in
      let n : length plan ≤ 0 = omega arith in
      rw (empty-steps plan z, ← kept-none plan n) (record-none written_version)

  accepted-at : verdict_of reserve cluster (split_record plan) ≡ Verdict.Accepted (divided_into (room_at reserve cluster) (all_singles (steps_of plan))).cost
  unfolding split_record divided_into
  accepted-at = singles-accepted.accepted

  no-cheaper-than : (cost : ℕ) → verdict_of reserve cluster plan ≡ Verdict.Accepted cost → cost ≤ (divided_into (room_at reserve cluster) (all_singles (steps_of plan))).cost
  unfolding divided_into
  no-cheaper-than cost e = rw (accepted-steps reserve cluster plan cost e).cost-is singles-accepted.no-cheaper

  split-well : (bytes : List ℕ) (d : Divided) → bytes ≡ split_record plan → d ≡ divided_into (room_at reserve cluster) (all_singles (steps_of plan)) → SplitWell reserve cluster plan bytes d
  unfolding divided_into split_record
  split-well bytes d e f =
      rw (e, f)
      (record {
        is = refl;
        steps = steps-are;
        divides = rw steps-are (all-divide (steps_of plan));
        single = rw steps-are (all-single (steps_of plan));
        rising = all-rise (room_at reserve cluster) (current_of (room_at reserve cluster)) (steps_of plan) (only-holds reserve cluster plan a.0 a.1).1;
        version = record-version (kept_version plan) (all_singles (steps_of plan));
        empty = empty-is;
        accepted = accepted-at;
        no-cheaper = no-cheaper-than;
        count = ap length steps-are;
        moves = sym (all-length (steps_of plan));
        most = count-few;
        cost = ap (cost_of (room_at reserve cluster)) steps-are;
        small = split-low plan whole (move_total (steps_of plan)) refl few;
      })

  -- the cost has room in the number
  cost-most : (divided_into (room_at reserve cluster) (all_singles (steps_of plan))).cost < 2 ^ 43
  unfolding divided_into
  cost-most =
      cost-low (room_at reserve cluster) (all_singles (steps_of plan))
      (read-amounts reserve cluster b) (split-shaped plan whole (move_total (steps_of plan)) refl few)

-- ---- the number returned

done-packs : (reserve : ℕ) (cluster plan : List ℕ) → AreBytes cluster → Accepts reserve cluster plan → move_total (steps_of plan) ≤ most_steps → (d : Divided) →
    d ≡ divided_into (room_at reserve cluster) (all_singles (steps_of plan)) → Packs (Done d)
unfolding divided_into
done-packs reserve cluster plan b a few d e = rw e (count-few reserve cluster plan b a few, cost-most reserve cluster plan b a few)

module _ (reserve : ℕ) (cluster plan before after : List ℕ) (b : AreBytes cluster) where
  abbrev outcome : Outcome
  outcome = split_of reserve cluster plan (length before)

  -- what a split that is done has passed
  record Passed (d : Divided) : Type 0 where
    accepts : Accepts reserve cluster plan
    long : least_split ≤ length before
    few : move_total (steps_of plan) ≤ most_steps
    are : d ≡ divided_into (room_at reserve cluster) (all_singles (steps_of plan))

  passed : (d : Divided) → outcome ≡ Done d → Passed d
  passed d e =
      let w = own-accepted reserve cluster plan (length before) (Done d) (own-done d) e in
      let t = tested-done (into reserve cluster plan) d (ltb (length before) least_split) (many plan) w.1 in
      let n = ltb-false most_steps (length (all_singles (steps_of plan))) t.1 in
      let l = all-length (steps_of plan) in
      record { accepts = w.0; long = ltb-false (length before) least_split t.0; few = omega arith; are = t.2 }

  -- an outcome has room in it
  pub split-packs : (o : Outcome) → Splits reserve cluster plan before after o → Packs o
  split-packs o s = go o (sym s.is)
    where
      go : (o : Outcome) → split_of reserve cluster plan (length before) ≡ o → Packs o
      go (Done d) e = let p = passed d e in done-packs reserve cluster plan b p.accepts p.few d p.are
      go (Refused (Check f)) e = step-most reserve cluster plan f (check-refused reserve cluster plan (length before) f e)
      go (Refused Buffer) e = omega arith
      go (Refused TooMany) e = omega arith

  module _ (o : Outcome) (s : Splits reserve cluster plan before after o) (r : ℕ) (q : r ≡ packed_split o) where
    told : TellsSplit r outcome
    told = rw (← s.is, q) (tells-split o (split-packs o s))

    short-is : SaysRefused r 10 0 ↔ (Accepts reserve cluster plan × (length before < least_split))
    short-is = (
      (λ x.
          let w = own-accepted reserve cluster plan (length before) (Refused Buffer) own-short (says-short r outcome told x) in
          (w.0, ltb-true (length before) least_split (tested-short (into reserve cluster plan) (ltb (length before) least_split) (many plan) w.1))),
      (λ x. refused_says r outcome Buffer told (accepted-is reserve cluster plan (length before) x.0 ∙ rw (lt-ltb (length before) least_split x.1))),
    )

    -- 14 of the split itself
    own-14 : outcome ≡ Refused TooMany → Accepts reserve cluster plan × (least_split ≤ length before) × (most_steps < move_total (steps_of plan))
    own-14 e =
        let w = own-accepted reserve cluster plan (length before) (Refused TooMany) own-many e in
        let t = tested-many (into reserve cluster plan) (ltb (length before) least_split) (many plan) w.1 in
        let n = ltb-true most_steps (length (all_singles (steps_of plan))) t.1 in
        let l = all-length (steps_of plan) in
        (w.0, ltb-false (length before) least_split t.0, omega arith)

    many_is : SaysRefused r 14 0 ↔
        ((verdict_of reserve cluster plan ≡ Verdict.Refused (Fault.Plan PlanFault.Shape)) ⊎
        (Accepts reserve cluster plan × (least_split ≤ length before) × (most_steps < move_total (steps_of plan))))
    many_is = (
      (λ x.
          ⊎_elim (λ e. inl (check-refused reserve cluster plan (length before) (Fault.Plan PlanFault.Shape) e)) (λ e. inr (own-14 e))
          (says-many r outcome told x)),
      (λ x.
          ⊎_elim (λ e. refused_says r outcome (Check (Fault.Plan PlanFault.Shape)) told (refused-is reserve cluster plan (length before) (Fault.Plan PlanFault.Shape) e))
          (λ y.
          let l = all-length (steps_of plan) in
          let h = y.2 in
          refused_says r outcome TooMany told
          (accepted-is reserve cluster plan (length before) y.0 ∙ rw (le-ltb (length before) least_split y.1, lt-ltb most_steps (length (all_singles (steps_of plan))) (omega arith)))) x),
    )

    done-is : SaysGood r ↔ (Accepts reserve cluster plan × (least_split ≤ length before) × (move_total (steps_of plan) ≤ most_steps))
    done-is = (
      (λ g. let p = passed (told_divided r) (says-done r outcome told g) in (p.accepts, p.long, p.few)),
      (λ x.
          let l = all-length (steps_of plan) in
          let h = x.2 in
          done-says r outcome (into reserve cluster plan) told
          (accepted-is reserve cluster plan (length before) x.0 ∙ rw (le-ltb (length before) least_split x.1, le-ltb most_steps (length (all_singles (steps_of plan))) (omega arith)))),
    )

    buffer-is : after ≡ buffer_of outcome (split_record plan) before
    buffer-is = rw (← s.is) s.buffer

    well-is : SaysGood r → SplitWell reserve cluster plan (front_of after) (told_divided r)
    unfolding buffer_of
    well-is g =
        let d : outcome ≡ Done (told_divided r) = says-done r outcome told g in
        let p = passed (told_divided r) d in
        let w = plan-whole reserve cluster plan p.accepts in
        let f : after ≡ split_record plan ++ drop (length (split_record plan)) before =
        buffer-is ∙ ap (λ (x : Outcome). buffer_of x (split_record plan) before) d ∙ written-zero before (split_record plan) in
        split-well reserve cluster plan b p.accepts p.few (front_of after) (told_divided r)
        (ap front_of f ∙ split-front plan w (move_total (steps_of plan)) refl p.few (drop (length (split_record plan)) before)) p.are

    pub split-promised : Split reserve cluster plan before after r
    split-promised = record {
      is = q ∙ ap packed_split s.is;
      told = told;
      buffer = buffer-is;
      checked = λ f e. q ∙ ap packed_split (s.is ∙ refused-is reserve cluster plan (length before) f e) ∙ sym (ap packed e);
      short = short-is;
      many = many_is;
      done = done-is;
      written = well-is;
    }
