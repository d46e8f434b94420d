-- Laws on counting the moves of all steps, and on putting each into the buffer as a step of its own; the record that results.
use Prim.Native.Nat.{ℕ, ◌+◌, ◌*◌, ◌≤◌}
use mathlib.Core.Bool.{true, ◌&&◌}
use mathlib.Core.List.{List, [], ◌∷◌, ◌++◌, append_assoc, append-nil}
use mathlib.Core.Path.{◌≡◌, refl, sym, ap, ◌∙◌}
use native.Mathlib.Nat.{mul-le-mul_left}
use native.Mathlib.Omega.{arith}
use lib.ListN.{length, take, drop, length-append, take-append-drop}
use lib.Seq.{take_at, length-take-le}
use lib.Dec.{leb}
use borrow.Author.Tests.{leb-true}
use Rattle.std.specs.Prelude.{Ok}
use Rattle.std.specs.List.{fold, sum_by}
use Rattle.records.specs.Base.{all, sum_of}
use Rattle.records.specs.Bytes.{bytes16, bytes32}
use Rattle.records.specs.Plan.{Step, sized, shaped, move_total, steps_of, source_bytes, move_bytes, moves_bytes, step_bytes, steps_bytes, header_bytes, record_bytes, kept_version, names_sources, most_steps, plan_check, front_of, written}
use Rattle.records.specs.Room.{Room}
use Rattle.records.specs.Inner.{suits}
use Rattle.records.specs.declared.plan.Move.{Move}
use Rattle.records.specs.declared.plan.Source.{Source}
use Rattle.records.specs.declared.plan.Source.TheVariants.{Unnamed, Named}
use Rattle.records.proofs.Laws.Bools.{and_right}
use Rattle.records.proofs.Laws.Steps.{two-or-three}
use Rattle.records.proofs.Laws.Written.{written-length, written_next, written-earlier, written-zero}
use Rattle.records.proofs.Laws.RoundTrip.{bytes-append, record-length, record-front}
use Rattle.rules.specs.Cost.{cost_of}
use Rattle.rules.proofs.Laws.Divided.{divided-total, kept-shaped, kept-suited, kept_whole, kept-steps}
use Rattle.split.specs.Splits.{singles, all_singles, split_record, least_split, divided_into}
use Rattle.split.specs.Inner.{PutSteps}
use Rattle.split.proofs.Laws.Singles.{singles-length, all-length, all-divide, singles-most}

-- ---- counting the moves

summed : (total : ℕ) (steps : List Step) → fold (λ n step. n + length step) total steps ≡ total + move_total steps
unfolding move_total sum_of
summed total [] = omega arith
summed total (step ∷ steps) = let e = summed (total + length step) steps in omega arith

pub total-by : (steps : List Step) → sum_by length steps ≡ move_total steps
total-by steps = let e = summed 0 steps in omega arith

pub total-most : (steps : List Step) → shaped steps ≡ true → move_total steps ≤ 1024
unfolding shaped
total-most steps e =
    leb-true (move_total steps) 1024 (and_right (all sized steps) (leb (move_total steps) 1024) (and_right (leb (length steps) most_steps) (all sized steps && leb (move_total steps) 1024) e))

total-append : (steps others : List Step) → move_total (steps ++ others) ≡ move_total steps + move_total others
unfolding move_total sum_of
total-append [] others = omega arith
total-append (step ∷ steps) others = let e = total-append steps others in omega arith

-- ---- what a loop has gone over, and what is left

pub left-next : {A : Type 0} (put left rest whole : List A) (next : A) → put ++ left ≡ whole → left ≡ next ∷ rest → (put ++ (next ∷ [])) ++ rest ≡ whole
left-next put left rest whole next both e = append_assoc put (next ∷ []) rest ∙ ap (λ l. put ++ l) (sym e) ∙ both

left-none : {A : Type 0} (put left whole : List A) → put ++ left ≡ whole → left ≡ [] → put ≡ whole
left-none put left whole both e = sym (append-nil put) ∙ ap (λ l. put ++ l) (sym e) ∙ both

-- ---- one move

single-low : (move : Move) → length (step_bytes (move ∷ [])) ≤ 5
unfolding step_bytes moves_bytes move_bytes source_bytes bytes16
single-low move = go move.source
  where
    go : (x : Source) → length (bytes16 1 ++ ((move.vm ∷ source_bytes x ++ (move.to ∷ [])) ++ [])) ≤ 5
    go Unnamed = omega arith
    go (Named node) = omega arith

-- ---- the moves of one step

put-none : (start : ℕ) (before : List ℕ) → PutSteps [] start before before start
unfolding steps_bytes written
put-none start before =
    let z : start + 0 ≡ start = omega arith in
    record { is = sym (ap (λ (k : ℕ). take start before ++ drop k before) z ∙ take-append-drop start before); ends = omega arith; low = omega arith }

-- steps put behind steps
put_both : (xs ys : List Step) (start middle end : ℕ) (before between after : List ℕ) → PutSteps xs start before between middle → PutSteps ys middle between after end →
    start + length xs * 5 + length ys * 5 ≤ length before → PutSteps (xs ++ ys) start before after end
put_both xs ys start middle end before between after p q h =
    let e = length-append xs ys in
    let f = bytes-append xs ys in
    let g = length-append (steps_bytes xs) (steps_bytes ys) in
    let a = p.ends in let b = q.ends in let c = p.low in let d = q.low in
    let k : start + length (steps_bytes xs) + length (steps_bytes ys) ≤ length before = omega arith in
    record {
      is =
          q.is ∙ ap (λ (l : List ℕ). written l middle (steps_bytes ys)) p.is ∙ ap (λ (i : ℕ). written (written before start (steps_bytes xs)) i (steps_bytes ys)) a ∙
          written_next before start (steps_bytes xs) (steps_bytes ys) k ∙ ap (written before start) (sym f);
      ends = let z = ap length f in omega arith;
      low = omega arith;
    }

put_one : (move : Move) (end r : ℕ) (l m : List ℕ) → r ≡ end + length (step_bytes (move ∷ [])) → m ≡ written l end (step_bytes (move ∷ [])) → PutSteps ((move ∷ []) ∷ []) end l m r
unfolding steps_bytes
put_one move end r l m e f =
    let n = append-nil (step_bytes (move ∷ [])) in
    let k = single-low move in
    record { is = f ∙ ap (written l end) (sym n); ends = e ∙ ap (λ (x : List ℕ). end + length x) (sym n); low = omega arith }

singles-snoc : (step : Step) (move : Move) → singles (step ++ (move ∷ [])) ≡ singles step ++ ((move ∷ []) ∷ [])
unfolding singles
singles-snoc [] move = refl
singles-snoc (first ∷ step) move = ap (λ (l : List Step). (first ∷ []) ∷ l) (singles-snoc step move)

put-length : (steps : List Step) (start end : ℕ) (before out : List ℕ) → PutSteps steps start before out end → start + length steps * 5 ≤ length before → length out ≡ length before
put-length steps start end before out p h =
    let a = p.ends in let b = p.low in
    ap length p.is ∙ written-length before start (steps_bytes steps) (omega arith)

pub step-start : (start : ℕ) (before : List ℕ) → PutSteps (singles []) start before before start
unfolding singles
step-start start before = put-none start before

-- some of its moves are put, and one of those left comes next
module _ (step put left rest : Step) (move : Move) (before out : List ℕ) (start end : ℕ) (p : PutSteps (singles put) start before out end) (both : put ++ left ≡ step)
    (comes : left ≡ move ∷ rest) (room : start + length step * 5 ≤ length before) where
  count-put : length (singles put) + 1 ≤ length step
  count-put = let e = ap length both in let f = length-append put left in let l = ap length comes in let s = singles-length put in omega arith

  pub step-room : end + 5 ≤ length out
  step-room =
      let a = p.low in let c = count-put in
      let l = put-length (singles put) start end before out p (omega arith) in
      omega arith

  pub step-more : (next : List ℕ) (r : ℕ) → r ≡ end + length (step_bytes (move ∷ [])) → next ≡ written out end (step_bytes (move ∷ [])) → PutSteps (singles (put ++ (move ∷ []))) start before next r
  step-more next r e f =
      let c = count-put in
      rw (singles-snoc put move) (put_both (singles put) ((move ∷ []) ∷ []) start end r before out next p (put_one move end r out next e f) (omega arith))

pub step-done : (step put left : Step) (before out : List ℕ) (start end : ℕ) → PutSteps (singles put) start before out end → put ++ left ≡ step → left ≡ [] → PutSteps (singles step) start before out end
step-done step put left before out start end p both e = rw (← left-none put left step both e) p

-- ---- all steps

pub all-none : (before : List ℕ) → PutSteps (all_singles []) 7 before before 7
unfolding all_singles
all-none before = put-none 7 before

all-snoc : (steps : List Step) (step : Step) → all_singles (steps ++ (step ∷ [])) ≡ all_singles steps ++ singles step
unfolding all_singles
all-snoc [] step = append-nil (singles step)
all-snoc (first ∷ steps) step = ap (λ (l : List Step). singles first ++ l) (all-snoc steps step) ∙ sym (append_assoc (singles first) (all_singles steps) (singles step))

-- some steps are put, and one of those left comes next
module _ (steps put left rest : List Step) (step : Step) (before out : List ℕ) (end : ℕ) (p : PutSteps (all_singles put) 7 before out end) (both : put ++ left ≡ steps)
    (comes : left ≡ step ∷ rest) (few : move_total steps ≤ most_steps) (long : least_split ≤ length before) where
  count-left : move_total put + length step ≤ most_steps
  unfolding move_total sum_of
  count-left = let e = ap move_total both in let f = total-append put left in let l = ap move_total comes in omega arith

  pub putting-room : end + length step * 5 ≤ length out
  putting-room =
      let a = p.low in let c = count-left in let l = all-length put in
      let k = put-length (all_singles put) 7 end before out p (omega arith) in
      omega arith

  pub putting-more : (next : List ℕ) (r : ℕ) → PutSteps (singles step) end out next r → PutSteps (all_singles (put ++ (step ∷ []))) 7 before next r
  putting-more next r q =
      let c = count-left in let l = all-length put in let s = singles-length step in
      rw (all-snoc put step) (put_both (all_singles put) (singles step) 7 end r before out next p q (omega arith))

pub putting-end : (steps put left : List Step) (before out : List ℕ) (end : ℕ) → PutSteps (all_singles put) 7 before out end → put ++ left ≡ steps → left ≡ [] → PutSteps (all_singles steps) 7 before out end
putting-end steps put left before out end p both e = rw (← left-none put left steps both e) p

-- ---- the record

header-same : {u v m n x y : ℕ} → u ≡ v → m ≡ n → x ≡ y → header_bytes u m x ≡ header_bytes v n y
header-same e f g = rw (e, f, g)

module _ (steps : List Step) (before out last : List ℕ) (end version moves : ℕ) (p : PutSteps (all_singles steps) 7 before out end)
    (m : moves ≡ move_total steps) (few : moves ≤ most_steps) (long : least_split ≤ length before) where
  pub singles-size : end ≡ length (record_bytes version (all_singles steps))
  unfolding record_bytes header_bytes bytes32 bytes16
  singles-size = p.ends ∙ omega arith

  pub singles-written : last ≡ written out 0 (header_bytes version end moves) → last ≡ written before 0 (record_bytes version (all_singles steps))
  unfolding record_bytes header_bytes bytes32 bytes16
  singles-written e =
      let c = m ∙ sym (all-length steps) in let b = p.low in let a = p.ends in
      e ∙ ap (λ (l : List ℕ). written l 0 (header_bytes version end moves)) p.is ∙
      written-earlier before 0 (header_bytes version end moves) (steps_bytes (all_singles steps)) (omega arith) ∙
      ap (λ (l : List ℕ). written before 0 (l ++ steps_bytes (all_singles steps))) (header-same refl a c)

-- the record of a plan's own steps, in its version
module _ (plan : List ℕ) (steps : List Step) (version : ℕ) (e : steps ≡ steps_of plan) (v : version ≡ kept_version plan) where
  record-same : record_bytes version (all_singles steps) ≡ split_record plan
  unfolding split_record
  record-same = rw (e, v)

  pub record-size : (end : ℕ) → end ≡ length (record_bytes version (all_singles steps)) → end ≡ length (split_record plan)
  record-size end h = h ∙ ap length record-same

  pub record-written : (before out : List ℕ) → out ≡ written before 0 (record_bytes version (all_singles steps)) → out ≡ written before 0 (split_record plan)
  record-written before out h = h ∙ ap (written before 0) record-same

-- it is what stands at the front then
module _ (plan before out : List ℕ) (end : ℕ) (e : end ≡ length (split_record plan)) (f : out ≡ written before 0 (split_record plan)) where
  pub front-is : take end out ≡ split_record plan
  front-is = ap (take end) (f ∙ written-zero before (split_record plan)) ∙ take_at (split_record plan) (drop (length (split_record plan)) before) end (sym e)

module _ (plan : List ℕ) (w : plan_check plan ≡ Ok tt) (moves : ℕ) (m : moves ≡ move_total (steps_of plan)) (few : moves ≤ most_steps) where
  most : length (all_singles (steps_of plan)) ≤ most_steps
  most = singles-most (steps_of plan) moves m few

  pub split-whole : plan_check (split_record plan) ≡ Ok tt
  unfolding split_record
  split-whole = kept_whole plan w (all_singles (steps_of plan)) (all-divide (steps_of plan)) most

  pub split_steps : steps_of (split_record plan) ≡ all_singles (steps_of plan)
  unfolding split_record
  split_steps = kept-steps plan w (all_singles (steps_of plan)) (all-divide (steps_of plan)) most

  split-suits : all (suits (kept_version plan)) (all_singles (steps_of plan)) ≡ true
  split-suits = kept-suited plan w (all_singles (steps_of plan)) (all-divide (steps_of plan)) most

  pub split-shaped : shaped (all_singles (steps_of plan)) ≡ true
  split-shaped = kept-shaped plan w (all_singles (steps_of plan)) (all-divide (steps_of plan)) most

  pub split-front : (rest : List ℕ) → front_of (split_record plan ++ rest) ≡ split_record plan
  unfolding split_record
  split-front rest = record-front (kept_version plan) (all_singles (steps_of plan)) split-suits split-shaped rest

  -- no longer than the least buffer
  pub split-low : length (split_record plan) ≤ least_split
  unfolding split_record
  split-low =
      let a = record-length (kept_version plan) (all_singles (steps_of plan)) split-suits in
      let b = all-length (steps_of plan) in
      let c = divided-total (all-divide (steps_of plan)) in
      let d = mul-le-mul_left (move_total (all_singles (steps_of plan))) (two-or-three (names_sources (kept_version plan))).1 in
      omega arith

  -- for the cost, which is read from the record written
  module _ (before out : List ℕ) (end : ℕ) (e : end ≡ length (split_record plan)) (f : out ≡ written before 0 (split_record plan)) (long : least_split ≤ length before) where
    pub part_low : end ≤ length out
    part_low =
        let a = split-low in
        let l = ap length f ∙ written-length before 0 (split_record plan) (omega arith) in
        omega arith

    pub part_length : end ≡ length (take end out)
    part_length = sym (length-take-le end out part_low)

    pub part-whole : plan_check (take end out) ≡ Ok tt
    part-whole = ap plan_check (front-is plan before out end e f) ∙ split-whole

    pub divided-is : (room : Room) (cost : ℕ) → cost ≡ cost_of room (steps_of (take end out)) → record { steps = moves; cost = cost } ≡ divided_into room (all_singles (steps_of plan))
    unfolding divided_into
    divided-is room cost c i = record {
      steps = (m ∙ sym (all-length (steps_of plan))) i;
      cost = (c ∙ ap (λ (l : List ℕ). cost_of room (steps_of l)) (front-is plan before out end e f) ∙ ap (cost_of room) split_steps) i;
    }
