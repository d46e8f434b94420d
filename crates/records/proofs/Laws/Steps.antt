-- Laws on the steps of a plan record: how wide its moves are, the walk over the steps, each refusal in its turn, and what an undamaged
-- record has.
use Prim.Native.Nat.{ℕ, zero, suc, ◌+◌, ◌-◌, ◌*◌, ◌≤◌, ◌<◌}
use mathlib.Core.Bool.{Bool, true, false, not, ◌&&◌, and-false, and_assoc}
use mathlib.Core.List.{List, [], ◌∷◌, ◌++◌}
use mathlib.Core.Path.{◌≡◌, refl, sym, ap, ◌∙◌}
use native.Mathlib.Nat.{add_assoc, zero-add, add-zero, mul-le-mul_right}
use native.Mathlib.Omega.{arith}
use native.Mathlib.Decide.{ℕ_discrete}
use mathlib.Core.Logic.{by_cases}
use lib.ListN.{length}
use lib.Dec.{ltb, leb, eqb}
use borrow.Author.Tests.{lt-ltb, le-ltb, le-leb, lt-leb, eq-eqb, ne_eqb, ltb-false, leb-true, eqb-true, not-false}
use Rattle.records.specs.Base.{pick, all, sum_of}
use Rattle.records.specs.Bytes.{byte_at, be16, be32, version_of, known_version}
use Rattle.records.specs.Plan.{Move, Step, no_move, move_of, step_count, names_sources, move_width, source_at, move_count, move_at, step_at, step_end, steps_from, steps_end, steps_of, move_total, sized, shaped, plan_check, plan_read, longest_plan}
use Rattle.records.specs.declared.plan.Source.TheVariants.{Unnamed, Named}
use Rattle.records.specs.Room.{rows}
use Rattle.records.specs.Inner.{steps_ok, tells_source, tells_sources, suits_source, suits, Steps}
use Rattle.records.specs.declared.faults.PlanFault.{PlanFault}
use Rattle.records.specs.declared.faults.PlanFault.TheVariants.{TooShort, Version, Length, Shape}
use Rattle.std.specs.Prelude.{Result, Ok, Err}
use Rattle.std.specs.Result.{result_and}
use Rattle.records.proofs.Laws.Bools.{and_left, and_right, and_both, all_head, all_tail}
use Rattle.records.proofs.Laws.Rows.{rows-length, rows_at}

-- ---- the width of a move

pub two-or-three : (b : Bool) → (2 ≤ pick b 3 2) × (pick b 3 2 ≤ 3)
two-or-three true = (omega arith, omega arith)
two-or-three false = (omega arith, omega arith)

module _ (s : List ℕ) where
  pub width-least : 2 ≤ move_width s
  unfolding move_width
  width-least = (two-or-three (names_sources (version_of s))).0

  width-most : move_width s ≤ 3
  unfolding move_width
  width-most = (two-or-three (names_sources (version_of s))).1

  -- move i of n lies within them
  move-within : (i n : ℕ) → i < n → i * move_width s + move_width s ≤ n * move_width s
  move-within i n h = let l : suc i ≤ n = omega arith in let m = mul-le-mul_right (move_width s) l in omega arith

-- and within the record that the step is in
module _ (s : List ℕ) (at i : ℕ) (h : i < move_count s at) (w : step_end s at ≤ length s) where
  pub place-low : at + 2 + i * move_width s + move_width s ≤ length s
  place-low = let m = move-within s i (move_count s at) h in omega arith

pub step-end-is : (s : List ℕ) (at n size : ℕ) → n ≡ move_count s at → size ≡ n * move_width s → at + 2 + size ≡ step_end s at
step-end-is s at n size e f = rw (f, e)

pub step-length : (s : List ℕ) (at : ℕ) → length (step_at s at) ≡ move_count s at
unfolding step_at
step-length s at = rows-length (move_at s) (move_width s) (at + 2) (move_count s at)

pub steps-length : (s : List ℕ) (at n : ℕ) → length (steps_from s at n) ≡ n
unfolding steps_from
steps-length s at zero = refl
steps-length s at (suc n) = ap suc (steps-length s (step_end s at) n)

pub steps_on : (s : List ℕ) (at n : ℕ) → at ≤ steps_end s at n
unfolding steps_end
steps_on s at zero = omega arith
steps_on s at (suc n) = let w = steps_on s (step_end s at) n in omega arith

-- ---- the turns of the walk

module _ (s : List ℕ) (at left moves : ℕ) (result : Bool) (inv : steps_ok s at left moves ≡ result) where
  opened : (k : ℕ) → left ≡ suc k →
      ((sized (step_at s at) && all sized (steps_from s (step_end s at) k)) &&
      (leb (moves + (length (step_at s at) + move_total (steps_from s (step_end s at) k))) 1024 && eqb (steps_end s (step_end s at) k) (length s))) ≡ result
  unfolding steps_ok steps_from steps_end all move_total sum_of
  opened k e = rw e at inv

  past : 0 < left → length s < step_end s at → false ≡ result
  past z h =
      let e : left ≡ suc (left - 1) = omega arith in
      let o = steps_on s (step_end s at) (left - 1) in
      let n : eqb (steps_end s (step_end s at) (left - 1)) (length s) ≡ false = ne_eqb (steps_end s (step_end s at) (left - 1)) (length s) (λ q. omega arith) in
      simp (n, and-false) at (opened (left - 1) e)

  unsized : 0 < left → sized (step_at s at) ≡ false → false ≡ result
  unsized z n = let e : left ≡ suc (left - 1) = omega arith in simp n at (opened (left - 1) e)

  pub steps-short : at ≤ length s → 0 < left → length s - at < 2 → false ≡ result
  steps-short h z w = past z (omega arith)

  module _ (n : ℕ) (e : n ≡ move_count s at) (z : 0 < left) where
    pub steps-none : n < 1 → false ≡ result
    unfolding sized
    steps-none h = unsized z (let w : length (step_at s at) < 1 = rw (step-length s at) (omega arith) in simp (lt-leb 1 (length (step_at s at)) w))

    pub steps-many : 256 < n → false ≡ result
    unfolding sized
    steps-many h = unsized z (let w : 256 < length (step_at s at) = rw (step-length s at) (omega arith) in simp (lt-leb (length (step_at s at)) 256 w, and-false))

    module _ (size : ℕ) (g : size ≡ n * move_width s) where
      size_is : at + 2 + size ≡ step_end s at
      size_is = step-end-is s at n size e g

      pub steps-long : at ≤ length s → 2 ≤ length s - at → length s - at - 2 < size → false ≡ result
      steps-long h w v = past z (let k = size_is in omega arith)

      pub steps-more : (more : ℕ) → left ≡ suc more → 1 ≤ n → n ≤ 256 → steps_ok s (at + (2 + size)) more (moves + n) ≡ result
      unfolding steps_ok sized
      steps-more more f h w =
          let p : at + (2 + size) ≡ step_end s at = omega (arith, size_is) in
          let l : 1 ≤ move_count s at = omega arith in
          let m : move_count s at ≤ 256 = omega arith in
          rw (p, e, add_assoc moves (move_count s at) (move_total (steps_from s (step_end s at) more)))
          (simp (step-length, le-leb 1 (move_count s at) l, le-leb (move_count s at) 256 m) at (opened more f))

  none_left : left ≤ 0 → (leb moves 1024 && eqb at (length s)) ≡ result
  unfolding steps_ok steps_from steps_end all move_total sum_of
  none_left z = let e : left ≡ 0 = omega arith in simp (e, add-zero) at inv

  pub steps-over : left ≤ 0 → 1024 < moves → false ≡ result
  steps-over z h = simp (lt-leb moves 1024 h) at (none_left z)

  pub steps-end : left ≤ 0 → moves ≤ 1024 → eqb at (length s) ≡ result
  steps-end z h = simp (le-leb moves 1024 h) at (none_left z)

-- ---- the shape

module _ (s : List ℕ) (count : ℕ) (e : count ≡ step_count s) where
  pub shape-many : 512 < count → false ≡ (shaped (steps_of s) && eqb (steps_end s 7 (step_count s)) (length s))
  unfolding shaped steps_of
  shape-many h = let w : 512 < step_count s = omega arith in simp (steps-length, lt-leb (step_count s) 512 w)

  pub shape-steps : (r : Bool) → r ≡ steps_ok s 7 count 0 → count ≤ 512 → r ≡ (shaped (steps_of s) && eqb (steps_end s 7 (step_count s)) (length s))
  unfolding shaped steps_of steps_ok
  shape-steps r f h =
      let w : step_count s ≤ 512 = omega arith in
      simp (steps-length, le-leb (step_count s) 512 w)
      ((simp (e, zero-add) at f) ∙ sym (and_assoc (all sized (steps_from s 7 (step_count s))) _ _))

-- ---- each refusal in its turn

module _ (s : List ℕ) where
  pub plan-empty : length s ≡ 0 → Ok tt ≡ plan_check s
  unfolding plan_check
  plan-empty h = simp (eq-eqb (length s) 0 h)

  pub plan-short : (length s ≡ 0 → ⊥) → length s < 7 → Err TooShort ≡ plan_check s
  unfolding plan_check
  plan-short n h = simp (ne_eqb (length s) 0 n, lt-ltb (length s) 7 h)

  module _ (version : ℕ) (e1 : version ≡ version_of s) (h1 : 7 ≤ length s) (known : Bool) (k1 : known ≡ known_version version) where
    not-empty : eqb (length s) 0 ≡ false
    not-empty = ne_eqb (length s) 0 (λ q. omega arith)

    known_is : known_version (version_of s) ≡ known
    known_is = rw (← e1) (sym k1)

    pub plan-version : known ≡ false → Err Version ≡ plan_check s
    unfolding plan_check
    plan-version h2 = simp (not-empty, le-ltb (length s) 7 h1, known_is ∙ h2)

    module _ (stated : ℕ) (e2 : stated ≡ be32 s 1) (h2 : known ≡ true) where
      pub plan-length : (stated ≡ length s → ⊥) → Err Length ≡ plan_check s
      unfolding plan_check
      plan-length h3 = simp (not-empty, le-ltb (length s) 7 h1, known_is ∙ h2, ne_eqb (be32 s 1) (length s) (λ q. h3 (e2 ∙ q)))

      module _ (shape : Bool) (e3 : shape ≡ (shaped (steps_of s) && eqb (steps_end s 7 (step_count s)) (length s))) (h3 : stated ≡ length s) where
        pub plan-shape : shape ≡ false → Err Shape ≡ plan_check s
        unfolding plan_check
        plan-shape h4 = simp (not-empty, le-ltb (length s) 7 h1, known_is ∙ h2, eq-eqb (be32 s 1) (length s) (sym e2 ∙ h3), sym e3 ∙ h4)

        pub plan-none : shape ≡ true → Ok tt ≡ plan_check s
        unfolding plan_check
        plan-none h4 = simp (not-empty, le-ltb (length s) 7 h1, known_is ∙ h2, eq-eqb (be32 s 1) (length s) (sym e2 ∙ h3), sym e3 ∙ h4)

-- ---- what an undamaged record has

-- 0 bytes stand for no steps
pub empty-count : (s : List ℕ) → length s ≤ 0 → 0 ≡ step_count s
unfolding be16
empty-count [] e = refl
empty-count (x ∷ xs) e = absurd (omega arith)

pub empty-steps : (s : List ℕ) → length s ≡ 0 → steps_of s ≡ []
unfolding steps_of steps_from
empty-steps s e = rw (← empty-count s (omega arith)) refl

passed : (test : Bool) (f : PlanFault) (rest : Result (Unit {0}) PlanFault) → pick test (Err f) rest ≡ Ok tt → (test ≡ false) × (rest ≡ Ok tt)
passed true f rest e = let z : ◌≡◌ {A = ℕ} 0 1 = cc in absurd (omega arith)
passed false f rest e = (refl, e)

module _ (s : List ℕ) (w : plan_check s ≡ Ok tt) where
  -- if it has bytes
  module _ (h : 0 < length s) where
    parts : (7 ≤ length s) × (shaped (steps_of s) ≡ true) × (steps_end s 7 (step_count s) ≡ length s) × (known_version (version_of s) ≡ true)
    unfolding plan_check
    parts =
        let a = passed (ltb (length s) 7) TooShort _ (rw (ne_eqb (length s) 0 (λ q. omega arith)) at w) in
        let b = passed (not (known_version (version_of s))) Version _ a.1 in
        let c = passed (not (eqb (be32 s 1) (length s))) Length _ b.1 in
        let d = passed (not (shaped (steps_of s) && eqb (steps_end s 7 (step_count s)) (length s))) Shape (Ok tt) c.1 in
        let e = not-false (shaped (steps_of s) && eqb (steps_end s 7 (step_count s)) (length s)) d.0 in (
          ltb-false (length s) 7 a.0,
          and_left (shaped (steps_of s)) _ e,
          eqb-true _ _ (and_right (shaped (steps_of s)) _ e),
          not-false (known_version (version_of s)) b.0,
        )

    pub plan-long : 7 ≤ length s
    plan-long = parts.0

    pub plan-known : known_version (version_of s) ≡ true
    plan-known = parts.3

  pub plan-shaped : shaped (steps_of s) ≡ true
  unfolding shaped move_total sum_of all
  plan-shaped = by_cases (ℕ_discrete (length s) 0) (λ e. rw (empty-steps s e) refl) (λ n. (parts (omega arith)).1)

  pub plan-ends : 0 < step_count s → steps_end s 7 (step_count s) ≡ length s
  plan-ends h = (parts (by_cases (ℕ_discrete (length s) 0) (λ e. let z = empty-count s (omega arith) in omega arith) (λ n. omega arith))).2

  pub steps-most : step_count s ≤ 512
  unfolding shaped steps_of
  steps-most = let h = leb-true (length (steps_from s 7 (step_count s))) 512 (and_left (leb (length (steps_from s 7 (step_count s))) 512) _ plan-shaped) in omega (arith, steps-length s 7 (step_count s))

  pub steps-start : Steps s 7 (step_count s)
  unfolding shaped steps_of
  steps-start =
      let h = and_right (leb (length (steps_from s 7 (step_count s))) 512) _ plan-shaped in
      record { ends = plan-ends; counts = and_left (all sized (steps_from s 7 (step_count s))) _ h; total = leb-true _ _ (and_right (all sized (steps_from s 7 (step_count s))) _ h) }

-- the step at a place, and the steps behind it
steps-suc : (s : List ℕ) (at n : ℕ) → steps_from s at (suc n) ≡ step_at s at ∷ steps_from s (step_end s at) n
unfolding steps_from
steps-suc s at n = refl

end-suc : (s : List ℕ) (at n : ℕ) → steps_end s at (suc n) ≡ steps_end s (step_end s at) n
unfolding steps_end
end-suc s at n = refl

pub total-cons : (step : Step) (steps : List Step) → move_total (step ∷ steps) ≡ length step + move_total steps
unfolding move_total sum_of
total-cons step steps = refl

pub total-append : (xs ys : List Step) → move_total (xs ++ ys) ≡ move_total xs + move_total ys
unfolding move_total sum_of
total-append [] ys = omega arith
total-append (x ∷ xs) ys = let a : sum_of length (xs ++ ys) ≡ sum_of length xs + sum_of length ys = total-append xs ys in omega arith

module _ (s : List ℕ) (at left : ℕ) (w : Steps s at left) (z : 0 < left) where
  less : left ≡ suc (left - 1)
  less = omega arith

  pub steps-cons : steps_from s at left ≡ step_at s at ∷ steps_from s (step_end s at) (left - 1)
  steps-cons = ap (steps_from s at) less ∙ steps-suc s at (left - 1)

  next-ends : steps_end s (step_end s at) (left - 1) ≡ length s
  next-ends = sym (ap (steps_end s at) less ∙ end-suc s at (left - 1)) ∙ w.ends z

  pub steps_next : Steps s (step_end s at) (left - 1)
  steps_next =
      record {
        ends = λ more. next-ends;
        counts = all_tail sized (step_at s at) (steps_from s (step_end s at) (left - 1)) (rw steps-cons at w.counts);
        total =
            let t = w.total in
            let c : move_total (steps_from s at left) ≡ length (step_at s at) + move_total (steps_from s (step_end s at) (left - 1)) =
            ap move_total steps-cons ∙ total-cons (step_at s at) (steps_from s (step_end s at) (left - 1)) in
            omega arith;
      }

  pub step-within : step_end s at ≤ length s
  step-within = let e = next-ends in let o = steps_on s (step_end s at) (left - 1) in omega arith

  pub step-sized : sized (step_at s at) ≡ true
  step-sized = all_head sized (step_at s at) (steps_from s (step_end s at) (left - 1)) (rw steps-cons at w.counts)

-- the moves of a step, by their bytes
module _ (s : List ℕ) (at i : ℕ) (h : i < move_count s at) (place : ℕ) (p : place ≡ at + 2 + i * move_width s) where
  pub move-at : move_of (step_at s at) i ≡ move_at s place
  unfolding move_of step_at
  move-at = rows_at (move_at s) (move_width s) (at + 2) (move_count s at) i no_move h ∙ ap (move_at s) (sym p)

-- the moves that are left of a step
moves-suc : (s : List ℕ) (at n : ℕ) → rows (move_at s) (move_width s) at (suc n) ≡ move_at s at ∷ rows (move_at s) (move_width s) (at + move_width s) n
unfolding rows
moves-suc s at n = refl

module _ (s : List ℕ) (at left : ℕ) (z : 0 < left) where
  pub moves-cons : rows (move_at s) (move_width s) at left ≡ move_at s at ∷ rows (move_at s) (move_width s) (at + move_width s) (left - 1)
  moves-cons = let e : left ≡ suc (left - 1) = omega arith in ap (rows (move_at s) (move_width s) at) e ∙ moves-suc s at (left - 1)

  pub move-fits : at + left * move_width s ≤ length s → at + move_width s ≤ length s
  move-fits w = let l : 1 ≤ left = z in let m = mul-le-mul_right (move_width s) l in omega arith

-- ---- reading

pub count-is : (s : List ℕ) → step_count s ≡ length (steps_of s)
unfolding steps_of
count-is s = sym (steps-length s 7 (step_count s))

-- what the ranges say
module _ (steps : List Step) (e : shaped steps ≡ true) where
  pub shaped-count : length steps ≤ 512
  unfolding shaped
  shaped-count = leb-true (length steps) 512 (and_left (leb (length steps) 512) _ e)

  pub shaped-each : all sized steps ≡ true
  unfolding shaped
  shaped-each = and_left (all sized steps) _ (and_right (leb (length steps) 512) _ e)

  pub shaped-total : move_total steps ≤ 1024
  unfolding shaped
  shaped-total = leb-true (move_total steps) 1024 (and_right (all sized steps) (leb (move_total steps) 1024) (and_right (leb (length steps) 512) _ e))

module _ (step : Step) (e : sized step ≡ true) where
  pub sized-least : 1 ≤ length step
  unfolding sized
  sized-least = leb-true 1 (length step) (and_left (leb 1 (length step)) _ e)

  pub sized-most : length step ≤ 256
  unfolding sized
  sized-most = leb-true (length step) 256 (and_right (leb 1 (length step)) _ e)

-- what was read is in its ranges
pub read-shaped : (s : List ℕ) (steps : List Step) → plan_read s ≡ Ok steps → shaped steps ≡ true
read-shaped s steps e = go (plan_check s) refl e
  where
    go : (r : Result (Unit {0}) PlanFault) → plan_check s ≡ r → result_and r (Ok (steps_of s)) ≡ Ok steps → shaped steps ≡ true
    go (Ok tt) w f = let same : steps_of s ≡ steps = cc in rw (← same) (plan-shaped s w)
    go (Err fault) w f = absurd cc

-- ---- what is the same of every move, and how long a record can be

suited : (b : Bool) (x : ℕ) → suits_source b (pick b (Named x) Unnamed) ≡ true
unfolding suits_source tells_source
suited true x = refl
suited false x = refl

rows_all : {A : Type 0} (q : A → Bool) (read : ℕ → A) (width at n : ℕ) → ((place : ℕ) → q (read place) ≡ true) → all q (rows read width at n) ≡ true
unfolding rows all
rows_all q read width at zero e = refl
rows_all q read width at (suc n) e = and_both (e at) (rows_all q read width (at + width) n e)

module _ (s : List ℕ) (q : Move → Bool) (e : (place : ℕ) → q (move_at s place) ≡ true) where
  each_from : (at n : ℕ) → all (all q) (steps_from s at n) ≡ true
  unfolding steps_from step_at all
  each_from at zero = refl
  each_from at (suc n) = and_both (rows_all q (move_at s) (move_width s) (at + 2) (move_count s at) e) (each_from (step_end s at) n)

  each-move : all (all q) (steps_of s) ≡ true
  unfolding steps_of
  each-move = each_from 7 (step_count s)

-- every move suits the version of its record: version 2 names the source of every move, any other of none
pub all-suit : (s : List ℕ) → all (suits (version_of s)) (steps_of s) ≡ true
unfolding suits move_at source_at
all-suit s = each-move s (λ move. suits_source (names_sources (version_of s)) move.source) (λ place. suited (names_sources (version_of s)) (byte_at s (place + 1)))

pub all_tell : (s : List ℕ) → version_of s ≡ 2 → all tells_sources (steps_of s) ≡ true
unfolding tells_sources move_at source_at names_sources tells_source
all_tell s e = each-move s (λ move. tells_source move.source) (λ place. rw e refl)

pub none-tells : (s : List ℕ) → (version_of s ≡ 2 → ⊥) → all (all (λ move. not (tells_source move.source))) (steps_of s) ≡ true
unfolding move_at source_at names_sources tells_source
none-tells s e = each-move s (λ move. not (tells_source move.source)) (λ place. rw (ne_eqb (version_of s) 2 e) refl)

end_is : (s : List ℕ) (at n : ℕ) → steps_end s at n ≡ at + n * 2 + move_total (steps_from s at n) * move_width s
unfolding steps_end steps_from move_total sum_of
end_is s at zero = omega arith
end_is s at (suc n) =
    let h : steps_end s (step_end s at) n ≡ step_end s at + n * 2 + sum_of length (steps_from s (step_end s at) n) * move_width s = end_is s (step_end s at) n in
    rw (step-length s at) (h ∙ omega arith)

-- what steps in their ranges take
pub shape-most : (s : List ℕ) → shaped (steps_of s) ≡ true → steps_end s 7 (step_count s) ≤ longest_plan
unfolding shaped steps_of
shape-most s e =
    let a = leb-true (length (steps_from s 7 (step_count s))) 512 (and_left (leb (length (steps_from s 7 (step_count s))) 512) _ e) in
    let b = leb-true (move_total (steps_from s 7 (step_count s))) 1024
    (and_right (all sized (steps_from s 7 (step_count s))) _ (and_right (leb (length (steps_from s 7 (step_count s))) 512) _ e)) in
    let c = steps-length s 7 (step_count s) in
    let d = end_is s 7 (step_count s) in
    let f = mul-le-mul_right (move_width s) b in
    let g = width-most s in
    omega arith

pub plan-most : (s : List ℕ) → plan_check s ≡ Ok tt → length s ≤ longest_plan
plan-most s w =
    by_cases (ℕ_discrete (length s) 0) (λ e. omega arith)
    (λ k. let h : 0 < length s = omega arith in let a = (parts s w h).2 in let b = shape-most s (plan-shaped s w) in omega arith)

-- what the check of a plan cites, and what its readers do
pub ruleset checking = (shape-many, shape-steps, steps-short, steps-none, steps-many, steps-long, steps-over)

pub no-steps : (s : List ℕ) (at left : ℕ) → left ≡ 0 → steps_from s at left ≡ []
unfolding steps_from
no-steps s at left e = rw e refl

pub no-moves : (s : List ℕ) (at left : ℕ) → left ≡ 0 → rows (move_at s) (move_width s) at left ≡ []
unfolding rows
no-moves s at left e = rw e refl

pub all-steps : (s : List ℕ) (n : ℕ) → n ≡ step_count s → steps_from s 7 n ≡ steps_of s
unfolding steps_of
all-steps s n e = rw e refl

pub all-moves : (s : List ℕ) (at n : ℕ) → n ≡ move_count s at → rows (move_at s) (move_width s) (at + 2) n ≡ step_at s at
unfolding step_at
all-moves s at n e = rw e refl

pub first-steps : (s : List ℕ) (n : ℕ) → plan_check s ≡ Ok tt → n ≡ step_count s → Steps s 7 n
first-steps s n w e = rw e (steps-start s w)

pub more-steps : (s : List ℕ) (at left next : ℕ) → Steps s at left → 0 < left → next ≡ step_end s at → Steps s next (left - 1)
more-steps s at left next w z e = rw e (steps_next s at left w z)

pub ruleset reading = (plan-long, empty-steps, step-length, count-is, plan-shaped, step-within, step-sized, steps-cons, moves-cons, move-fits, move-at, place-low, width-least, no-steps, no-moves, all-steps, all-moves)
