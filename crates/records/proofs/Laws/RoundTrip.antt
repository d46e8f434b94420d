-- The round trip: the record that steps are written as is whole, and stands for those steps.
use Prim.Native.Nat.{ℕ, ◌+◌, ◌-◌, ◌*◌, ◌/◌, ◌%◌, ◌≤◌, ◌<◌, ◌^◌}
use mathlib.Core.Bool.{Bool, true, false, false≢true}
use mathlib.Core.List.{List, [], ◌∷◌, ◌++◌, append_assoc, append-nil}
use mathlib.Core.Logic.{◌⊎◌, inl, inr}
use mathlib.Core.Path.{◌≡◌, refl, sym, ap, ◌∙◌}
use native.Mathlib.Nat.{add-zero, mul-le-mul_left, div-div-eq-div-mul, div-add-mod', mod-eq_of_lt}
use native.Mathlib.Omega.{arith}
use lib.ListN.{length, take, drop, length-append}
use lib.Seq.{get_or-drop, drop-drop, drop_at, take_at}
use lib.Dec.{leb, eqb}
use borrow.Author.Tests.{le-ltb, eq-eqb, ne_eqb, leb-true, eqb-true, eqb-false}
use Rattle.records.specs.Base.{pick, all, sum_of}
use Rattle.records.specs.Bytes.{byte_at, be16, be24, be32, bytes16, bytes32, version_of, known_version}
use Rattle.records.specs.Room.{rows}
use Rattle.records.specs.Plan.{Move, Step, step_count, names_sources, width_in, move_width, source_at, move_count, move_at, step_at, step_end, steps_from, steps_end, steps_of, move_total, sized, shaped, plan_check, longest_plan, source_bytes, move_bytes, moves_bytes, step_bytes, steps_bytes, header_bytes, record_bytes, written_version, written_width, plan_bytes, kept_version, front_of}
use Rattle.records.specs.Inner.{tells_source, tells_sources, suits_source, suits}
use Rattle.records.specs.declared.plan.Source.{Source}
use Rattle.records.specs.declared.plan.Source.TheVariants.{Unnamed, Named}
use Rattle.std.specs.Prelude.{Ok}
use Rattle.records.proofs.Laws.Bools.{and_left, and_right, all_head, all_tail}
use Rattle.records.proofs.Laws.Steps.{two-or-three, empty-steps, plan-known, all-suit}

-- ---- numbers

byte-back : (s l : List ℕ) (at i : ℕ) → drop at s ≡ l → byte_at s (at + i) ≡ byte_at l i
byte-back s l at i e = sym (get_or-drop at s i 0) ∙ ap (λ (x : List ℕ). byte_at x i) e

byte-first : (s l : List ℕ) (at : ℕ) → drop at s ≡ l → byte_at s at ≡ byte_at l 0
byte-first s l at e = ap (byte_at s) (sym (add-zero at)) ∙ byte-back s l at 0 e

be16-back : (s rest : List ℕ) (at x : ℕ) → x < 65536 → drop at s ≡ bytes16 x ++ rest → be16 s at ≡ x
unfolding be16 bytes16
be16-back s rest at x h e =
    let a : byte_at s at ≡ x / 256 % 256 = byte-first s (bytes16 x ++ rest) at e in
    let b : byte_at s (at + 1) ≡ x % 256 = byte-back s (bytes16 x ++ rest) at 1 e in
    omega arith

digits : (x y z w d c b : ℕ) → y * 256 + d ≡ x → z * 256 + c ≡ y → w * 256 + b ≡ z → ((w * 256 + b) * 256 + c) * 256 + d ≡ x
digits x y z w d c b e f g = omega arith

be32-back : (s rest : List ℕ) (at x : ℕ) → x < 2 ^ 32 → drop at s ≡ bytes32 x ++ rest → be32 s at ≡ x
unfolding be32 be24 be16 bytes32
be32-back s rest at x h e =
    let a : byte_at s at ≡ x / 16777216 % 256 = byte-first s (bytes32 x ++ rest) at e in
    let b : byte_at s (at + 1) ≡ x / 65536 % 256 = byte-back s (bytes32 x ++ rest) at 1 e in
    let c : byte_at s (at + 2) ≡ x / 256 % 256 = byte-back s (bytes32 x ++ rest) at 2 e in
    let d : byte_at s (at + 3) ≡ x % 256 = byte-back s (bytes32 x ++ rest) at 3 e in
    let p : x / 256 / 256 ≡ x / 65536 = div-div-eq-div-mul x 256 256 in
    let q : x / 65536 / 256 ≡ x / 16777216 = div-div-eq-div-mul x 65536 256 in
    let t : x / 16777216 < 256 = omega arith in
    let u : byte_at s at ≡ x / 16777216 = a ∙ mod-eq_of_lt t in
    rw (u, b, c, d)
    (digits x (x / 256) (x / 65536) (x / 16777216) (x % 256) (x / 256 % 256) (x / 65536 % 256)
    (div-add-mod' x 256) (rw p at (div-add-mod' (x / 256) 256)) (rw q at (div-add-mod' (x / 65536) 256)))

-- ---- moves and steps

source-length : (names : Bool) (x : Source) → suits_source names x ≡ true → length (source_bytes x) + 2 ≡ pick names 3 2
unfolding suits_source tells_source source_bytes
source-length true Unnamed n = absurd (false≢true n)
source-length true (Named node) n = refl
source-length false Unnamed n = refl
source-length false (Named node) n = absurd (false≢true n)

module _ (version : ℕ) where
  move-length : (move : Move) → suits_source (names_sources version) move.source ≡ true → length (move_bytes move) ≡ width_in version
  unfolding move_bytes
  move-length move n =
      let a = source-length (names_sources version) move.source n in
      let b = length-append (source_bytes move.source) (move.to ∷ []) in
      omega arith

  suits-head : (move : Move) (moves : Step) → suits version (move ∷ moves) ≡ true → suits_source (names_sources version) move.source ≡ true
  unfolding suits
  suits-head move moves n = all_head (λ m. suits_source (names_sources version) m.source) move moves n

  suits-tail : (move : Move) (moves : Step) → suits version (move ∷ moves) ≡ true → suits version moves ≡ true
  unfolding suits
  suits-tail move moves n = all_tail (λ m. suits_source (names_sources version) m.source) move moves n

  moves-size : (moves : Step) → suits version moves ≡ true → length (moves_bytes moves) ≡ length moves * width_in version
  unfolding moves_bytes
  moves-size [] n = omega arith
  moves-size (move ∷ moves) n =
      let h = moves-size moves (suits-tail move moves n) in
      let k = move-length move (suits-head move moves n) in
      let l = length-append (move_bytes move) (moves_bytes moves) in
      omega arith

  steps-size : (steps : List Step) → all (suits version) steps ≡ true → length (steps_bytes steps) ≡ length steps * 2 + move_total steps * width_in version
  unfolding steps_bytes step_bytes bytes16 move_total sum_of
  steps-size [] n = omega arith
  steps-size (step ∷ steps) n =
      let a = length-append (moves_bytes step) (steps_bytes steps) in
      let b = moves-size step (all_head (suits version) step steps n) in
      let c : length (steps_bytes steps) ≡ length steps * 2 + sum_of length steps * width_in version = steps-size steps (all_tail (suits version) step steps n) in
      omega arith

-- the bytes of steps and of more steps
pub bytes-append : (xs ys : List Step) → steps_bytes (xs ++ ys) ≡ steps_bytes xs ++ steps_bytes ys
unfolding steps_bytes
bytes-append [] ys = refl
bytes-append (x ∷ xs) ys = ap (λ (l : List ℕ). step_bytes x ++ l) (bytes-append xs ys) ∙ sym (append_assoc (step_bytes x) (steps_bytes xs) (steps_bytes ys))

-- what stands behind the first bytes
drop-back : (s front rest : List ℕ) (at : ℕ) → drop at s ≡ front ++ rest → drop (at + length front) s ≡ rest
drop-back s front rest at e = sym (drop-drop (length front) at s) ∙ ap (drop (length front)) e ∙ drop_at front rest (length front) refl

-- moves that suit the version of the record that they are read from
module _ (s : List ℕ) where
  three_back : names_sources (version_of s) ≡ true → (rest : List ℕ) (at vm x to : ℕ) → drop at s ≡ vm ∷ x ∷ to ∷ rest →
      move_at s at ≡ record { vm = vm; source = Named x; to = to }
  unfolding move_at source_at move_width
  three_back v rest at vm x to e i =
      let k : at + pick (names_sources (version_of s)) 3 2 - 1 ≡ at + 2 = rw v (omega arith) in
      record {
        vm = byte-first s (vm ∷ x ∷ to ∷ rest) at e i;
        source = (ap (λ (b : Bool). pick b (Named (byte_at s (at + 1))) Unnamed) v ∙ ap Named (byte-back s (vm ∷ x ∷ to ∷ rest) at 1 e)) i;
        to = (ap (byte_at s) k ∙ byte-back s (vm ∷ x ∷ to ∷ rest) at 2 e) i;
      }

  two_back : names_sources (version_of s) ≡ false → (rest : List ℕ) (at vm to : ℕ) → drop at s ≡ vm ∷ to ∷ rest →
      move_at s at ≡ record { vm = vm; source = Unnamed; to = to }
  unfolding move_at source_at move_width
  two_back v rest at vm to e i =
      let k : at + pick (names_sources (version_of s)) 3 2 - 1 ≡ at + 1 = rw v (omega arith) in
      record {
        vm = byte-first s (vm ∷ to ∷ rest) at e i;
        source = ap (λ (b : Bool). pick b (Named (byte_at s (at + 1))) Unnamed) v i;
        to = (ap (byte_at s) k ∙ byte-back s (vm ∷ to ∷ rest) at 1 e) i;
      }

  move-back : (rest : List ℕ) (at : ℕ) (move : Move) → suits_source (names_sources (version_of s)) move.source ≡ true → drop at s ≡ move_bytes move ++ rest → move_at s at ≡ move
  unfolding move_bytes source_bytes suits_source tells_source
  move-back rest at move n e = go (names_sources (version_of s)) move.source refl refl n
    where
      from : (x : Source) → move.source ≡ x → drop at s ≡ (move.vm ∷ source_bytes x ++ (move.to ∷ [])) ++ rest
      from x q = e ∙ ap (λ (y : Source). (move.vm ∷ source_bytes y ++ (move.to ∷ [])) ++ rest) q

      same : (x : Source) → move.source ≡ x → record { vm = move.vm; source = x; to = move.to } ≡ move
      same x q i = record { vm = move.vm; source = sym q i; to = move.to }

      go : (names : Bool) (x : Source) → names_sources (version_of s) ≡ names → move.source ≡ x → suits_source names x ≡ true → move_at s at ≡ move
      go true Unnamed v q m = absurd (false≢true m)
      go true (Named node) v q m = three_back v rest at move.vm node move.to (from (Named node) q) ∙ same (Named node) q
      go false Unnamed v q m = two_back v rest at move.vm move.to (from Unnamed q) ∙ same Unnamed q
      go false (Named node) v q m = absurd (false≢true m)

  moves-back : (rest : List ℕ) (at : ℕ) (moves : Step) → suits (version_of s) moves ≡ true → drop at s ≡ moves_bytes moves ++ rest →
      rows (move_at s) (move_width s) at (length moves) ≡ moves
  unfolding rows moves_bytes move_width
  moves-back rest at [] n e = refl
  moves-back rest at (move ∷ moves) n e =
      let f : drop at s ≡ move_bytes move ++ (moves_bytes moves ++ rest) = e ∙ append_assoc (move_bytes move) (moves_bytes moves) rest in
      let m = suits-head (version_of s) move moves n in
      let k : at + move_width s ≡ at + length (move_bytes move) = rw (move-length (version_of s) move m) in
      rw (
        move-back (moves_bytes moves ++ rest) at move m f,
        moves-back rest (at + move_width s) moves (suits-tail (version_of s) move moves n)
            (ap (λ (j : ℕ). drop j s) k ∙ drop-back s (move_bytes move) (moves_bytes moves ++ rest) at f),
      )

  -- the bytes of a step
  module _ (rest : List ℕ) (at : ℕ) (step : Step) (n : suits (version_of s) step ≡ true) (z : sized step ≡ true) (e : drop at s ≡ step_bytes step ++ rest) where
    most : length step < 65536
    unfolding sized
    most = let h = leb-true (length step) 256 (and_right (leb 1 (length step)) (leb (length step) 256) z) in omega arith

    counted : drop at s ≡ bytes16 (length step) ++ (moves_bytes step ++ rest)
    unfolding step_bytes
    counted = e ∙ append_assoc (bytes16 (length step)) (moves_bytes step) rest

    count-back : move_count s at ≡ length step
    count-back = be16-back s (moves_bytes step ++ rest) at (length step) most counted

    moves_from : drop (at + 2) s ≡ moves_bytes step ++ rest
    unfolding bytes16
    moves_from = drop-back s (bytes16 (length step)) (moves_bytes step ++ rest) at counted

    step_back : step_at s at ≡ step
    unfolding step_at
    step_back = ap (rows (move_at s) (move_width s) (at + 2)) count-back ∙ moves-back rest (at + 2) step n moves_from

    end_back : step_end s at ≡ at + length (step_bytes step)
    unfolding step_bytes bytes16 move_width
    end_back = rw count-back (let b = moves-size (version_of s) step n in omega arith)

    rest_back : drop (step_end s at) s ≡ rest
    rest_back = ap (λ (k : ℕ). drop k s) end_back ∙ drop-back s (step_bytes step) rest at e

  steps_back : (rest : List ℕ) (at : ℕ) (steps : List Step) → all (suits (version_of s)) steps ≡ true → all sized steps ≡ true → drop at s ≡ steps_bytes steps ++ rest →
      (steps_from s at (length steps) ≡ steps) × (steps_end s at (length steps) ≡ at + length (steps_bytes steps))
  unfolding steps_from steps_end steps_bytes
  steps_back rest at [] n z e = (refl, omega arith)
  steps_back rest at (step ∷ steps) n z e =
      let f : drop at s ≡ step_bytes step ++ (steps_bytes steps ++ rest) = e ∙ append_assoc (step_bytes step) (steps_bytes steps) rest in
      let h = all_head sized step steps z in
      let m = all_head (suits (version_of s)) step steps n in
      let g = steps_back rest (step_end s at) steps (all_tail (suits (version_of s)) step steps n) (all_tail sized step steps z) (rest_back (steps_bytes steps ++ rest) at step m h f) in
      let a = end_back (steps_bytes steps ++ rest) at step m h f in
      let b = length-append (step_bytes step) (steps_bytes steps) in
      (rw (step_back (steps_bytes steps ++ rest) at step m h f, g.0), g.1 ∙ omega arith)

-- ---- the record

record-size : (version : ℕ) (steps : List Step) → length (record_bytes version steps) ≡ 7 + length (steps_bytes steps)
unfolding record_bytes header_bytes bytes32 bytes16
record-size version steps = omega arith

pub record-version : (version : ℕ) (steps : List Step) → version_of (record_bytes version steps) ≡ version
unfolding record_bytes header_bytes
record-version version steps = refl

pub record-length : (version : ℕ) (steps : List Step) → all (suits version) steps ≡ true →
    length (record_bytes version steps) ≡ 7 + length steps * 2 + move_total steps * width_in version
record-length version steps n = let a = steps-size version steps n in let b = record-size version steps in omega arith

module _ (version : ℕ) (steps : List Step) (n : all (suits version) steps ≡ true) (z : shaped steps ≡ true) where
  count_most : length steps ≤ 512
  unfolding shaped
  count_most = leb-true (length steps) 512 (and_left (leb (length steps) 512) _ z)

  each-sized : all sized steps ≡ true
  unfolding shaped
  each-sized = and_left (all sized steps) _ (and_right (leb (length steps) 512) _ z)

  total-most : move_total steps ≤ 1024
  unfolding shaped
  total-most = leb-true (move_total steps) 1024 (and_right (all sized steps) (leb (move_total steps) 1024) (and_right (leb (length steps) 512) _ z))

  record-most : length (record_bytes version steps) ≤ longest_plan
  record-most =
      let a = record-length version steps n in let b = count_most in let c = total-most in
      let d = mul-le-mul_left (move_total steps) (two-or-three (names_sources version)).1 in
      omega arith

  count-is : step_count (record_bytes version steps) ≡ length steps
  unfolding record_bytes header_bytes bytes32
  count-is = let b = count_most in be16-back (record_bytes version steps) (steps_bytes steps) 5 (length steps) (omega arith) refl

  body_is : drop 7 (record_bytes version steps) ≡ steps_bytes steps ++ []
  unfolding record_bytes header_bytes bytes32 bytes16
  body_is = sym (append-nil (steps_bytes steps))

  back : (steps_from (record_bytes version steps) 7 (length steps) ≡ steps) × (steps_end (record_bytes version steps) 7 (length steps) ≡ 7 + length (steps_bytes steps))
  back = steps_back (record_bytes version steps) [] 7 steps (rw (record-version version steps) n) each-sized body_is

  pub steps-of-record : steps_of (record_bytes version steps) ≡ steps
  unfolding steps_of
  steps-of-record = ap (steps_from (record_bytes version steps) 7) count-is ∙ back.0

  end_is : steps_end (record_bytes version steps) 7 (step_count (record_bytes version steps)) ≡ length (record_bytes version steps)
  end_is = ap (steps_end (record_bytes version steps) 7) count-is ∙ back.1 ∙ sym (record-size version steps)

  stated-is : (rest : List ℕ) → be32 (record_bytes version steps ++ rest) 1 ≡ length (record_bytes version steps)
  unfolding record_bytes header_bytes bytes32 bytes16
  stated-is rest =
      let a = record-size version steps in let b = record-most in
      be32-back (record_bytes version steps ++ rest) (bytes16 (length steps) ++ (steps_bytes steps ++ rest)) 1 (7 + length (steps_bytes steps)) (omega arith) refl ∙ sym (record-size version steps)

  -- at the front of a buffer the record says how long it is
  pub record-front : (rest : List ℕ) → front_of (record_bytes version steps ++ rest) ≡ record_bytes version steps
  unfolding front_of
  record-front rest =
      ap (λ (k : ℕ). take k (record_bytes version steps ++ rest)) (stated-is rest) ∙ take_at (record_bytes version steps) rest (length (record_bytes version steps)) refl

  stated-alone : be32 (record_bytes version steps) 1 ≡ length (record_bytes version steps)
  stated-alone = ap (λ (x : List ℕ). be32 x 1) (sym (append-nil (record_bytes version steps))) ∙ stated-is []

  pub record-whole : known_version version ≡ true → plan_check (record_bytes version steps) ≡ Ok tt
  unfolding plan_check
  record-whole k =
      let a = record-size version steps in
      let long : 7 ≤ length (record_bytes version steps) = omega arith in
      simp (
        ne_eqb (length (record_bytes version steps)) 0 (λ q. omega arith),
        le-ltb (length (record_bytes version steps)) 7 long,
        record-version version steps,
        k,
        eq-eqb (be32 (record_bytes version steps) 1) (length (record_bytes version steps)) stated-alone,
        steps-of-record,
        z,
        eq-eqb (steps_end (record_bytes version steps) 7 (step_count (record_bytes version steps))) (length (record_bytes version steps)) end_is,
      )

-- ---- the planner's record, in version 2

tells-suits : (steps : List Step) → all tells_sources steps ≡ all (suits written_version) steps
unfolding tells_sources suits suits_source names_sources
tells-suits steps = refl

pub moves-length : (moves : Step) → tells_sources moves ≡ true → length (moves_bytes moves) ≡ length moves * written_width
unfolding tells_sources suits suits_source names_sources
moves-length moves n = moves-size written_version moves n

pub steps-bytes-length : (steps : List Step) → all tells_sources steps ≡ true → length (steps_bytes steps) ≡ length steps * 2 + move_total steps * written_width
unfolding names_sources
steps-bytes-length steps n = steps-size written_version steps (sym (tells-suits steps) ∙ n)

pub plan-length : (steps : List Step) → all tells_sources steps ≡ true → length (plan_bytes steps) ≡ 7 + length steps * 2 + move_total steps * written_width
unfolding plan_bytes names_sources
plan-length steps n = record-length written_version steps (sym (tells-suits steps) ∙ n)

module _ (steps : List Step) (n : all tells_sources steps ≡ true) (z : shaped steps ≡ true) where
  pub plan-front : (rest : List ℕ) → front_of (plan_bytes steps ++ rest) ≡ plan_bytes steps
  unfolding plan_bytes
  plan-front rest = record-front written_version steps (sym (tells-suits steps) ∙ n) z rest

  pub version-is : version_of (plan_bytes steps) ≡ written_version
  unfolding plan_bytes
  version-is = record-version written_version steps

  pub steps-of-plan : steps_of (plan_bytes steps) ≡ steps
  unfolding plan_bytes
  steps-of-plan = steps-of-record written_version steps (sym (tells-suits steps) ∙ n) z

  pub plan-whole : plan_check (plan_bytes steps) ≡ Ok tt
  unfolding plan_bytes known_version
  plan-whole = record-whole written_version steps (sym (tells-suits steps) ∙ n) z refl

-- the record of no steps is a header with 0 steps
pub record-none : (version : ℕ) → record_bytes version [] ≡ header_bytes version 7 0
unfolding record_bytes header_bytes bytes32 bytes16 steps_bytes
record-none version = refl

pub header_is : plan_bytes [] ≡ header_bytes written_version 7 0
unfolding plan_bytes
header_is = record-none written_version

-- a header with 0 steps, of either version, is whole and stands for no steps
pub header-whole : (version : ℕ) → (version ≡ 1) ⊎ (version ≡ 2) → plan_check (header_bytes version 7 0) ≡ Ok tt
unfolding plan_check known_version header_bytes bytes32 bytes16 be32 be24 be16 steps_of steps_from steps_end shaped move_total sum_of all
header-whole version (inl e) = rw e refl
header-whole version (inr e) = rw e refl

pub header-steps : (version : ℕ) → steps_of (header_bytes version 7 0) ≡ []
unfolding header_bytes bytes32 bytes16 be16 steps_of steps_from
header-steps version = refl

-- ---- a plan written anew

pub kept-none : (s : List ℕ) → length s ≤ 0 → written_version ≡ kept_version s
unfolding kept_version
kept-none s h = let z : length s ≡ 0 = omega arith in rw (eq-eqb (length s) 0 z)

two-known : known_version written_version ≡ true
unfolding known_version
two-known = refl

pub kept-known : (s : List ℕ) → plan_check s ≡ Ok tt → known_version (kept_version s) ≡ true
unfolding kept_version
kept-known s w = go (eqb (length s) 0) refl
  where
    go : (b : Bool) → eqb (length s) 0 ≡ b → known_version (pick b written_version (version_of s)) ≡ true
    go true e = two-known
    go false e = plan-known s w (let h = eqb-false (length s) 0 e in omega arith)

pub kept-suits : (s : List ℕ) → all (suits (kept_version s)) (steps_of s) ≡ true
unfolding kept_version all
kept-suits s = go (eqb (length s) 0) refl
  where
    go : (b : Bool) → eqb (length s) 0 ≡ b → all (suits (pick b written_version (version_of s))) (steps_of s) ≡ true
    go true e = rw (empty-steps s (eqb-true (length s) 0 e)) refl
    go false e = all-suit s
