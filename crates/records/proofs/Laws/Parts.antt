-- Laws on the constraints as parts of the record, one behind the other.
use Prim.Native.Nat.{ℕ, zero, suc, ◌+◌, ◌-◌, ◌*◌, ◌≤◌, ◌<◌}
use mathlib.Core.Bool.{false}
use mathlib.Core.List.{List, [], ◌∷◌}
use mathlib.Core.Logic.{◌⊎◌, ⊎_elim}
use mathlib.Core.Path.{◌≡◌, refl, sym, ap, ◌∙◌}
use native.Mathlib.Omega.{arith}
use lib.ListN.{length, take, drop, length-drop}
use lib.Seq.{length-take-le}
use lib.Dec.{eqb}
use borrow.Author.Tests.{eq-eqb, ne_eqb, eqb-true}
use Rattle.std.proofs.lemmas.List.{get_or-drop, drop-drop, take_rest}
use Rattle.records.specs.Bytes.{byte_at, be16}
use Rattle.records.specs.Room.{part_end, part_at, parts_from, parts_end}
use Rattle.records.proofs.Laws.Bools.{bool_iff}

pub parts-on : (s : List ℕ) (at n : ℕ) → at ≤ parts_end s at n
unfolding parts_end
parts-on s at zero = omega arith
parts-on s at (suc n) = let w = parts-on s (at + 2 + be16 s at) n in omega arith

pub part_is : (s : List ℕ) (at size end : ℕ) → size ≡ be16 s at → end ≡ at + 2 + size → take (end - at) (drop at s) ≡ part_at s at
unfolding part_at
part_is s at size end e f = let w : end - at ≡ 2 + be16 s at = omega arith in rw w refl

-- ---- the same from a place on: what is left of the record, without what stands before

module _ (s : List ℕ) (k : ℕ) where
  pub be16-drop : (at : ℕ) → be16 (drop k s) at ≡ be16 s (k + at)
  unfolding be16
  be16-drop at = rw (get_or-drop k s at 0, get_or-drop k s (at + 1) 0) (ap (λ (p : ℕ). byte_at s (k + at) * 256 + byte_at s p) (omega arith))

  pub end-drop : (at n : ℕ) → k + parts_end (drop k s) at n ≡ parts_end s (k + at) n
  unfolding parts_end
  end-drop at zero = refl
  end-drop at (suc n) = end-drop (part_end (drop k s) at) n ∙ ap (λ (p : ℕ). parts_end s p n) (let e = be16-drop at in omega arith)

  pub part-drop : (at : ℕ) → part_at (drop k s) at ≡ part_at s (k + at)
  unfolding part_at
  part-drop at = rw (be16-drop at, drop-drop at k s) refl

  pub parts-drop : (at n : ℕ) → parts_from (drop k s) at n ≡ parts_from s (k + at) n
  unfolding parts_from
  parts-drop at zero = refl
  parts-drop at (suc n) =
      rw (part-drop at, parts-drop (part_end (drop k s) at) n) (ap (λ (p : ℕ). part_at s (k + at) ∷ parts_from s p n) (let e = be16-drop at in omega arith))

there : (at : ℕ) → at + 0 ≡ at
there at = omega arith

-- ---- whether they fill it: not where they start behind its end, and else if what is left is filled

pub fills_none : (s : List ℕ) (at n : ℕ) → length s < at → false ≡ eqb (parts_end s at n) (length s)
fills_none s at n h = let o = parts-on s at n in sym (ne_eqb (parts_end s at n) (length s) (λ q. omega arith))

pub fills_rest : (s rest : List ℕ) (at n : ℕ) → rest ≡ take (length s - at) (drop at s) → length rest + at ≡ length s → eqb (parts_end rest 0 n) (length rest) ≡ eqb (parts_end s at n) (length s)
fills_rest s rest at n e f =
    let d : rest ≡ drop at s = e ∙ take_rest s at in
    let g : at + parts_end rest 0 n ≡ parts_end s at n = ap (λ (r : List ℕ). at + parts_end r 0 n) d ∙ end-drop s at 0 n ∙ ap (λ (p : ℕ). parts_end s p n) (there at) in
    bool_iff _ _ (λ t. let q = eqb-true (parts_end rest 0 n) (length rest) t in eq-eqb (parts_end s at n) (length s) (omega arith))
    (λ t. let q = eqb-true (parts_end s at n) (length s) t in eq-eqb (parts_end rest 0 n) (length rest) (omega arith))

-- what is left of a record that they fill
module _ (s : List ℕ) (at n : ℕ) (end : parts_end s at n ≡ length s) where
  pub parts_within : at ≤ length s
  parts_within = let o = parts-on s at n in omega arith

  module _ (rest : List ℕ) (e : rest ≡ take (length s - at) (drop at s)) where
    pub rest_ends : parts_end rest 0 n ≡ length rest
    rest_ends =
        let w = parts_within in
        let f = end-drop s at 0 n ∙ ap (λ (p : ℕ). parts_end s p n) (there at) in
        rw (e ∙ take_rest s at) (let l = length-drop at s in omega arith)

    pub rest_parts : parts_from rest 0 n ≡ parts_from s at n
    rest_parts = rw (e ∙ take_rest s at) (parts-drop s at 0 n ∙ ap (λ (p : ℕ). parts_from s p n) (there at))

-- ---- what is left, at its first part

module _ (rest : List ℕ) (left : ℕ) (z : 0 < left) where
  end_behind : (n : ℕ) → left ≡ suc n → 2 + be16 rest 0 + parts_end (drop (2 + be16 rest 0) rest) 0 n ≡ parts_end rest 0 left
  unfolding parts_end
  end_behind n e = rw e (end-drop rest (2 + be16 rest 0) 0 n ∙ ap (λ (p : ℕ). parts_end rest p n) (omega arith))

  end-next : 2 + be16 rest 0 + parts_end (drop (2 + be16 rest 0) rest) 0 (left - 1) ≡ parts_end rest 0 left
  end-next = end_behind (left - 1) (omega arith)

  parts_behind : (n : ℕ) → left ≡ suc n → parts_from rest 0 left ≡ take (2 + be16 rest 0) rest ∷ parts_from (drop (2 + be16 rest 0) rest) 0 n
  unfolding parts_from part_at
  parts_behind n e =
      rw e (ap (λ (ps : List (List ℕ)). take (2 + be16 rest 0) rest ∷ ps) (sym (parts-drop rest (2 + be16 rest 0) 0 n ∙ ap (λ (p : ℕ). parts_from rest p n) (omega arith))))

  pub part_fits : parts_end rest 0 left ≡ length rest → 2 + be16 rest 0 ≤ length rest
  part_fits end = let e = end-next in omega arith

  -- that part, and what stands behind it
  module _ (end : parts_end rest 0 left ≡ length rest) (part next : List ℕ) (e : part ≡ part_at rest 0) where
    pub part_long : length part ≡ 2 + be16 rest 0
    unfolding part_at
    part_long = ap length e ∙ length-take-le (2 + be16 rest 0) rest (part_fits end)

    module _ (f : next ≡ take (length rest - length part) (drop (length part) rest)) where
      behind : next ≡ drop (2 + be16 rest 0) rest
      behind = f ∙ take_rest rest (length part) ∙ ap (λ (n : ℕ). drop n rest) part_long

      pub parts_left : parts_end next 0 (left - 1) ≡ length next
      parts_left = rw behind (let h = end-next in let l = length-drop (2 + be16 rest 0) rest in omega arith)

      pub parts_is : parts_from rest 0 left ≡ part ∷ parts_from next 0 (left - 1)
      unfolding part_at
      parts_is = rw (behind, e) (parts_behind (left - 1) (omega arith))

-- none is left of none
pub parts_none : (s : List ℕ) (at n : ℕ) → n ≡ 0 → parts_from s at n ≡ []
unfolding parts_from
parts_none s at n z = rw z refl

-- ---- the walk that finds what is left behind so many parts

module _ (s rest : List ℕ) (count left : ℕ) (within : length rest ≤ length s) (inv : length s - length rest + parts_end rest 0 left ≡ parts_end s 0 count) where
  pub behind_short : 0 < left → length rest < 2 → length s < parts_end s 0 count
  behind_short z h = let e = end-next rest left z in omega arith

  pub behind_long : (body : List ℕ) (n : ℕ) → 0 < left → n ≡ be16 rest 0 → length body + 2 ≡ length rest → (length body < n) ⊎ (length body < length body) →
      length s < parts_end s 0 count
  behind_long body n z e l h = let q = end-next rest left z in ⊎_elim (λ k. omega arith) (λ k. absurd (omega arith)) h

  pub behind_more : (body next : List ℕ) (n : ℕ) → 0 < left → n ≡ be16 rest 0 → body ≡ drop 2 rest → length body + 2 ≡ length rest →
      next ≡ take (length body - n) (drop n body) → length next + n ≡ length body → (length next ≤ length s) × (length s - length next + parts_end next 0 (left - 1) ≡ parts_end s 0 count)
  behind_more body next n z e f l g m =
      let d : next ≡ drop (2 + be16 rest 0) rest = g ∙ take_rest body n ∙ rw (f, e) (drop-drop (be16 rest 0) 2 rest) in
      let q = ap (λ (r : List ℕ). 2 + be16 rest 0 + parts_end r 0 (left - 1)) d ∙ end-next rest left z in
      (omega arith, omega arith)

  pub behind_all : left ≡ 0 → parts_end s 0 count + length rest ≡ length s
  unfolding parts_end
  behind_all z = let e : parts_end rest 0 left ≡ 0 = rw z refl in omega arith
