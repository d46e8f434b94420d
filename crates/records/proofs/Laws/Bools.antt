-- Laws on tests: conjunction, choice, and a test of every element of a list.
use Prim.Native.Nat.{ℕ, zero, suc, ◌<◌}
use mathlib.Core.Bool.{Bool, true, false, ◌&&◌, and_assoc, and-false}
use mathlib.Core.List.{List, [], ◌∷◌, ◌++◌}
use mathlib.Core.Path.{◌≡◌, refl, sym, ap, ◌∙◌}
use native.Mathlib.Omega.{arith}
use lib.ListN.{length, get_or}
use Rattle.std.specs.List.{list_all}
use Rattle.records.specs.Base.{pick, all}

pub and_left : (a b : Bool) → (a && b) ≡ true → a ≡ true
and_left true b e = refl
and_left false b e = e

pub and_right : (a b : Bool) → (a && b) ≡ true → b ≡ true
and_right true b e = e
and_right false b e = let z : ◌≡◌ {A = ℕ} 0 1 = cc in absurd (omega arith)

pub and_both : {a b : Bool} → a ≡ true → b ≡ true → (a && b) ≡ true
and_both e f = simp (e, f)

-- a choice between the same
pub pick_same : {A : Type 0} (b : Bool) (x : A) → pick b x x ≡ x
pick_same true x = refl
pick_same false x = refl

-- two tests that hold together are equal
pub bool_iff : (a b : Bool) → (a ≡ true → b ≡ true) → (b ≡ true → a ≡ true) → a ≡ b
bool_iff true b f g = sym (f refl)
bool_iff false true f g = g refl
bool_iff false false f g = refl

module _ {A : Type 0} (p : A → Bool) where
  pub all_head : (x : A) (xs : List A) → all p (x ∷ xs) ≡ true → p x ≡ true
  unfolding all
  all_head x xs e = and_left (p x) (all p xs) e

  pub all_tail : (x : A) (xs : List A) → all p (x ∷ xs) ≡ true → all p xs ≡ true
  unfolding all
  all_tail x xs e = and_right (p x) (all p xs) e

  pub all-at : (xs : List A) (i : ℕ) (d : A) → all p xs ≡ true → i < length xs → p (get_or xs i d) ≡ true
  all-at [] i d e h = absurd (omega arith)
  all-at (x ∷ xs) zero d e h = all_head x xs e
  all-at (x ∷ xs) (suc i) d e h = all-at xs i d (all_tail x xs e) (omega arith)

  -- a test of every element in std's word
  pub all-listed : (xs : List A) → list_all p xs ≡ all p xs
  unfolding all
  all-listed [] = refl
  all-listed (x ∷ xs) = ap (λ (b : Bool). p x && b) (all-listed xs)

  pub all_append : (xs ys : List A) → all p (xs ++ ys) ≡ (all p xs && all p ys)
  unfolding all
  all_append [] ys = refl
  all_append (x ∷ xs) ys = ap (λ (b : Bool). p x && b) (all_append xs ys) ∙ sym (and_assoc (p x) (all p xs) (all p ys))

module _ {A : Type 0} (p q : A → Bool) where
  pub all_same : ((x : A) → p x ≡ q x) → (xs : List A) → all p xs ≡ all q xs
  unfolding all
  all_same e [] = refl
  all_same e (x ∷ xs) = simp (e x, all_same e xs)

  pub all_more : ((x : A) → p x ≡ true → q x ≡ true) → (xs : List A) → all p xs ≡ true → all q xs ≡ true
  unfolding all
  all_more h [] e = e
  all_more h (x ∷ xs) e = and_both (h x (and_left (p x) (all p xs) e)) (all_more h xs (and_right (p x) (all p xs) e))

  pub all-and : (xs : List A) → all (λ x. p x && q x) xs ≡ (all p xs && all q xs)
  unfolding all
  all-and [] = refl
  all-and (x ∷ xs) = ap (λ (b : Bool). (p x && q x) && b) (all-and xs) ∙ swapped (p x) (q x) (all p xs) (all q xs)
    where
      swapped : (a b c d : Bool) → ((a && b) && (c && d)) ≡ ((a && c) && (b && d))
      swapped false b c d = refl
      swapped true false c d = sym (and-false c)
      swapped true true c d = refl

pub all_true : {A : Type 0} (xs : List A) → all (λ x. true) xs ≡ true
unfolding all
all_true [] = refl
all_true (x ∷ xs) = all_true xs
