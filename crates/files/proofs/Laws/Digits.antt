-- Laws on turning digits into their values: the first i are turned, the others as they were.
use Prim.Native.Nat.{ℕ, zero, suc, ◌+◌, ◌-◌, ◌≤◌, ◌<◌}
use mathlib.Core.Bool.{Bool, true, false, ◌&&◌}
use mathlib.Core.List.{List, [], ◌∷◌, ◌++◌}
use mathlib.Core.Path.{◌≡◌, refl, ap}
use native.Mathlib.Numerals.{add-one}
use native.Mathlib.Omega.{arith}
use lib.ListN.{length, get_or, set, take, drop}
use Rattle.std.specs.List.{list_all}
use Rattle.std.specs.Char.{is_ascii_digit}
use Rattle.std.proofs.lemmas.Bool.Decides.{nat_tests}
use Rattle.files.specs.Number.{values_of}

abbrev turned : ℕ → List ℕ → List ℕ
turned i text = values_of (take i text) ++ drop i text

turned-at : (text : List ℕ) (i : ℕ) → i < length text → get_or (turned i text) i 0 ≡ get_or text i 0
turned-at [] i h = absurd (omega arith)
turned-at (c ∷ cs) zero h = refl
turned-at (c ∷ cs) (suc i) h = turned-at cs i (omega arith)

turned-set : (text : List ℕ) (i : ℕ) → i < length text → set (turned i text) i (get_or text i 0 - 48) ≡ turned (suc i) text
turned-set [] i h = absurd (omega arith)
turned-set (c ∷ cs) zero h = refl
turned-set (c ∷ cs) (suc i) h = ap (λ (l : List ℕ). (c - 48) ∷ l) (turned-set cs i (omega arith))

pub turned-end : (text : List ℕ) (i : ℕ) → length text ≤ i → turned i text ≡ values_of text
turned-end [] zero h = refl
turned-end [] (suc i) h = refl
turned-end (c ∷ cs) zero h = absurd (omega arith)
turned-end (c ∷ cs) (suc i) h = ap (λ (l : List ℕ). (c - 48) ∷ l) (turned-end cs i (omega arith))

digit-range : (c : ℕ) → is_ascii_digit c ≡ true → (48 ≤ c) × (c < 58)
digit-range c h = grind (arith, nat_tests)

both : (a b : Bool) → (a && b) ≡ true → (a ≡ true) × (b ≡ true)
both true b h = (refl, h)
both false b h = grind arith

-- each of them is a character 0 to 9
pub digit-at : (text : List ℕ) (i : ℕ) → list_all is_ascii_digit text ≡ true → i < length text → (48 ≤ get_or text i 0) × (get_or text i 0 < 58)
digit-at [] i d h = absurd (omega arith)
digit-at (c ∷ cs) zero d h = digit-range c (both (is_ascii_digit c) (list_all is_ascii_digit cs) d).0
digit-at (c ∷ cs) (suc i) d h = digit-at cs i (both (is_ascii_digit c) (list_all is_ascii_digit cs) d).1 (omega arith)

pub turned_least : (text new : List ℕ) (i : ℕ) → new ≡ turned i text → i < length text → list_all is_ascii_digit text ≡ true → 48 ≤ get_or new i 0
turned_least text new i e h d = rw (e, turned-at text i h) (digit-at text i d h).0

pub turned_more : (text new : List ℕ) (i : ℕ) → new ≡ turned i text → i < length text → set new i (get_or new i 0 - 48) ≡ turned (i + 1) text
turned_more text new i e h = rw (e, turned-at text i h, add-one i) (turned-set text i h)

-- the laws that the proof of `to_values` rests on
pub ruleset turning = (turned_least, turned_more, turned-end)
