-- Laws on numbers in digits.
use Prim.Native.Nat.{ℕ, ◌≤◌, ◌<◌, ◌^◌}
use mathlib.Core.Bool.{true, false}
use mathlib.Core.List.{List}
use mathlib.Core.Path.{◌≡◌}
use native.Mathlib.Omega.{arith}
use lib.ListN.{length}
use borrow.Author.Rules.{rules}
use native.Mathlib.Decide.{dec_lt}
use mathlib.Core.Logic.{by_cases}
use mathlib.Core.Path.{refl}
use Rattle.std.specs.Prelude.{Result, Ok, Err, Some, min}
use Rattle.std.specs.Result.{OkIff, result_unwrap_or}
use Rattle.std.specs.Str.{IsUtf8}
use Rattle.std.specs.Str.Parse.{ParsesUnsigned}
use Rattle.std.proofs.lemmas.Str.{IsUtf8-from_ascii}
use Rattle.std.proofs.lemmas.List.{get_or_past}
use Rattle.std.proofs.lemmas.Bool.Decides.{nat_tests}
use lib.Dec.{eqb}
use mathlib.Core.Path.{sym}
use Rattle.std.proofs.lemmas.Str.Parse.{parse_digits}
use Rattle.files.proofs.Laws.Digits.{digit-at}
use Rattle.std.specs.List.{list_all}
use Rattle.std.specs.Char.{is_ascii_digit}
use Rattle.std.specs.Str.Parse.{digits_value}
use Rattle.std.proofs.lemmas.Str.Parse.{IsNumeralModel, numerals_by_value}
use Rattle.files.specs.Number.{largest, capped, number_in}

-- so a number within a limit is told as it is, and one past it as one past it: of a reserve (90), and of a step (512)
pub capped-limit : (limit n : ℕ) → limit < largest → (n ≤ limit → capped n ≡ n) × (limit < n → limit < capped n)
capped-limit limit n m = (λ h. omega arith, λ h. omega arith)

-- digits are text
pub digits_are-text : (text : List ℕ) → list_all is_ascii_digit text ≡ true → IsUtf8 text
digits_are-text text h =
    IsUtf8-from_ascii text (λ i. by_cases (dec_lt i (length text)) (λ l. let d = digit-at text i h l in omega (arith, d.1))
    (λ m. rw (get_or_past text i 0 (omega arith)) (omega arith)))

own : IsNumeralModel (λ ds. list_all is_ascii_digit ds ≡ true) (digits_value 10)
own = numerals_by_value _ (search rules)

-- what is read of a text of digits, and what is told of it
read-as : {E : Type 0} (text : List ℕ) (r : Result ℕ E) → 0 < length text → OkIff r ((0 < length text) × (digits_value 10 text < 2 ^ 64)) (digits_value 10 text) →
    min (result_unwrap_or r largest) largest ≡ capped (digits_value 10 text)
read-as text (Ok n) some (_, e) = rw e refl
read-as text (Err e) some large =
    by_cases (dec_lt (digits_value 10 text) (2 ^ 64)) (λ l. absurd (large (some, l))) (λ m. omega arith)

pub told-as : {E : Type 0} (text digits : List ℕ) (r : Result ℕ E) (n : ℕ) → digits ≡ text → ParsesUnsigned 64 10 digits r →
    true ≡ list_all is_ascii_digit text → false ≡ eqb (length text) 0 → n ≡ min (result_unwrap_or r largest) largest → Some n ≡ number_in text
told-as text digits r n e p d some q =
    let a : list_all is_ascii_digit text ≡ true = sym d in
    let l : 0 < length text = grind (arith, nat_tests) in
    let h : ParsesUnsigned 64 10 text r = rw e at p in
    let v = read-as text r l (parse_digits own 64 text r h a) in
    let z : eqb (length text) 0 ≡ false = sym some in
    rw (z, a, q, v)

pub ruleset readings = (digits_are-text, told-as)
