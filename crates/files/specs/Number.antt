-- Numbers in decimal digits, as an argument of a program has them.
use Rattle.std.specs.Prelude.{ℕ, ◌-◌, not, ◌||◌, List, [], ◌∷◌, map, min, Option, Some, None, if◌then◌else◌, ◌==◌, length}
use Rattle.std.specs.List.{list_all}
use Rattle.std.specs.Char.{is_ascii_digit}
use Rattle.std.specs.Str.Parse.{digits_value}

-- the value of each digit of a text
abbrev pub values_of : List ℕ → List ℕ
values_of text = map (λ c. c - 48) text

-- the values of a text, if it is nothing but digits
abbrev pub values_in : List ℕ → Option (List ℕ)
values_in text = if list_all is_ascii_digit text then Some (values_of text) else None

-- a value that is larger is told as this one
abbrev pub largest : ℕ
largest = 4294967296

abbrev pub capped : ℕ → ℕ
capped n = min n largest

-- the number that a text is: there is a digit, and nothing but digits
abbrev pub number_in : List ℕ → Option ℕ
number_in text = if length text == 0 || not (list_all is_ascii_digit text) then None else Some (capped (digits_value 10 text))

-- the reserve that the last arguments of a program are: 0 if there are none
abbrev pub reserve_in : List (List ℕ) → Option ℕ
reserve_in [] = Some 0
reserve_in (percent ∷ []) = number_in percent
reserve_in (percent ∷ (other ∷ rest)) = None
