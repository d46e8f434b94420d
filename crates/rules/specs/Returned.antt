-- The number that a call returns, taken apart as the C header does it (`kobdrieft.h`: a shift is a division, a mask a remainder).
use Rattle.std.specs.Prelude.{ℕ, ◌/◌, ◌%◌, ◌^◌, ◌≡◌, eqb}
use Rattle.records.specs.Base.{pick}

-- bits 63 and 62: 0 is accepted, or a plan; 1 is blocked; 2 is refused
unfoldable pub told_outcome : ℕ → ℕ
told_outcome r = r / 2 ^ 62

-- of a refusal its number, bits 23 to 16, and its step, bits 15 to 0; else 0
unfoldable pub told_number : ℕ → ℕ
told_number r = pick (eqb (told_outcome r) 2) (r / 2 ^ 16 % 2 ^ 8) 0

unfoldable pub told_step : ℕ → ℕ
told_step r = pick (eqb (told_outcome r) 2) (r % 2 ^ 16) 0

-- of all else the steps, bits 61 to 53, the moves, bits 52 to 44, and the cost, bits 43 to 0; of a refusal 0
unfoldable pub told_steps : ℕ → ℕ
told_steps r = pick (eqb (told_outcome r) 2) 0 (r / 2 ^ 53 % 2 ^ 9)

unfoldable pub told_moves : ℕ → ℕ
told_moves r = pick (eqb (told_outcome r) 2) 0 (r / 2 ^ 44 % 2 ^ 9)

unfoldable pub told_cost : ℕ → ℕ
told_cost r = pick (eqb (told_outcome r) 2) 0 (r % 2 ^ 44)

-- what a caller reads: accepted (of a planner: a plan), blocked, or refused with a number and a step
abbrev pub SaysGood : ℕ → Type 0
SaysGood r = told_outcome r ≡ 0

abbrev pub SaysBlocked : ℕ → Type 0
SaysBlocked r = told_outcome r ≡ 1

abbrev pub SaysRefused : ℕ → ℕ → ℕ → Type 0
SaysRefused r number step = (told_outcome r ≡ 2) × (told_number r ≡ number) × (told_step r ≡ step)
