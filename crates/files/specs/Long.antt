-- A plan file longer than any plan.
use Rattle.std.specs.Prelude.{ℕ, List, ◌≡◌, length, take}
use Rattle.records.specs.Plan.{plan_check}

-- bytes with the fault of every file of this size that begins with the same five, its version and the length it states
pub record Alike (first : List ℕ) (size : ℕ) (short : List ℕ) : Type 0 where
  pub same : (file : List ℕ) → take 5 file ≡ take 5 first → length file ≡ size → plan_check short ≡ plan_check file
