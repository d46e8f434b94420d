-- Laws on lists that are given by index.
use Prim.Native.Nat.{ℕ, zero, suc, ◌+◌, ◌<◌}
use mathlib.Core.List.{map}
use mathlib.Core.Path.{◌≡◌, refl, ap, ◌∙◌}
use native.Mathlib.Omega.{arith}
use lib.ListN.{length, get_or}
use Rattle.rules.specs.Rules.{from}

pub table-length : {A : Type 0} (f : ℕ → A) (k n : ℕ) → length (map f (from k n)) ≡ n
unfolding from
table-length f k zero = refl
table-length f k (suc n) = ap suc (table-length f (suc k) n)

pub table_at : {A : Type 0} (f : ℕ → A) (d : A) (k n i : ℕ) → i < n → get_or (map f (from k n)) i d ≡ f (k + i)
unfolding from
table_at f d k zero i h = absurd (omega arith)
table_at f d k (suc n) zero h = let e : k + 0 ≡ k = omega arith in rw e
table_at f d k (suc n) (suc i) h = let e : k + suc i ≡ suc k + i = omega arith in rw e (table_at f d (suc k) n i (omega arith))

-- what is counted from 0
pub counted_at : {A : Type 0} (f : ℕ → A) (d : A) (n i : ℕ) → i < n → get_or (map f (from 0 n)) i d ≡ f i
counted_at f d n i h = let e : 0 + i ≡ i = omega arith in table_at f d 0 n i h ∙ ap f e
