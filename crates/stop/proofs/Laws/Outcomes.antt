-- Laws on the outcome: what the test for 20 tells.
use Prim.Native.Nat.{ℕ, ◌≤◌}
use mathlib.Core.Bool.{true, ◌&&◌}
use mathlib.Core.List.{List}
use mathlib.Core.Path.{◌≡◌}
use lib.ListN.{length}
use lib.Dec.{leb, eqb}
use borrow.Author.Tests.{leb-true, eqb-true}
use Rattle.records.specs.Plan.{Step}
use Rattle.records.proofs.Laws.Bools.{and_left, and_right}
use Rattle.stop.specs.Stops.{numbered, marked}

module _ (steps : List Step) (marks : List ℕ) (n : ℕ) (e : marked steps n marks ≡ true) where
  rest : (leb n (length steps) && eqb (length marks) (length (numbered steps n))) ≡ true
  unfolding marked
  rest = and_right (leb 1 n) _ e

  pub marked-first : 1 ≤ n
  unfolding marked
  marked-first = leb-true 1 n (and_left (leb 1 n) _ e)

  pub marked-last : n ≤ length steps
  marked-last = leb-true n (length steps) (and_left (leb n (length steps)) _ rest)

  pub marked-each : length marks ≡ length (numbered steps n)
  marked-each = eqb-true (length marks) (length (numbered steps n)) (and_right (leb n (length steps)) _ rest)
