-- Laws on the walk to the stopped step, on its marks, and on the places that they leave.
use Prim.Native.Nat.{ℕ, zero, suc, ◌+◌, ◌-◌, ◌≤◌, ◌<◌}
use mathlib.Core.Bool.{Bool, true, false, not}
use mathlib.Core.List.{List, [], ◌∷◌}
use mathlib.Core.Logic.{◌⊎◌, inl, inr}
use mathlib.Core.Path.{◌≡◌, refl, sym, ap, ◌∙◌}
use native.Mathlib.Omega.{arith}
use lib.ListN.{length, get_or, take}
use lib.Dec.{leb, eqb}
use borrow.Author.Tests.{le-leb, lt-leb, eq-eqb, ne_eqb, eqb-true, eqb-false}
use Rattle.std.specs.Prelude.{Option, Some, None, Ok, Err}
use Rattle.std.specs.Bool.{then_some}
use Rattle.std.specs.List.{list_all, slice_get}
use Rattle.records.specs.Base.{pick, all}
use Rattle.records.specs.Room.{Room}
use Rattle.records.specs.Plan.{Step}
use Rattle.rules.specs.Moments.{current_of, after}
use Rattle.rules.specs.Promises.{after_all}
use Rattle.rules.specs.Inner.{array_of}
use Rattle.stop.specs.Stops.{numbered, ended_moves, marked, marks_ok}
use Rattle.stop.specs.Inner.{marked_step, array_stopped, stopped_places}
use Rattle.stop.specs.declared.outcome.StopFault.TheVariants.{NoStep, BadMark}

-- ---- the steps before

pub before_more : (places next result : List ℕ) (n k : ℕ) (step : Step) (steps rest : List Step) → steps ≡ step ∷ rest → k + 1 ≡ n → next ≡ after places step →
    after_all places (take n steps) ≡ result → after_all next (take k rest) ≡ result
unfolding after_all
before_more places next result n k step steps rest e m f inv = let z : n ≡ suc k = omega arith in rw f (rw (e, z) at inv)

pub before-end : (places result : List ℕ) (n : ℕ) (steps : List Step) → (0 < n → steps ≡ []) → after_all places (take n steps) ≡ result → places ≡ result
unfolding after_all
before-end places result zero steps h inv = inv
before-end places result (suc n) steps h inv = rw (h (omega arith)) at inv

-- ---- the marked moves

-- no move is left, or no mark
ended-none : (step : Step) (marks : List ℕ) → (step ≡ []) ⊎ (length marks ≡ 0) → ended_moves step marks ≡ []
unfolding ended_moves
ended-none [] marks h = refl
ended-none (move ∷ moves) [] h = refl
ended-none (move ∷ moves) (mark ∷ marks) (inl e) = absurd (cc)
ended-none (move ∷ moves) (mark ∷ marks) (inr e) = absurd (omega arith)

pub marked-end : (places result : List ℕ) (step : Step) (marks : List ℕ) → after places (ended_moves step marks) ≡ result → (step ≡ []) ⊎ (length marks ≡ 0) → places ≡ result
unfolding after
marked-end places result step marks inv h = rw (ended-none step marks h) at inv

-- ---- 20

step-there : (steps : List Step) (n : ℕ) (step : Step) → slice_get steps n ≡ Some step → (n < length steps) × (get_or steps n [] ≡ step)
step-there [] n step e = absurd (cc)
step-there (first ∷ steps) zero step e = (omega arith, cc)
step-there (first ∷ steps) (suc n) step e = let r = step-there steps n step e in let h = r.0 in (omega arith, r.1)

step-past : (steps : List Step) (n : ℕ) → slice_get steps n ≡ None → length steps ≤ n
step-past [] n e = omega arith
step-past (first ∷ steps) zero e = absurd (cc)
step-past (first ∷ steps) (suc n) e = let h = step-past steps n e in omega arith

module _ (steps : List Step) (n : ℕ) (marks : List ℕ) where
  pub marked-past : slice_get steps n ≡ None → None ≡ marked_step steps (n + 1) marks
  unfolding marked_step marked
  marked-past e = let p = step-past steps n e in rw (le-leb 1 (n + 1) (omega arith), lt-leb (n + 1) (length steps) (omega arith))

  module _ (step : Step) (e : slice_get steps n ≡ Some step) where
    numbered-is : numbered steps (n + 1) ≡ step
    unfolding numbered
    numbered-is = let q : n + 1 - 1 ≡ n = omega arith in ap (λ k. get_or steps k []) q ∙ (step-there steps n step e).1

    marked-found : length step ≡ length marks → Some step ≡ marked_step steps (n + 1) marks
    unfolding marked_step marked
    marked-found l =
        let h = (step-there steps n step e).0 in
        rw (le-leb 1 (n + 1) (omega arith), le-leb (n + 1) (length steps) (omega arith), numbered-is, eq-eqb (length marks) (length step) (sym l))

    marked-other : (length step ≡ length marks → ⊥) → None ≡ marked_step steps (n + 1) marks
    unfolding marked_step marked
    marked-other l =
        let h = (step-there steps n step e).0 in
        rw (le-leb 1 (n + 1) (omega arith), le-leb (n + 1) (length steps) (omega arith), numbered-is, ne_eqb (length marks) (length step) (λ q. l (sym q)))

    pub marked-when : then_some (eqb (length step) (length marks)) step ≡ marked_step steps (n + 1) marks
    marked-when = go (eqb (length step) (length marks)) refl
      where
        go : (b : Bool) → eqb (length step) (length marks) ≡ b → then_some b step ≡ marked_step steps (n + 1) marks
        go true q = marked-found (eqb-true (length step) (length marks) q)
        go false q = marked-other (eqb-false (length step) (length marks) q)

-- ---- 21

pub marks-are : (marks : List ℕ) → list_all (λ mark. leb mark 1) marks ≡ marks_ok marks
unfolding marks_ok all
marks-are [] = refl
marks-are (mark ∷ marks) = rw (marks-are marks)

-- ---- both, and the places

pub places-zero : (room : Room) (steps : List Step) (number : ℕ) (marks : List ℕ) → number < 1 → Err NoStep ≡ stopped_places room steps number marks
unfolding stopped_places marked
places-zero room steps number marks h = rw (lt-leb 1 number h)

module _ (room : Room) (steps : List Step) (number n : ℕ) (marks : List ℕ) (m : number ≡ n + 1) (found : Option Step) (e : found ≡ marked_step steps (n + 1) marks) where
  pub places-no-step : found ≡ None → Err NoStep ≡ stopped_places room steps number marks
  unfolding marked_step stopped_places
  places-no-step f = rw m (go (marked steps (n + 1) marks) (sym e ∙ f))
    where
      go : (b : Bool) → pick b (Some (numbered steps (n + 1))) None ≡ None →
          Err NoStep ≡ pick (not b) (Err NoStep) (pick (not (marks_ok marks)) (Err BadMark) (Ok (array_stopped room steps (n + 1) marks)))
      go true q = absurd (cc)
      go false q = refl

  module _ (step : Step) (f : found ≡ Some step) where
    step-marked : (marked steps number marks ≡ true) × (step ≡ numbered steps number)
    unfolding marked_step
    step-marked = rw m (go (marked steps (n + 1) marks) (sym f ∙ e))
      where
        go : (b : Bool) → Some step ≡ pick b (Some (numbered steps (n + 1))) None → (b ≡ true) × (step ≡ numbered steps (n + 1))
        go true q = (refl, cc)
        go false q = absurd (cc)

    module _ (known : Bool) (k : known ≡ marks_ok marks) where
      pub places-bad-mark : known ≡ false → Err BadMark ≡ stopped_places room steps number marks
      unfolding stopped_places
      places-bad-mark h = rw (step-marked.0, sym k ∙ h)

      pub places-are : (before places : List ℕ) → known ≡ true → before ≡ after_all (array_of (current_of room)) (take n steps) →
          places ≡ after before (ended_moves step marks) → Ok places ≡ stopped_places room steps number marks
      unfolding stopped_places array_stopped
      places-are before places h b p = let q : number - 1 ≡ n = omega arith in rw (step-marked.0, sym k ∙ h, p, b, step-marked.1, q)
