-- Laws on single moves: as many as there are moves, and a way to divide the steps.
use Prim.Native.Nat.{ℕ, suc, ◌≤◌}
use mathlib.Core.Bool.{true}
use mathlib.Core.List.Permᴰ
use mathlib.Core.List.{List, [], ◌∷◌, flatten}
use mathlib.Core.Path.{◌≡◌, refl, ap, ◌∙◌}
use native.Mathlib.Omega.{arith}
use lib.ListN.{length, length-append}
use lib.Dec.{eqb}
use borrow.Author.Tests.{lt-ltb}
use Rattle.records.specs.Base.{all, sum_of}
use Rattle.records.specs.Room.{Room, above, rises}
use Rattle.records.specs.Plan.{Step, move_total, most_steps}
use Rattle.records.proofs.Laws.Bools.{and_left, and_right, and_both, all_append}
use Rattle.rules.specs.Moments.{Placement, after}
use Rattle.rules.specs.Rules.{named}
use Rattle.rules.specs.Promises.{named_all}
use Rattle.rules.specs.Divides.{vms_in, is_piece, DividesStep, Divides, none, divide}
use Rattle.rules.proofs.Laws.Orders.{named-least, named-rest}
use Rattle.split.specs.Splits.{singles, all_singles}

pub singles-length : (step : Step) → length (singles step) ≡ length step
unfolding singles
singles-length [] = refl
singles-length (move ∷ moves) = let h = singles-length moves in omega arith

pub all-length : (steps : List Step) → length (all_singles steps) ≡ move_total steps
unfolding all_singles move_total sum_of
all-length [] = refl
all-length (step ∷ steps) =
    let a : length (all_singles steps) ≡ sum_of length steps = all-length steps in
    let b = length-append (singles step) (all_singles steps) in
    let c = singles-length step in
    omega arith

-- ---- they divide the steps

singles-flat : (step : Step) → flatten (singles step) ≡ step
unfolding singles flatten
singles-flat [] = refl
singles-flat (move ∷ moves) = ap (λ (l : Step). move ∷ l) (singles-flat moves)

singles-pieces : (step : Step) → all is_piece (singles step) ≡ true
unfolding singles all is_piece rises above
singles-pieces [] = refl
singles-pieces (move ∷ moves) = singles-pieces moves

singles-divide : (step : Step) → DividesStep step (singles step)
singles-divide step = record { moves = rw (singles-flat step) (Permᴰ.refl step); each = singles-pieces step }

pub all-divide : (steps : List Step) → Divides steps (all_singles steps)
unfolding all_singles
all-divide [] = none
all-divide (step ∷ steps) = divide (singles-divide step) (all-divide steps)

-- ---- each has one move

singles-single : (step : Step) → all (λ one. eqb (length one) 1) (singles step) ≡ true
unfolding singles all
singles-single [] = refl
singles-single (move ∷ moves) = singles-single moves

pub all-single : (steps : List Step) → all (λ one. eqb (length one) 1) (all_singles steps) ≡ true
unfolding all_singles all
all-single [] = refl
all-single (step ∷ steps) = all_append (λ one. eqb (length one) 1) (singles step) (all_singles steps) ∙ and_both (singles-single step) (all-single steps)

-- ---- the VMs of a step without 15 rise

named-above : (room : Room) (places : Placement) (low : ℕ) (step : Step) → named room places (suc low) step ≡ true → above low (vms_in step) ≡ true
unfolding above
named-above room places low [] n = refl
named-above room places low (move ∷ moves) n =
    let l = named-least room places (suc low) move moves n in
    and_both (lt-ltb low move.vm (omega arith)) (named-above room places move.vm moves (named-rest room places (suc low) move moves n))

named-rises : (room : Room) (places : Placement) (step : Step) → named room places 0 step ≡ true → rises (vms_in step) ≡ true
unfolding rises
named-rises room places [] n = refl
named-rises room places (move ∷ moves) n = named-above room places move.vm moves (named-rest room places 0 move moves n)

pub all-rise : (room : Room) (places : Placement) (steps : List Step) → named_all room places steps ≡ true → all (λ step. rises (vms_in step)) steps ≡ true
unfolding named_all all
all-rise room places [] n = refl
all-rise room places (step ∷ steps) n =
    and_both (named-rises room places step (and_left (named room places 0 step) (named_all room (after places step) steps) n))
    (all-rise room (after places step) steps (and_right (named room places 0 step) (named_all room (after places step) steps) n))

-- as many as there are moves are few enough
pub singles-most : (steps : List Step) (moves : ℕ) → moves ≡ move_total steps → moves ≤ most_steps → length (all_singles steps) ≤ most_steps
singles-most steps moves m few = let a = all-length steps in omega arith
