-- Laws on a step whose moves name their sources: where their VMs are.
use Prim.Native.Nat.{ℕ, suc, ◌*◌}
use mathlib.Core.Bool.{true}
use mathlib.Core.List.{List, [], ◌∷◌, ◌++◌}
use mathlib.Core.Path.{◌≡◌, refl, sym, ap, ap₂, ◌∙◌}
use lib.ListN.{length}
use lib.Seq.{get_or-take}
use borrow.Author.Tests.{eq-eqb}
use Rattle.records.specs.Base.{all}
use Rattle.records.specs.Room.{Room}
use Rattle.records.specs.Plan.{Step, with_sources, moves_bytes, written_width}
use Rattle.records.specs.declared.plan.Move.{Move}
use Rattle.records.specs.Inner.{tells_source, tells_sources}
use Rattle.records.specs.declared.plan.Source.{Source}
use Rattle.records.specs.declared.plan.Source.TheVariants.{Unnamed, Named}
use Rattle.records.proofs.Laws.Bools.{and_both}
use Rattle.records.proofs.Laws.RoundTrip.{moves-length}
use Rattle.rules.specs.Moments.{Placement, place_of, after}
use Rattle.rules.specs.Rules.{named, is_place, sourced, sound_step}
use Rattle.rules.specs.Inner.{held, dests_from}
use Rattle.rules.proofs.Laws.Orders.{named-vm, named-rest, never}
use Rattle.rules.proofs.Laws.Sources.{length-unread, after-unread, sound-unread}
use Rattle.planner.specs.Picks.{from_places}
use Rattle.planner.specs.Inner.{bare}

module _ (places : Placement) where
  pub from-none : from_places places [] ≡ []
  unfolding from_places with_sources
  from-none = refl

  pub from_empty : (step : Step) → from_places places step ≡ [] → step ≡ []
  unfolding from_places with_sources
  from_empty [] e = refl
  from_empty (move ∷ moves) e = never (cc)

  pub from-length : (step : Step) → length (from_places places step) ≡ length step
  unfolding from_places
  from-length step = length-unread (λ move. Named (place_of places move.vm)) step

  pub from-after : (start : Placement) (step : Step) → after start (from_places places step) ≡ after start step
  unfolding from_places
  from-after start step = after-unread (λ move. Named (place_of places move.vm)) start step

  pub from-append : (a b : Step) → from_places places (a ++ b) ≡ from_places places a ++ from_places places b
  unfolding from_places with_sources
  from-append [] b = refl
  from-append (move ∷ moves) b = ap (λ (x : Step). record { vm = move.vm; source = Named (place_of places move.vm); to = move.to } ∷ x) (from-append moves b)

  -- no wrong source, and none left out
  pub from-sourced : (step : Step) → sourced places (from_places places step) ≡ true
  unfolding from_places with_sources sourced is_place all
  from-sourced [] = refl
  from-sourced (move ∷ moves) = and_both (eq-eqb (place_of places move.vm) (place_of places move.vm) refl) (from-sourced moves)

  pub from-tells : (step : Step) → tells_sources (from_places places step) ≡ true
  unfolding from_places with_sources tells_sources tells_source all
  from-tells [] = refl
  from-tells (move ∷ moves) = from-tells moves

  -- its bytes
  pub from-size : (step : Step) → length (moves_bytes (from_places places step)) ≡ length step * written_width
  from-size step = moves-length (from_places places step) (from-tells step) ∙ ap (λ (n : ℕ). n * written_width) (from-length step)

  -- sources named before do not matter
  from-again : (names : Move → Source) (step : Step) → from_places places (with_sources names step) ≡ from_places places step
  unfolding from_places with_sources
  from-again names [] = refl
  from-again names (move ∷ moves) = ap (λ (x : Step). record { vm = move.vm; source = Named (place_of places move.vm); to = move.to } ∷ x) (from-again names moves)

  pub from-bare : (step : Step) → from_places places (bare step) ≡ from_places places step
  unfolding bare
  from-bare step = from-again (λ move. Unnamed) step

  pub from-twice : (other : Placement) (step : Step) → from_places places (from_places other step) ≡ from_places places step
  unfolding from_places
  from-twice other step = from-again (λ move. Named (place_of other move.vm)) step

pub from-sound : (room : Room) (places : Placement) (step : Step) → sound_step room places (from_places places step) ≡ sound_step room places step
unfolding from_places
from-sound room places step = sound-unread (λ move. Named (place_of places move.vm)) room places step

-- an array names as the placement that it holds
pub from-held : (room : Room) (places : List ℕ) (least : ℕ) (step : Step) → named room (held room places) least step ≡ true → from_places places step ≡ from_places (held room places) step
unfolding from_places with_sources held
from-held room places least [] n = refl
from-held room places least (move ∷ moves) n =
    ap₂ (λ (p : ℕ) (rest : Step). record { vm = move.vm; source = Named p; to = move.to } ∷ rest)
    (sym (get_or-take (length room.vms) places move.vm 0 (named-vm room (held room places) least move moves n)))
    (from-held room places (suc move.vm) moves (named-rest room (held room places) least move moves n))

-- without its sources it has as many moves, the same destinations, and leaves the same placement
pub bare-length : (step : Step) → length (bare step) ≡ length step
unfolding bare
bare-length step = length-unread (λ move. Unnamed) step

pub bare-after : (places : Placement) (step : Step) → after places (bare step) ≡ after places step
unfolding bare
bare-after places step = after-unread (λ move. Unnamed) places step

pub from-dests : (places : Placement) (step : Step) → dests_from (from_places places step) ≡ dests_from step
unfolding from_places with_sources dests_from
from-dests places [] = refl
from-dests places (move ∷ moves) = rw (from-dests places moves)
