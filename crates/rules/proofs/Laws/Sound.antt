-- Laws on sound steps: what the first fault says of the six tests; the names and phases of a part of a step; a step with no more on any node than another.
use Prim.Native.Nat.{ℕ, suc, ◌≤◌, ◌<◌}
use mathlib.Core.Bool.{Bool, true, false, not, ◌&&◌}
use mathlib.Core.List.{[], ◌∷◌, Sublistᴰ}
use mathlib.Core.Logic.{◌↔◌, ◌⊎◌, inl, inr}
use mathlib.Core.Path.{◌≡◌, refl, sym, ap, ◌∙◌}
use native.Mathlib.Omega.{arith}
use lib.Dec.{eqb}
use borrow.Author.Tests.{eqb-true, ne_eqb}
use Rattle.std.specs.Prelude.{Result, Ok, Err}
use Rattle.records.specs.Base.{pick, all}
use Rattle.records.specs.Room.{Room, vm_of}
use Rattle.records.specs.Plan.{Move, Step}
use Rattle.records.proofs.Laws.Bools.{and_left, and_right, and_both, all_more}
use Rattle.rules.specs.Moments.{Placement, staying, waiting, cell, counts_on, bears_at, tally_at, phase_of, first_moment, begun, all_running}
use Rattle.rules.specs.Orders.{meets_mate}
use Rattle.rules.specs.Rules.{named, sourced, permitted, fitting, unmet, in_turn, step_check, sound_step}
use Rattle.rules.specs.declared.faults.StepFault.{StepFault}
use Rattle.rules.specs.declared.faults.StepFault.TheVariants.{Misnamed, Elsewhere, Forbidden, Misfit, Mate, Early}
use Rattle.rules.proofs.Laws.Orders.{never, Under, meets_under, bears-under, named-least, named-vm, named-sends, named-off, named-rest, named-cons}

-- the first fault from the tests
abbrev found : Bool → Bool → Bool → Bool → Bool → Bool → Result (Unit {0}) StepFault
found n s p f u t =
    pick (not n) (Err Misnamed)
    (pick (not s) (Err Elsewhere) (pick (not p) (Err Forbidden) (pick (not f) (Err Misfit) (pick (not u) (Err Mate) (pick (not t) (Err Early) (Ok tt))))))

-- the tests that a fault tells
pub record TestsElsewhere (n s : Bool) : Type 0 where
  pub well-named : n ≡ true
  pub elsewhere : s ≡ false

pub record TestsForbidden (n s p : Bool) : Type 0 where
  pub well-named : n ≡ true
  pub well-sourced : s ≡ true
  pub forbidden : p ≡ false

pub record TestsMisfit (n s p f : Bool) : Type 0 where
  pub well-named : n ≡ true
  pub well-sourced : s ≡ true
  pub permitted : p ≡ true
  pub misfit : f ≡ false

pub record TestsMate (n s p f u : Bool) : Type 0 where
  pub well-named : n ≡ true
  pub well-sourced : s ≡ true
  pub permitted : p ≡ true
  pub fit : f ≡ true
  pub mate : u ≡ false

pub record TestsEarly (n s p f u t : Bool) : Type 0 where
  pub well-named : n ≡ true
  pub well-sourced : s ≡ true
  pub permitted : p ≡ true
  pub fit : f ≡ true
  pub apart : u ≡ true
  pub early : t ≡ false

none_found : (n s p f u t : Bool) → found n s p f u t ≡ Ok tt → ((n && (p && (f && (u && t)))) ≡ true) × (s ≡ true)
none_found false s p f u t e = never (cc)
none_found true false p f u t e = never (cc)
none_found true true false f u t e = never (cc)
none_found true true true false u t e = never (cc)
none_found true true true true false t e = never (cc)
none_found true true true true true false e = never (cc)
none_found true true true true true true e = (refl, refl)

misnamed-found : (n s p f u t : Bool) → found n s p f u t ≡ Err Misnamed → n ≡ false
misnamed-found false s p f u t e = refl
misnamed-found true false p f u t e = never (cc)
misnamed-found true true false f u t e = never (cc)
misnamed-found true true true false u t e = never (cc)
misnamed-found true true true true false t e = never (cc)
misnamed-found true true true true true false e = never (cc)
misnamed-found true true true true true true e = never (cc)

elsewhere-found : (n s p f u t : Bool) → found n s p f u t ≡ Err Elsewhere → TestsElsewhere n s
elsewhere-found false s p f u t e = never (cc)
elsewhere-found true false p f u t e = record { well-named = refl; elsewhere = refl }
elsewhere-found true true false f u t e = never (cc)
elsewhere-found true true true false u t e = never (cc)
elsewhere-found true true true true false t e = never (cc)
elsewhere-found true true true true true false e = never (cc)
elsewhere-found true true true true true true e = never (cc)

forbidden-found : (n s p f u t : Bool) → found n s p f u t ≡ Err Forbidden → TestsForbidden n s p
forbidden-found false s p f u t e = never (cc)
forbidden-found true false p f u t e = never (cc)
forbidden-found true true false f u t e = record { well-named = refl; well-sourced = refl; forbidden = refl }
forbidden-found true true true false u t e = never (cc)
forbidden-found true true true true false t e = never (cc)
forbidden-found true true true true true false e = never (cc)
forbidden-found true true true true true true e = never (cc)

misfit-found : (n s p f u t : Bool) → found n s p f u t ≡ Err Misfit → TestsMisfit n s p f
misfit-found false s p f u t e = never (cc)
misfit-found true false p f u t e = never (cc)
misfit-found true true false f u t e = never (cc)
misfit-found true true true false u t e = record { well-named = refl; well-sourced = refl; permitted = refl; misfit = refl }
misfit-found true true true true false t e = never (cc)
misfit-found true true true true true false e = never (cc)
misfit-found true true true true true true e = never (cc)

mate-found : (n s p f u t : Bool) → found n s p f u t ≡ Err Mate → TestsMate n s p f u
mate-found false s p f u t e = never (cc)
mate-found true false p f u t e = never (cc)
mate-found true true false f u t e = never (cc)
mate-found true true true false u t e = never (cc)
mate-found true true true true false t e = record { well-named = refl; well-sourced = refl; permitted = refl; fit = refl; mate = refl }
mate-found true true true true true false e = never (cc)
mate-found true true true true true true e = never (cc)

early-found : (n s p f u t : Bool) → found n s p f u t ≡ Err Early → TestsEarly n s p f u t
early-found false s p f u t e = never (cc)
early-found true false p f u t e = never (cc)
early-found true true false f u t e = never (cc)
early-found true true true false u t e = never (cc)
early-found true true true true false t e = never (cc)
early-found true true true true true false e = record { well-named = refl; well-sourced = refl; permitted = refl; fit = refl; apart = refl; early = refl }
early-found true true true true true true e = never (cc)

module _ (room : Room) (places : Placement) (step : Step) where
  -- a sound step, by its tests
  module _ (e : sound_step room places step ≡ true) where
    pub sound-named : named room places 0 step ≡ true
    unfolding sound_step
    sound-named = and_left (named room places 0 step) _ e

    rest : (permitted room step && (fitting room places step && (unmet room places step && in_turn room places step))) ≡ true
    unfolding sound_step
    rest = and_right (named room places 0 step) _ e

    pub sound-permitted : permitted room step ≡ true
    sound-permitted = and_left (permitted room step) _ rest

    pub sound-fitting : fitting room places step ≡ true
    sound-fitting = and_left (fitting room places step) _ (and_right (permitted room step) _ rest)

    last : (unmet room places step && in_turn room places step) ≡ true
    last = and_right (fitting room places step) _ (and_right (permitted room step) _ rest)

    pub sound-unmet : unmet room places step ≡ true
    sound-unmet = and_left (unmet room places step) _ last

    pub sound-turn : in_turn room places step ≡ true
    sound-turn = and_right (unmet room places step) _ last

  pub sound-tests : named room places 0 step ≡ true → permitted room step ≡ true → fitting room places step ≡ true → unmet room places step ≡ true →
      in_turn room places step ≡ true → sound_step room places step ≡ true
  unfolding sound_step
  sound-tests n p f u t = and_both n (and_both p (and_both f (and_both u t)))

  -- the first fault, by the tests
  pub none-check : (step_check room places step ≡ Ok tt) ↔ ((sound_step room places step ≡ true) × (sourced places step ≡ true))
  unfolding step_check sound_step
  none-check = (
    none_found (named room places 0 step) (sourced places step) (permitted room step) (fitting room places step) (unmet room places step) (in_turn room places step),
    λ t. simp (sound-named t.0, t.1, sound-permitted t.0, sound-fitting t.0, sound-unmet t.0, sound-turn t.0),
  )

  pub misnamed-check : (step_check room places step ≡ Err Misnamed) ↔ (named room places 0 step ≡ false)
  unfolding step_check
  misnamed-check = (
    misnamed-found (named room places 0 step) (sourced places step) (permitted room step) (fitting room places step) (unmet room places step) (in_turn room places step),
    λ t. simp t,
  )

  pub elsewhere-check : (step_check room places step ≡ Err Elsewhere) ↔ TestsElsewhere (named room places 0 step) (sourced places step)
  unfolding step_check
  elsewhere-check = (
    elsewhere-found (named room places 0 step) (sourced places step) (permitted room step) (fitting room places step) (unmet room places step) (in_turn room places step),
    λ t. simp (t.well-named, t.elsewhere),
  )

  pub forbidden-check : (step_check room places step ≡ Err Forbidden) ↔ TestsForbidden (named room places 0 step) (sourced places step) (permitted room step)
  unfolding step_check
  forbidden-check = (
    forbidden-found (named room places 0 step) (sourced places step) (permitted room step) (fitting room places step) (unmet room places step) (in_turn room places step),
    λ t. simp (t.well-named, t.well-sourced, t.forbidden),
  )

  pub misfit-check : (step_check room places step ≡ Err Misfit) ↔
      TestsMisfit (named room places 0 step) (sourced places step) (permitted room step) (fitting room places step)
  unfolding step_check
  misfit-check = (
    misfit-found (named room places 0 step) (sourced places step) (permitted room step) (fitting room places step) (unmet room places step) (in_turn room places step),
    λ t. simp (t.well-named, t.well-sourced, t.permitted, t.misfit),
  )

  pub mate-check : (step_check room places step ≡ Err Mate) ↔
      TestsMate (named room places 0 step) (sourced places step) (permitted room step) (fitting room places step) (unmet room places step)
  unfolding step_check
  mate-check = (
    mate-found (named room places 0 step) (sourced places step) (permitted room step) (fitting room places step) (unmet room places step) (in_turn room places step),
    λ t. simp (t.well-named, t.well-sourced, t.permitted, t.fit, t.mate),
  )

  pub early-check : (step_check room places step ≡ Err Early) ↔
      TestsEarly (named room places 0 step) (sourced places step) (permitted room step) (fitting room places step) (unmet room places step) (in_turn room places step)
  unfolding step_check
  early-check = (
    early-found (named room places 0 step) (sourced places step) (permitted room step) (fitting room places step) (unmet room places step) (in_turn room places step),
    λ t. simp (t.well-named, t.well-sourced, t.permitted, t.fit, t.apart, t.early),
  )

-- ---- a part of a step, its moves in order

module _ (room : Room) (places : Placement) where
  pub named-part : (low least : ℕ) {part whole : Step} → Sublistᴰ part whole → low ≤ least → named room places least whole ≡ true → named room places low part ≡ true
  unfolding named
  named-part low least Sublistᴰ.slnil h e = refl
  named-part low least (Sublistᴰ.cons {a = move} {l₂ = moves} s) h e =
      let l = named-least room places least move moves e in
      named-part low (suc move.vm) s (omega arith) (named-rest room places least move moves e)
  named-part low least (Sublistᴰ.cons-cons {a = a} {b = b} {l₁ = part} {l₂ = moves} p s) h e =
      let l = named-least room places least b moves e in
      let k : low ≤ b.vm = omega arith in
      let t : named room places low (b ∷ part) ≡ true =
      named-cons room places low b part k (named-vm room places least b moves e) (named-sends room places least b moves e)
      (named-off room places least b moves e) (named-part (suc b.vm) (suc b.vm) s (omega arith) (named-rest room places least b moves e)) in
      ap (λ (x : Move). named room places low (x ∷ part)) p ∙ t

  -- a VM below the least has no move
  pub phase-below : (least : ℕ) (step : Step) (v : ℕ) → named room places least step ≡ true → v < least → phase_of step v ≡ staying
  unfolding phase_of
  phase-below least [] v e h = refl
  phase-below least (move ∷ moves) v e h =
      let l = named-least room places least move moves e in
      let m : move.vm ≡ v → ⊥ = λ q. omega arith in
      rw (ne_eqb move.vm v m) (phase-below (suc move.vm) moves v (named-rest room places least move moves e) (omega arith))

  -- in the part a VM has the move that it has in the whole, or none
  pub phase-part : (least : ℕ) {part whole : Step} → Sublistᴰ part whole → (v : ℕ) → named room places least whole ≡ true →
      (phase_of part v ≡ staying) ⊎ (phase_of part v ≡ phase_of whole v)
  unfolding phase_of
  phase-part least Sublistᴰ.slnil v e = inl refl
  phase-part least (Sublistᴰ.cons {a = move} {l₁ = part} {l₂ = moves} s) v e =
      go (eqb move.vm v) refl (phase-part (suc move.vm) s v (named-rest room places least move moves e))
    where
      go : (b : Bool) → eqb move.vm v ≡ b → (phase_of part v ≡ staying) ⊎ (phase_of part v ≡ phase_of moves v) →
          (phase_of part v ≡ staying) ⊎ (phase_of part v ≡ pick b (waiting move.to) (phase_of moves v))
      go true t w =
          let q = eqb-true move.vm v t in
          inl (phase-below (suc move.vm) part v (named-part (suc move.vm) (suc move.vm) s (omega arith) (named-rest room places least move moves e)) (omega arith))
      go false t w = w
  phase-part least (Sublistᴰ.cons-cons {a = a} {b = b} {l₁ = part} {l₂ = moves} p s) v e =
      rw p (go (eqb b.vm v) (phase-part (suc b.vm) s v (named-rest room places least b moves e)))
    where
      go : (t : Bool) → (phase_of part v ≡ staying) ⊎ (phase_of part v ≡ phase_of moves v) →
          (pick t (waiting b.to) (phase_of part v) ≡ staying) ⊎ (pick t (waiting b.to) (phase_of part v) ≡ pick t (waiting b.to) (phase_of moves v))
      go true w = inr refl
      go false w = w

-- a VM counts on its place with every move running, moved or not
pub counts-place : (d v p : ℕ) (step : Step) → eqb p d ≡ true → counts_on d (cell v p (begun (phase_of step v))) ≡ true
unfolding phase_of begun counts_on
counts-place d v p [] e = e
counts-place d v p (move ∷ moves) e = picked (eqb move.vm v) (counts-place d v p moves e)
  where
    picked : (b : Bool) → counts_on d (cell v p (begun (phase_of moves v))) ≡ true →
        counts_on d (cell v p (begun (pick b (waiting move.to) (phase_of moves v)))) ≡ true
    picked true h = rw e
    picked false h = h

-- a step that, with all moves running, has no more on any node than another step at a placement of its own: where its destinations bear the other's tallies
-- they bear its own, and whom its VMs do not meet there they do not meet here
module _ (room : Room) (places next : Placement) (part whole : Step)
    (under : (d : ℕ) → Under d (all_running (first_moment room next part)) (all_running (first_moment room places whole))) where
  pub fitting-under : all (λ move. bears_at room move.to (tally_at room move.to (all_running (first_moment room places whole))) (vm_of room move.vm)) part ≡ true → fitting room next part ≡ true
  unfolding fitting
  fitting-under e =
      all_more (λ move. bears_at room move.to (tally_at room move.to (all_running (first_moment room places whole))) (vm_of room move.vm))
      (λ move. bears_at room move.to (tally_at room move.to (all_running (first_moment room next part))) (vm_of room move.vm))
      (λ move h. bears-under room (vm_of room move.vm) (under move.to) h) part e

  pub unmet-under : all (λ move. not (meets_mate room (all_running (first_moment room places whole)) move.vm move.to)) part ≡ true → unmet room next part ≡ true
  unfolding unmet
  unmet-under e =
      all_more (λ move. not (meets_mate room (all_running (first_moment room places whole)) move.vm move.to))
      (λ move. not (meets_mate room (all_running (first_moment room next part)) move.vm move.to))
      (λ move h. fewer (meets_mate room (all_running (first_moment room next part)) move.vm move.to)
      (meets_mate room (all_running (first_moment room places whole)) move.vm move.to) (meets_under room move.vm (under move.to)) h) part e
    where
      fewer : (a b : Bool) → (a ≡ true → b ≡ true) → not b ≡ true → not a ≡ true
      fewer false b h e = refl
      fewer true b h e = sym (ap not (h refl)) ∙ e
