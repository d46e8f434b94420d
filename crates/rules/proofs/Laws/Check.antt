-- Laws on the check of a step: each refusal, 15, 27, 16, 17, 18 and 33, in its turn.
use Prim.Native.Nat.{ℕ}
use mathlib.Core.Bool.{Bool, true, false}
use mathlib.Core.List.{List}
use mathlib.Core.Path.{◌≡◌, refl, sym, ◌∙◌}
use Rattle.std.specs.Prelude.{Result, Err}
use Rattle.records.specs.Base.{all}
use Rattle.records.specs.Room.{Room, IsSound}
use Rattle.records.specs.Plan.{Step}
use Rattle.rules.specs.Rules.{named, sourced, permitted, fitting, unmet, in_turn, step_check}
use Rattle.rules.specs.Inner.{held, Placed, Held, dests_from, Ready, Aimed, fits_running, spread_ok, turn_ok, bound_check, running_check}
use Rattle.rules.specs.declared.faults.StepFault.{StepFault}
use Rattle.rules.specs.declared.faults.StepFault.TheVariants.{Misnamed, Elsewhere, Forbidden, Misfit}
use Rattle.rules.proofs.Laws.Fit.{named-is-aimed, named-ready, fitting-is}
use Rattle.rules.proofs.Laws.Meet.{unmet-is}
use Rattle.rules.proofs.Laws.Bound.{in-turn-is}
use Rattle.rules.proofs.Laws.Sources.{sourced-held}

-- ---- what the later tests need

module _ (room : Room) (places : List ℕ) (step : Step) (name : Bool) (e : name ≡ named room (held room places) 0 step) (w : IsSound room) (o : name ≡ true) where
  pub named-held : Placed room places → Held room places step
  named-held p = record { sound = w; well-named = sym e ∙ o; placed = p }

  pub named-aims : Aimed room step
  named-aims = named-is-aimed room places step w (sym e ∙ o)

module _ (room : Room) (places : List ℕ) (step : Step) (h : Held room places step) where
  pub held-aimed : Aimed room step
  held-aimed = named-is-aimed room places step h.sound h.well-named

  module _ (dests : List ℕ) (e : dests ≡ dests_from step) where
    pub held-ready : Ready room places dests
    held-ready = rw e (named-ready room places step h.sound h.well-named)

    module _ (fits : Bool) (f : fits ≡ fits_running room places dests step) where
      fits-is : fits ≡ fitting room (held room places) step
      fits-is = f ∙ rw e (fitting-is room places step h.sound h.well-named)

      pub running-misfit : fits ≡ false → Err Misfit ≡ running_check room (held room places) step
      unfolding running_check
      running-misfit o = simp (sym fits-is ∙ o)

      apart-is : all (spread_ok places dests) room.constraints ≡ unmet room (held room places) step
      apart-is = rw e (unmet-is room places step h.sound h.well-named (rw e at held-ready) _ refl)

      turn_is : all (turn_ok room places dests) room.constraints ≡ in_turn room (held room places) step
      turn_is = rw e (in-turn-is room places step h.sound h.well-named)

      pub running-bound : (r : Result (Unit {0}) StepFault) → r ≡ bound_check room places dests → fits ≡ true → r ≡ running_check room (held room places) step
      unfolding running_check bound_check
      running-bound r g o = simp (sym fits-is ∙ o, ← apart-is, ← turn_is) g

-- ---- the first fault

module _ (room : Room) (places : List ℕ) (step : Step) (name : Bool) (e : name ≡ named room (held room places) 0 step) where
  pub step-misnamed : name ≡ false → Err Misnamed ≡ step_check room (held room places) step
  unfolding step_check
  step-misnamed o = simp (sym e ∙ o)

  module _ (right : Bool) (x : right ≡ sourced places step) (w : IsSound room) (o : name ≡ true) where
    right_is : sourced (held room places) step ≡ right
    right_is = sourced-held room places step (named-is-aimed room places step w (sym e ∙ o)) ∙ sym x

    pub step-elsewhere : right ≡ false → Err Elsewhere ≡ step_check room (held room places) step
    unfolding step_check
    step-elsewhere p = simp (sym e ∙ o, right_is ∙ p)

    module _ (may : Bool) (f : may ≡ permitted room step) (y : right ≡ true) where
      pub step-forbidden : may ≡ false → Err Forbidden ≡ step_check room (held room places) step
      unfolding step_check
      step-forbidden p = simp (sym e ∙ o, right_is ∙ y, sym f ∙ p)

      pub step-running : (r : Result (Unit {0}) StepFault) → r ≡ running_check room (held room places) step → may ≡ true → r ≡ step_check room (held room places) step
      unfolding step_check running_check
      step-running r g p = simp (sym e ∙ o, right_is ∙ y, sym f ∙ p) g
