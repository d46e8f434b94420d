-- Laws on the verdict: the promises of a check, over every order and every run.
use Prim.Native.Nat.{ℕ, zero, suc, ◌+◌, ◌≤◌, ◌<◌}
use mathlib.Core.Bool.{Bool, true, false, ◌&&◌, false≢true}
use mathlib.Core.List.{List, [], ◌∷◌}
use mathlib.Core.Logic.{◌↔◌, ◌⊎◌, by_cases}
use mathlib.Core.Path.{◌≡◌, refl, sym, ap, ◌∙◌}
use native.Mathlib.Decide.{ℕ_discrete}
use native.Mathlib.Omega.{arith}
use lib.ListN.{length, get_or, take, length-map}
use lib.Dec.{ltb, eqb}
use borrow.Author.Tests.{lt-ltb, le-ltb, ltb-true, ltb-false, eqb-true, eqb-false}
use Rattle.std.specs.Prelude.{Result, Ok, Err}
use Rattle.records.specs.Base.{pick, all}
use Rattle.records.specs.Room.{Room, most_reserve, room_at, cluster_check}
use Rattle.records.specs.Plan.{Step, step_count, steps_of, plan_check, header_bytes}
use Rattle.records.proofs.Laws.Bools.{and_left, and_right, and_both}
use Rattle.records.proofs.Laws.Steps.{plan-empty, empty-steps, steps-length, steps-most}
use Rattle.records.proofs.Laws.RoundTrip.{header-whole, header-steps}
use Rattle.rules.specs.Moments.{Placement, place_of, current_of, target_of, after}
use Rattle.rules.specs.Rules.{from, target_check, sourced, fitting, unmet, step_check, sound_step}
use Rattle.rules.specs.Cost.{cost_from, cost_of}
use Rattle.rules.specs.Verdict.{home, on_reserve, on_check, steps_verdict, plan_verdict, verdict_of, fault_step}
use Rattle.rules.specs.Promises.{after_all, named_all, sourced_all, sound_all, Shaped, EveryRun, FaultNames, FaultSource, FaultDestination, FaultFit, FaultMate, FaultTurn, FirstAtFault, EndsAway}
use Rattle.rules.specs.declared.faults.StepFault.{StepFault}
use Rattle.rules.specs.declared.faults.Fault.{Fault}
use Rattle.rules.specs.declared.faults.Verdict.{Verdict}
use Rattle.rules.proofs.Laws.Orders.{never}
use Rattle.rules.proofs.Laws.Sound.{none-check, misnamed-check, elsewhere-check, forbidden-check, misfit-check, mate-check, early-check}
use Rattle.rules.proofs.Laws.Sources.{wrong-found, wrong-refused, sourced-at}
use Rattle.rules.proofs.Laws.Waiting.{run-turn}
use Rattle.rules.proofs.Laws.Runs.{sound-all-named, misfit-exact, mate-exact, run_ends, some-run, run-obeys, runs-sound}

-- ---- steps in turn

-- a first step that is sound and names no wrong source passes
clear-check : (room : Room) (places : Placement) (step : Step) (steps : List Step) → sound_all room places (step ∷ steps) ≡ true →
    sourced_all places (step ∷ steps) ≡ true → step_check room places step ≡ Ok tt
unfolding sound_all sourced_all
clear-check room places step steps e x =
    (none-check room places step).1 (and_left (sound_step room places step) (sound_all room (after places step) steps) e, and_left (sourced places step) _ x)

-- sound steps that name no wrong source and reach the target get what is good
pub steps-good : (room : Room) (good : Verdict) (places : Placement) (number : ℕ) (steps : List Step) → sound_all room places steps ≡ true →
    sourced_all places steps ≡ true → home room (after_all places steps) ≡ true → steps_verdict room good places number steps ≡ good
unfolding steps_verdict sound_all sourced_all after_all on_check
steps-good room good places number [] e x h = rw h
steps-good room good places number (step ∷ steps) e x h =
    rw (clear-check room places step steps e x)
    (steps-good room good (after places step) (suc number) steps (and_right (sound_step room places step) _ e) (and_right (sourced places step) _ x) h)

-- and those that do not are refused for that
pub steps-away : (room : Room) (good : Verdict) (places : Placement) (number : ℕ) (steps : List Step) → sound_all room places steps ≡ true →
    sourced_all places steps ≡ true → home room (after_all places steps) ≡ false → steps_verdict room good places number steps ≡ Verdict.Refused Fault.OffTarget
unfolding steps_verdict sound_all sourced_all after_all on_check
steps-away room good places number [] e x h = rw h
steps-away room good places number (step ∷ steps) e x h =
    rw (clear-check room places step steps e x)
    (steps-away room good (after places step) (suc number) steps (and_right (sound_step room places step) _ e) (and_right (sourced places step) _ x) h)

-- only those
pub record StepsAccepted (room : Room) (places : Placement) (steps : List Step) (cost given : ℕ) : Type 0 where
  pub sound : sound_all room places steps ≡ true
  pub well-sourced : sourced_all places steps ≡ true
  pub arrived : home room (after_all places steps) ≡ true
  pub cost-is : given ≡ cost

pub steps-accepted : (room : Room) (cost given : ℕ) (places : Placement) (number : ℕ) (steps : List Step) →
    steps_verdict room (Verdict.Accepted cost) places number steps ≡ Verdict.Accepted given → StepsAccepted room places steps cost given
unfolding steps_verdict sound_all sourced_all after_all on_check
steps-accepted room cost given places number [] e = go (home room places) refl e
  where
    go : (b : Bool) → home room places ≡ b → pick b (Verdict.Accepted cost) (Verdict.Refused Fault.OffTarget) ≡ Verdict.Accepted given →
        StepsAccepted room places [] cost given
    go true h e = record { sound = refl; well-sourced = refl; arrived = h; cost-is = cc }
    go false h e = never (cc)
steps-accepted room cost given places number (step ∷ steps) e =
    go (step_check room places step) refl e (steps-accepted room cost given (after places step) (suc number) steps)
  where
    rest : Verdict
    rest = steps_verdict room (Verdict.Accepted cost) (after places step) (suc number) steps

    go : (c : Result (Unit {0}) StepFault) → step_check room places step ≡ c → on_check (λ fault. Fault.Step fault number) c rest ≡ Verdict.Accepted given →
        (rest ≡ Verdict.Accepted given → StepsAccepted room (after places step) steps cost given) → StepsAccepted room places (step ∷ steps) cost given
    go (Ok done) h e more =
        let a = more e in
        let c = (none-check room places step).0 h in
        record { sound = and_both c.0 a.sound; well-sourced = and_both c.1 a.well-sourced; arrived = a.arrived; cost-is = a.cost-is }
    go (Err fault) h e more = never (cc)

pub record StepsAway (room : Room) (places : Placement) (steps : List Step) : Type 0 where
  pub sound : sound_all room places steps ≡ true
  pub well-sourced : sourced_all places steps ≡ true
  pub missed : home room (after_all places steps) ≡ false

pub steps-off : (room : Room) (cost : ℕ) (places : Placement) (number : ℕ) (steps : List Step) →
    steps_verdict room (Verdict.Accepted cost) places number steps ≡ Verdict.Refused Fault.OffTarget → StepsAway room places steps
unfolding steps_verdict sound_all sourced_all after_all on_check
steps-off room cost places number [] e = go (home room places) refl e
  where
    go : (b : Bool) → home room places ≡ b → pick b (Verdict.Accepted cost) (Verdict.Refused Fault.OffTarget) ≡ Verdict.Refused Fault.OffTarget → StepsAway room places []
    go true h e = never (cc)
    go false h e = record { sound = refl; well-sourced = refl; missed = h }
steps-off room cost places number (step ∷ steps) e =
    go (step_check room places step) refl e (steps-off room cost (after places step) (suc number) steps)
  where
    rest : Verdict
    rest = steps_verdict room (Verdict.Accepted cost) (after places step) (suc number) steps

    go : (c : Result (Unit {0}) StepFault) → step_check room places step ≡ c → on_check (λ fault. Fault.Step fault number) c rest ≡ Verdict.Refused Fault.OffTarget →
        (rest ≡ Verdict.Refused Fault.OffTarget → StepsAway room (after places step) steps) → StepsAway room places (step ∷ steps)
    go (Ok done) h e more =
        let a = more e in
        let c = (none-check room places step).0 h in
        record { sound = and_both c.0 a.sound; well-sourced = and_both c.1 a.well-sourced; missed = a.missed }
    go (Err fault) h e more = never (cc)

-- a refusal for a step: the steps before it are sound and name no wrong source, and it has that fault first
pub record StepRefused (room : Room) (places : Placement) (steps : List Step) (fault : StepFault) (n : ℕ) : Type 0 where
  pub there : n < length steps
  pub earlier : sound_all room places (take n steps) ≡ true
  pub earlier-sourced : sourced_all places (take n steps) ≡ true
  pub check : step_check room (after_all places (take n steps)) (get_or steps n []) ≡ Err fault

pub steps-refused : (room : Room) (cost : ℕ) (fault : StepFault) (places : Placement) (number m : ℕ) (steps : List Step) →
    steps_verdict room (Verdict.Accepted cost) places number steps ≡ Verdict.Refused (Fault.Step fault m) →
    (n : ℕ) × (number + n ≡ m) × StepRefused room places steps fault n
unfolding steps_verdict sound_all sourced_all after_all on_check
steps-refused room cost fault places number m [] e = go (home room places) e
  where
    go : (b : Bool) → pick b (Verdict.Accepted cost) (Verdict.Refused Fault.OffTarget) ≡ Verdict.Refused (Fault.Step fault m) →
        (n : ℕ) × (number + n ≡ m) × StepRefused room places [] fault n
    go true e = never (cc)
    go false e = never (cc)
steps-refused room cost fault places number m (step ∷ steps) e =
    go (step_check room places step) refl e (steps-refused room cost fault (after places step) (suc number) m steps)
  where
    rest : Verdict
    rest = steps_verdict room (Verdict.Accepted cost) (after places step) (suc number) steps

    go : (c : Result (Unit {0}) StepFault) → step_check room places step ≡ c → on_check (λ fault. Fault.Step fault number) c rest ≡ Verdict.Refused (Fault.Step fault m) →
        (rest ≡ Verdict.Refused (Fault.Step fault m) → (n : ℕ) × (suc number + n ≡ m) × StepRefused room (after places step) steps fault n) →
        (n : ℕ) × (number + n ≡ m) × StepRefused room places (step ∷ steps) fault n
    go (Ok done) h e more =
        let a = more e in
        let b = a.2.there in
        let k = a.1 in
        let c = (none-check room places step).0 h in (
          suc a.0,
          omega arith,
          record { there = omega arith; earlier = and_both c.0 a.2.earlier; earlier-sourced = and_both c.1 a.2.earlier-sourced; check = a.2.check },
        )
    go (Err found) h e more =
        let same : number ≡ m = cc in
        let that : found ≡ fault = cc in
        (0, omega arith, record { there = omega arith; earlier = refl; earlier-sourced = refl; check = h ∙ ap Err that })

pub refused-steps : (room : Room) (good : Verdict) (fault : StepFault) (places : Placement) (number n : ℕ) (steps : List Step) →
    StepRefused room places steps fault n → steps_verdict room good places number steps ≡ Verdict.Refused (Fault.Step fault (number + n))
unfolding steps_verdict sound_all sourced_all after_all on_check
refused-steps room good fault places number n [] r = let h = r.there in absurd (omega arith)
refused-steps room good fault places number zero (step ∷ steps) r = let k : number + zero ≡ number = omega arith in rw (k, r.check)
refused-steps room good fault places number (suc n) (step ∷ steps) r =
    let k : number + suc n ≡ suc number + n = omega arith in
    let h = r.there in
    rw (clear-check room places step (take n steps) r.earlier r.earlier-sourced, k)
    (refused-steps room good fault (after places step) (suc number) n steps (record {
      there = omega arith;
      earlier = and_right (sound_step room places step) (sound_all room (after places step) (take n steps)) r.earlier;
      earlier-sourced = and_right (sourced places step) _ r.earlier-sourced;
      check = r.check;
    }))

-- ---- 15 to 18, 27 and 33 of a step, by what they mean

module _ (room : Room) (places : Placement) (step : Step) where
  pub names-fault : (step_check room places step ≡ Err StepFault.Misnamed) ↔ FaultNames room places step
  names-fault = (λ e. record { misnamed = (misnamed-check room places step).0 e }, λ f. (misnamed-check room places step).1 f.misnamed)

  pub source-fault : (step_check room places step ≡ Err StepFault.Elsewhere) ↔ FaultSource room places step
  source-fault = (
    λ e. let t = (elsewhere-check room places step).0 e in record { well-named = t.well-named; elsewhere = wrong-found places step t.elsewhere },
    λ f. (elsewhere-check room places step).1 (record { well-named = f.well-named; elsewhere = wrong-refused places step f.elsewhere }),
  )

  pub destination-fault : (step_check room places step ≡ Err StepFault.Forbidden) ↔ FaultDestination room places step
  destination-fault = (
    λ e. let t = (forbidden-check room places step).0 e in record { well-named = t.well-named; well-sourced = t.well-sourced; forbidden = t.forbidden },
    λ f. (forbidden-check room places step).1 (record { well-named = f.well-named; well-sourced = f.well-sourced; forbidden = f.forbidden }),
  )

  pub fit-fault : (step_check room places step ≡ Err StepFault.Misfit) ↔ FaultFit room places step
  fit-fault = (
    λ e. let t = (misfit-check room places step).0 e in
        record {
          well-named = t.well-named;
          well-sourced = t.well-sourced;
          permitted = t.permitted;
          misfit = (misfit-exact room places step t.well-named).0 t.misfit;
        },
    λ f. (misfit-check room places step).1 (record {
      well-named = f.well-named;
      well-sourced = f.well-sourced;
      permitted = f.permitted;
      misfit = (misfit-exact room places step f.well-named).1 f.misfit;
    }),
  )

  pub mate-fault : (step_check room places step ≡ Err StepFault.Mate) ↔ FaultMate room places step
  mate-fault = (
    λ e. let t = (mate-check room places step).0 e in
        record {
          well-named = t.well-named;
          well-sourced = t.well-sourced;
          permitted = t.permitted;
          fit = λ x. false≢true (sym ((misfit-exact room places step t.well-named).1 x) ∙ t.fit);
          mate = (mate-exact room places step t.well-named).0 t.mate;
        },
    λ f. (mate-check room places step).1 (record {
      well-named = f.well-named;
      well-sourced = f.well-sourced;
      permitted = f.permitted;
      fit = fitted f (fitting room places step) refl;
      mate = (mate-exact room places step f.well-named).1 f.mate;
    }),
  )
    where
      fitted : (f : FaultMate room places step) (b : Bool) → fitting room places step ≡ b → b ≡ true
      fitted f true t = refl
      fitted f false t = absurd (f.fit ((misfit-exact room places step f.well-named).0 t))

  pub turn-fault : (step_check room places step ≡ Err StepFault.Early) ↔ FaultTurn room places step
  turn-fault = (
    λ e. let t = (early-check room places step).0 e in
        record {
          well-named = t.well-named;
          well-sourced = t.well-sourced;
          permitted = t.permitted;
          fit = λ x. false≢true (sym ((misfit-exact room places step t.well-named).1 x) ∙ t.fit);
          apart = λ x. false≢true (sym ((mate-exact room places step t.well-named).1 x) ∙ t.apart);
          early = t.early;
        },
    λ f. (early-check room places step).1 (record {
      well-named = f.well-named;
      well-sourced = f.well-sourced;
      permitted = f.permitted;
      fit = never-false (fitting room places step) (λ t. f.fit ((misfit-exact room places step f.well-named).0 t));
      apart = never-false (unmet room places step) (λ t. f.apart ((mate-exact room places step f.well-named).0 t));
      early = f.early;
    }),
  )
    where
      never-false : (b : Bool) → (b ≡ false → ⊥) → b ≡ true
      never-false true h = refl
      never-false false h = absurd (h refl)

-- the first step at fault, as the checker finds it and as every run has it
pub first-fault : (room : Room) (places : Placement) (steps : List Step) (n : ℕ) (fault : StepFault) (P : Placement → Step → Type 0) →
    length places ≡ length room.vms → ((start : Placement) (step : Step) → (step_check room start step ≡ Err fault) ↔ P start step) →
    StepRefused room places steps fault n ↔ FirstAtFault room places steps n P
first-fault room places steps n fault P l iff = (found, refused)
  where
    found : StepRefused room places steps fault n → FirstAtFault room places steps n P
    found r = record {
      there = r.there;
      earlier = r.earlier;
      earlier-sourced = r.earlier-sourced;
      fault = λ start run.
          rw (run_ends (sound-all-named room places (take n steps) r.earlier) l run)
          ((iff (after_all places (take n steps)) (get_or steps n [])).0 r.check);
    }

    refused : FirstAtFault room places steps n P → StepRefused room places steps fault n
    refused f =
        let r = some-run room places (take n steps) in
        let e : r.0 ≡ after_all places (take n steps) = run_ends (sound-all-named room places (take n steps) f.earlier) l r.1 in
        record {
          there = f.there;
          earlier = f.earlier;
          earlier-sourced = f.earlier-sourced;
          check = (iff (after_all places (take n steps)) (get_or steps n [])).1 (rw e at (f.fault r.0 r.1));
        }

-- ---- 19, by what it means

-- somebody is off his target where not all are at home; at home nobody is
off-among : (room : Room) (places : Placement) (k n : ℕ) → all (λ v. eqb (place_of places v) (place_of (target_of room) v)) (from k n) ≡ false →
    (v : ℕ) × (v < k + n) × (place_of places v ≡ place_of (target_of room) v → ⊥)
unfolding all from
off-among room places k zero e = absurd (false≢true (sym e))
off-among room places k (suc n) e = go (eqb (place_of places k) (place_of (target_of room) k)) refl e (off-among room places (suc k) n)
  where
    go : (b : Bool) → eqb (place_of places k) (place_of (target_of room) k) ≡ b →
        (b && all (λ v. eqb (place_of places v) (place_of (target_of room) v)) (from (suc k) n)) ≡ false →
        (all (λ v. eqb (place_of places v) (place_of (target_of room) v)) (from (suc k) n) ≡ false →
        (v : ℕ) × (v < suc k + n) × (place_of places v ≡ place_of (target_of room) v → ⊥)) →
        (v : ℕ) × (v < k + suc n) × (place_of places v ≡ place_of (target_of room) v → ⊥)
    go true q f more = let r = more f in (r.0, let h = r.1 in omega arith, r.2)
    go false q f more = (k, omega arith, eqb-false (place_of places k) (place_of (target_of room) k) q)

home-among : (room : Room) (places : Placement) (k n v : ℕ) → all (λ u. eqb (place_of places u) (place_of (target_of room) u)) (from k n) ≡ true → k ≤ v → v < k + n →
    place_of places v ≡ place_of (target_of room) v
unfolding all from
home-among room places k zero v e h l = absurd (omega arith)
home-among room places k (suc n) v e h l =
    by_cases (ℕ_discrete k v)
    (λ q. rw q at (eqb-true (place_of places k) (place_of (target_of room) k) (and_left (eqb (place_of places k) (place_of (target_of room) k)) _ e)))
    (λ q. home-among room places (suc k) n v (and_right (eqb (place_of places k) (place_of (target_of room) k)) _ e) (omega arith) (omega arith))

module _ (room : Room) (places : Placement) where
  pub off-some : home room places ≡ false → (v : ℕ) × (v < length room.vms) × (place_of places v ≡ place_of (target_of room) v → ⊥)
  unfolding home
  off-some e = let w = off-among room places 0 (length room.vms) e in (w.0, let l = w.1 in omega arith, w.2)

  pub off-home : (v : ℕ) → v < length room.vms → (place_of places v ≡ place_of (target_of room) v → ⊥) → home room places ≡ false
  unfolding home
  off-home v h n = go (all (λ u. eqb (place_of places u) (place_of (target_of room) u)) (from 0 (length room.vms))) refl
    where
      go : (b : Bool) → all (λ u. eqb (place_of places u) (place_of (target_of room) u)) (from 0 (length room.vms)) ≡ b → b ≡ false
      go true q = absurd (n (home-among room places 0 (length room.vms) v q (omega arith) (omega arith)))
      go false q = refl

pub ends-away : (room : Room) (places : Placement) (steps : List Step) → length places ≡ length room.vms → StepsAway room places steps ↔ EndsAway room places steps
ends-away room places steps l = (runs, found)
  where
    runs : StepsAway room places steps → EndsAway room places steps
    runs a = record {
      sound = a.sound;
      well-sourced = a.well-sourced;
      obeys = λ last run. run-obeys a.sound l run;
      in-turn = λ last run. run-turn a.sound l run;
      away = λ last run. off-some room last (ap (home room) (run_ends (sound-all-named room places steps a.sound) l run) ∙ a.missed);
    }

    found : EndsAway room places steps → StepsAway room places steps
    found a =
        let r = some-run room places steps in
        let w = a.away r.0 r.1 in
        record {
          sound = a.sound;
          well-sourced = a.well-sourced;
          missed = ap (home room) (sym (run_ends (sound-all-named room places steps a.sound) l r.1)) ∙ off-home room r.0 w.0 w.1 w.2;
        }

-- ---- the verdict on two records

-- with none of the faults 23 and 1 to 14 it is the verdict on the steps
pub shaped-verdict : (reserve : ℕ) (cluster plan : List ℕ) → Shaped reserve cluster plan → verdict_of reserve cluster plan ≡ plan_verdict (room_at reserve cluster) (steps_of plan)
unfolding verdict_of on_reserve on_check
shaped-verdict reserve cluster plan h = simp (le-ltb most_reserve reserve h.taken.reserve-taken, h.taken.cluster-whole, h.taken.target-good, h.plan-whole)

-- a verdict that is reached before the cluster is looked at
abbrev early : Verdict → Bool
early (Verdict.Accepted cost) = false
early (Verdict.Refused Fault.Reserve) = true
early (Verdict.Refused (Fault.Cluster fault)) = false
early (Verdict.Refused (Fault.Target fault)) = false
early (Verdict.Refused (Fault.Plan fault)) = false
early (Verdict.Refused (Fault.Step fault step)) = false
early (Verdict.Refused Fault.OffTarget) = false

-- a verdict that no check of a record or of the target gives
abbrev past_checks : Verdict → Bool
past_checks (Verdict.Accepted cost) = true
past_checks (Verdict.Refused Fault.Reserve) = true
past_checks (Verdict.Refused (Fault.Cluster fault)) = false
past_checks (Verdict.Refused (Fault.Target fault)) = false
past_checks (Verdict.Refused (Fault.Plan fault)) = false
past_checks (Verdict.Refused (Fault.Step fault step)) = true
past_checks (Verdict.Refused Fault.OffTarget) = true

on-reserve : (rest v : Verdict) → early v ≡ false → (reserve : ℕ) → on_reserve reserve rest ≡ v → (reserve ≤ most_reserve) × (rest ≡ v)
unfolding on_reserve
on-reserve rest v n reserve e = go (ltb most_reserve reserve) refl e
  where
    go : (above : Bool) → ltb most_reserve reserve ≡ above → pick above (Verdict.Refused Fault.Reserve) rest ≡ v → (reserve ≤ most_reserve) × (rest ≡ v)
    go true a f = absurd (false≢true (sym n ∙ ap early (sym f)))
    go false a f = (ltb-false most_reserve reserve a, f)

module _ (rest v : Verdict) (l : past_checks v ≡ true) where
  on-check : {E : Type 0} (kind : E → Fault) → ((fault : E) → past_checks (Verdict.Refused (kind fault)) ≡ false) → (c : Result (Unit {0}) E) → on_check kind c rest ≡ v → (c ≡ Ok tt) × (rest ≡ v)
  unfolding on_check
  on-check kind k (Ok done) e = (refl, e)
  on-check kind k (Err fault) e = absurd (false≢true (sym (k fault) ∙ ap past_checks e ∙ l))

-- what is behind the test of the reserve
behind-checks : (reserve : ℕ) (cluster plan : List ℕ) (v : Verdict) → past_checks v ≡ true →
    on_check Fault.Cluster (cluster_check cluster) (on_check Fault.Target (target_check (room_at reserve cluster)) (on_check Fault.Plan (plan_check plan) (plan_verdict (room_at reserve cluster) (steps_of plan)))) ≡ v →
    (cluster_check cluster ≡ Ok tt) × (target_check (room_at reserve cluster) ≡ Ok tt) × (plan_check plan ≡ Ok tt) ×
    (plan_verdict (room_at reserve cluster) (steps_of plan) ≡ v)
behind-checks reserve cluster plan v l e =
    let c = on-check _ v l Fault.Cluster (λ f. refl) (cluster_check cluster) e in
    let t = on-check _ v l Fault.Target (λ f. refl) (target_check (room_at reserve cluster)) c.1 in
    let p = on-check _ v l Fault.Plan (λ f. refl) (plan_check plan) t.1 in
    (c.0, t.0, p.0, p.1)

late-shaped : (reserve : ℕ) (cluster plan : List ℕ) (v : Verdict) → early v ≡ false → past_checks v ≡ true → verdict_of reserve cluster plan ≡ v →
    Shaped reserve cluster plan × (plan_verdict (room_at reserve cluster) (steps_of plan) ≡ v)
unfolding verdict_of
late-shaped reserve cluster plan v n l e =
    let r = on-reserve _ v n reserve e in
    let b = behind-checks reserve cluster plan v l r.1 in
    (record { taken = record { reserve-taken = r.0; cluster-whole = b.0; target-good = b.1 }; plan-whole = b.2 }, b.3)

-- the steps say nothing of the reserve
step-later : (number : ℕ) (rest : Verdict) → early rest ≡ false → (c : Result (Unit {0}) StepFault) → early (on_check (λ fault. Fault.Step fault number) c rest) ≡ false
unfolding on_check
step-later number rest l (Ok done) = l
step-later number rest l (Err fault) = refl

module _ (room : Room) (good : Verdict) (g : early good ≡ false) where
  steps-later : (places : Placement) (number : ℕ) (steps : List Step) → early (steps_verdict room good places number steps) ≡ false
  unfolding steps_verdict
  steps-later places number [] = go (home room places)
    where
      go : (b : Bool) → early (pick b good (Verdict.Refused Fault.OffTarget)) ≡ false
      go true = g
      go false = refl
  steps-later places number (step ∷ steps) = step-later number _ (steps-later (after places step) (suc number) steps) (step_check room places step)

pub current-length : (room : Room) → length (current_of room) ≡ length room.vms
unfolding current_of
current-length room = length-map room.vms (λ vm. vm.current)

module _ (reserve : ℕ) (cluster plan : List ℕ) where
  pub accepted-steps : (cost : ℕ) → verdict_of reserve cluster plan ≡ Verdict.Accepted cost →
      StepsAccepted (room_at reserve cluster) (current_of (room_at reserve cluster)) (steps_of plan) (cost_of (room_at reserve cluster) (steps_of plan)) cost
  unfolding plan_verdict
  accepted-steps cost e =
      steps-accepted (room_at reserve cluster) (cost_of (room_at reserve cluster) (steps_of plan)) cost (current_of (room_at reserve cluster)) 1 (steps_of plan)
      (late-shaped reserve cluster plan (Verdict.Accepted cost) refl refl e).1

  pub only-holds : (cost : ℕ) → verdict_of reserve cluster plan ≡ Verdict.Accepted cost →
      Shaped reserve cluster plan × (named_all (room_at reserve cluster) (current_of (room_at reserve cluster)) (steps_of plan) ≡ true) ×
      (sourced_all (current_of (room_at reserve cluster)) (steps_of plan) ≡ true)
  only-holds cost e = (
    (late-shaped reserve cluster plan (Verdict.Accepted cost) refl refl e).0,
    sound-all-named (room_at reserve cluster) (current_of (room_at reserve cluster)) (steps_of plan) (accepted-steps cost e).sound,
    (accepted-steps cost e).well-sourced,
  )

  pub exact-holds : Shaped reserve cluster plan → named_all (room_at reserve cluster) (current_of (room_at reserve cluster)) (steps_of plan) ≡ true →
      sourced_all (current_of (room_at reserve cluster)) (steps_of plan) ≡ true →
      ((cost : ℕ) × (verdict_of reserve cluster plan ≡ Verdict.Accepted cost)) ↔ EveryRun (room_at reserve cluster) (current_of (room_at reserve cluster)) (steps_of plan)
  unfolding plan_verdict
  exact-holds h n x = (every, accepted)
    where
      room : Room
      room = room_at reserve cluster

      places : Placement
      places = current_of (room_at reserve cluster)

      steps : List Step
      steps = steps_of plan

      every : ((cost : ℕ) × (verdict_of reserve cluster plan ≡ Verdict.Accepted cost)) → EveryRun room places steps
      every a =
          let s = accepted-steps a.0 a.1 in
          record {
            obeys = λ last run. run-obeys s.sound (current-length room) run;
            in-turn = λ last run. run-turn s.sound (current-length room) run;
            ends = λ last run. ap (home room) (run_ends n (current-length room) run) ∙ s.arrived;
          }

      accepted : EveryRun room places steps → (cost : ℕ) × (verdict_of reserve cluster plan ≡ Verdict.Accepted cost)
      accepted a =
          let r = some-run room places steps in (
            cost_of room steps,
            shaped-verdict reserve cluster plan h ∙
                steps-good room (Verdict.Accepted (cost_of room steps)) places 1 steps (runs-sound room places steps n (current-length room) a.obeys a.in-turn) x
                (sym (ap (home room) (run_ends n (current-length room) r.1)) ∙ a.ends r.0 r.1),
          )

  -- a refusal for a step
  pub step-refusal : (fault : StepFault) (n : ℕ) → (verdict_of reserve cluster plan ≡ Verdict.Refused (Fault.Step fault (suc n))) ↔
      (Shaped reserve cluster plan × StepRefused (room_at reserve cluster) (current_of (room_at reserve cluster)) (steps_of plan) fault n)
  unfolding plan_verdict
  step-refusal fault n = (refuses, refused)
    where
      room : Room
      room = room_at reserve cluster

      refuses : verdict_of reserve cluster plan ≡ Verdict.Refused (Fault.Step fault (suc n)) → Shaped reserve cluster plan × StepRefused room (current_of room) (steps_of plan) fault n
      refuses e =
          let h = late-shaped reserve cluster plan (Verdict.Refused (Fault.Step fault (suc n))) refl refl e in
          let r = steps-refused room (cost_of room (steps_of plan)) fault (current_of room) 1 (suc n) (steps_of plan) h.1 in
          let k = r.1 in
          let i : r.0 ≡ n = omega arith in
          (h.0, rw i at r.2)

      refused : Shaped reserve cluster plan × StepRefused room (current_of room) (steps_of plan) fault n → verdict_of reserve cluster plan ≡ Verdict.Refused (Fault.Step fault (suc n))
      refused r =
          let k : 1 + n ≡ suc n = omega arith in
          shaped-verdict reserve cluster plan r.0 ∙
          rw k at (refused-steps room (Verdict.Accepted (cost_of room (steps_of plan))) fault (current_of room) 1 n (steps_of plan) r.1)

  -- none for a source, where no step names a wrong one
  pub none_elsewhere : sourced_all (current_of (room_at reserve cluster)) (steps_of plan) ≡ true → (m : ℕ) → verdict_of reserve cluster plan ≡ Verdict.Refused (Fault.Step StepFault.Elsewhere m) → ⊥
  unfolding plan_verdict
  none_elsewhere x m e =
      let h = late-shaped reserve cluster plan (Verdict.Refused (Fault.Step StepFault.Elsewhere m)) refl refl e in
      let room = room_at reserve cluster in
      let r = steps-refused room (cost_of room (steps_of plan)) StepFault.Elsewhere (current_of room) 1 m (steps_of plan) h.1 in
      let t = (elsewhere-check room (after_all (current_of room) (take r.0 (steps_of plan))) (get_or (steps_of plan) r.0 [])).0 r.2.check in
      false≢true (sym t.elsewhere ∙ sourced-at (current_of room) (steps_of plan) r.0 x r.2.there)

  -- a refusal for the reserve
  pub reserve-refusal : (verdict_of reserve cluster plan ≡ Verdict.Refused Fault.Reserve) ↔ (most_reserve < reserve)
  unfolding verdict_of on_reserve plan_verdict
  reserve-refusal = (λ e. above (ltb most_reserve reserve) refl e, λ h. rw (lt-ltb most_reserve reserve h))
    where
      room : Room
      room = room_at reserve cluster

      above : (x : Bool) → ltb most_reserve reserve ≡ x →
          pick x (Verdict.Refused Fault.Reserve) (on_check Fault.Cluster (cluster_check cluster) (on_check Fault.Target (target_check room) (on_check Fault.Plan (plan_check plan) (plan_verdict room (steps_of plan))))) ≡
          Verdict.Refused Fault.Reserve → most_reserve < reserve
      above true q e = ltb-true most_reserve reserve q
      above false q e =
          let b = behind-checks reserve cluster plan (Verdict.Refused Fault.Reserve) refl e in
          absurd (false≢true (sym (steps-later room (Verdict.Accepted (cost_of room (steps_of plan))) refl (current_of room) 1 (steps_of plan)) ∙ ap early b.3))

  -- a refusal at the end
  pub end-refusal : (verdict_of reserve cluster plan ≡ Verdict.Refused Fault.OffTarget) ↔ (Shaped reserve cluster plan × StepsAway (room_at reserve cluster) (current_of (room_at reserve cluster)) (steps_of plan))
  unfolding plan_verdict
  end-refusal = (
    λ e. let h = late-shaped reserve cluster plan (Verdict.Refused Fault.OffTarget) refl refl e in
        (h.0, steps-off (room_at reserve cluster) (cost_of (room_at reserve cluster) (steps_of plan)) (current_of (room_at reserve cluster)) 1 (steps_of plan) h.1),
    λ a. shaped-verdict reserve cluster plan a.0 ∙
        steps-away (room_at reserve cluster) (Verdict.Accepted (cost_of (room_at reserve cluster) (steps_of plan))) (current_of (room_at reserve cluster)) 1 (steps_of plan) a.1.sound a.1.well-sourced a.1.missed,
  )

  -- the step of a refusal is one of the plan's
  pub step-most : (f : Fault) → verdict_of reserve cluster plan ≡ Verdict.Refused f → fault_step f ≤ 512
  unfolding plan_verdict steps_of
  step-most Fault.Reserve e = omega arith
  step-most (Fault.Cluster fault) e = omega arith
  step-most (Fault.Target fault) e = omega arith
  step-most (Fault.Plan fault) e = omega arith
  step-most (Fault.Step fault s) e =
      let h = late-shaped reserve cluster plan (Verdict.Refused (Fault.Step fault s)) refl refl e in
      let r = steps-refused (room_at reserve cluster) (cost_of (room_at reserve cluster) (steps_of plan)) fault (current_of (room_at reserve cluster)) 1 s (steps_of plan) h.1 in
      let k = r.1 in
      let l = r.2.there in
      let m = steps-most plan h.0.plan-whole in
      let n = steps-length plan 7 (step_count plan) in
      omega arith
  step-most Fault.OffTarget e = omega arith

-- an accepted plan, for the calls behind the checker: both records are whole
module _ (reserve : ℕ) (cluster plan : List ℕ) (v : Verdict) (e : v ≡ verdict_of reserve cluster plan) (cost : ℕ) (a : v ≡ Verdict.Accepted cost) where
  pub accepted-cluster : cluster_check cluster ≡ Ok tt
  accepted-cluster = (only-holds reserve cluster plan cost (sym e ∙ a)).0.taken.cluster-whole

  pub accepted-plan : plan_check plan ≡ Ok tt
  accepted-plan = (only-holds reserve cluster plan cost (sym e ∙ a)).0.plan-whole

-- ---- a plan of no steps

module _ (reserve : ℕ) (cluster : List ℕ) where
  -- whatever its bytes: behind 23 and the faults of the cluster it is refused with 19, or accepted at no cost
  pub no_steps : (plan : List ℕ) → plan_check plan ≡ Ok tt → steps_of plan ≡ [] →
      verdict_of reserve cluster plan ≡
      on_reserve reserve
      (on_check Fault.Cluster (cluster_check cluster)
      (on_check Fault.Target (target_check (room_at reserve cluster))
      (pick (home (room_at reserve cluster) (current_of (room_at reserve cluster))) (Verdict.Accepted 0) (Verdict.Refused Fault.OffTarget))))
  unfolding verdict_of on_check plan_verdict steps_verdict cost_of cost_from
  no_steps plan w e = rw (w, e) refl

  -- 0 bytes and a header with 0 steps, of either version: the same verdict at every reserve on every cluster, whatever its bytes
  pub empty-as-header : (version : ℕ) → (version ≡ 1) ⊎ (version ≡ 2) → verdict_of reserve cluster [] ≡ verdict_of reserve cluster (header_bytes version 7 0)
  empty-as-header version k =
      no_steps [] (sym (plan-empty [] refl)) (empty-steps [] refl) ∙ sym (no_steps (header_bytes version 7 0) (header-whole version k) (header-steps version))
