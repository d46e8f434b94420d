-- The contract of `check` as one law: every reserve and two records, and the number that the verdict on them packs to, have what `Checked` promises. Behind
-- it what follows of two calls.
use Prim.Native.Nat.{ℕ, suc, ◌<◌, ◌^◌}
use mathlib.Core.List.{List, []}
use mathlib.Core.Logic.Iff
use mathlib.Core.Logic.{◌↔◌, ◌⊎◌}
use mathlib.Core.Path.{◌≡◌, refl, sym, ap, ◌∙◌}
use Rattle.std.specs.Prelude.{Err, Ok}
use Rattle.records.specs.Bytes.{AreBytes}
use Rattle.records.specs.Room.{room_at, cluster_check, IsSound}
use Rattle.records.specs.Plan.{Step, steps_of, header_bytes}
use Rattle.records.proofs.Laws.Sound.{read-sound, read-amounts}
use Rattle.records.proofs.Laws.Steps.{plan-shaped, all_tell, none-tells}
use Rattle.rules.specs.Moments.{Placement, current_of}
use Rattle.rules.specs.Rules.{step_check}
use Rattle.rules.specs.Cost.{cost_of}
use Rattle.rules.specs.Verdict.{verdict_of, fault_number, fault_step, packed}
use Rattle.rules.specs.Returned.{told_cost, SaysGood, SaysRefused}
use Rattle.rules.specs.Promises.{Shaped, FaultNames, FaultSource, FaultDestination, FaultFit, FaultMate, FaultTurn, FirstAtFault, TellsVerdict, Checked}
use Rattle.rules.specs.declared.faults.StepFault.{StepFault}
use Rattle.rules.specs.declared.faults.Fault.{Fault}
use Rattle.rules.specs.declared.faults.Verdict.{Verdict}
use Rattle.rules.proofs.Laws.Returned.{tells-accepted, tells-refused, says-accepted, accepted-says, says-refused}
use Rattle.rules.proofs.Laws.Runs.{sound-orders, stays_within}
use Rattle.rules.proofs.Laws.Spreads.{stays-apart}
use Rattle.rules.proofs.Laws.Running.{keeps-running, nothing-down}
use Rattle.rules.proofs.Laws.Waiting.{waits-its-turn}
use Rattle.rules.proofs.Laws.Bound.{first-there}
use Rattle.rules.proofs.Laws.Sources.{names-places, unnamed-sourced, sources-unread}
use Rattle.rules.proofs.Laws.Costs.{cost-low}
use Rattle.rules.proofs.Laws.Divided.{accepted-divided}
use Rattle.rules.proofs.Laws.Verdicts.{names-fault, source-fault, destination-fault, fit-fault, mate-fault, turn-fault, first-fault, ends-away, current-length, accepted-steps, only-holds, exact-holds, step-refusal, none_elsewhere, reserve-refusal, end-refusal, step-most, empty-as-header}

beside : {A B C : Type 0} → A ↔ B → (C × A) ↔ (C × B)
beside e = (λ x. (x.0, e.0 x.1), λ x. (x.0, e.1 x.1))

module _ (reserve : ℕ) (cluster plan : List ℕ) (b : AreBytes cluster) where
  -- the cost of an accepted plan
  cost-is : (cost : ℕ) → verdict_of reserve cluster plan ≡ Verdict.Accepted cost → cost ≡ cost_of (room_at reserve cluster) (steps_of plan)
  cost-is cost e = (accepted-steps reserve cluster plan cost e).cost-is

  -- the room that a whole record stands for
  sound : cluster_check cluster ≡ Ok tt → IsSound (room_at reserve cluster)
  sound w = read-sound reserve cluster w

  cost-most : (cost : ℕ) → verdict_of reserve cluster plan ≡ Verdict.Accepted cost → cost < 2 ^ 43
  cost-most cost e =
      let o = (only-holds reserve cluster plan cost e).0 in
      rw (cost-is cost e) (cost-low (room_at reserve cluster) (steps_of plan) (read-amounts reserve cluster b) (plan-shaped plan o.plan-whole))

  -- the number tells the verdict
  tells : TellsVerdict (packed (verdict_of reserve cluster plan)) (verdict_of reserve cluster plan)
  tells = go (verdict_of reserve cluster plan) refl
    where
      go : (v : Verdict) → verdict_of reserve cluster plan ≡ v → TellsVerdict (packed v) v
      go (Verdict.Accepted cost) e = tells-accepted cost (cost-most cost e)
      go (Verdict.Refused f) e = tells-refused f (step-most reserve cluster plan f e)

  module _ (r : ℕ) (q : r ≡ packed (verdict_of reserve cluster plan)) where
    told : TellsVerdict r (verdict_of reserve cluster plan)
    told = rw q tells

    accepted : SaysGood r → verdict_of reserve cluster plan ≡ Verdict.Accepted (told_cost r)
    accepted g = says-accepted r (verdict_of reserve cluster plan) told g

    says : (f : Fault) → SaysRefused r (fault_number f) (fault_step f) ↔ (verdict_of reserve cluster plan ≡ Verdict.Refused f)
    says f = says-refused r (verdict_of reserve cluster plan) f told

    at-step : (fault : StepFault) (n : ℕ) (P : Placement → Step → Type 0) →
        ((start : Placement) (step : Step) → (step_check (room_at reserve cluster) start step ≡ Err fault) ↔ P start step) →
        SaysRefused r (fault_number (Fault.Step fault (suc n))) (suc n) ↔ (Shaped reserve cluster plan × FirstAtFault (room_at reserve cluster) (current_of (room_at reserve cluster)) (steps_of plan) n P)
    at-step fault n P iff =
        Iff.trans (says (Fault.Step fault (suc n)))
        (Iff.trans (step-refusal reserve cluster plan fault n)
        (beside (first-fault (room_at reserve cluster) (current_of (room_at reserve cluster)) (steps_of plan) n fault P (current-length (room_at reserve cluster)) iff)))

    pub contract : Checked reserve cluster plan r
    contract = record {
      is = q;
      told = told;
      reserved = Iff.trans (says Fault.Reserve) (reserve-refusal reserve cluster plan);
      exact = λ s n x.
          let e = exact-holds reserve cluster plan s n x in
          (λ g. e.0 (told_cost r, accepted g), λ x. let a = e.1 x in accepted-says r (verdict_of reserve cluster plan) a.0 told a.1);
      only = λ g. only-holds reserve cluster plan (told_cost r) (accepted g);
      misnamed = λ n. at-step StepFault.Misnamed n (FaultNames (room_at reserve cluster)) (names-fault (room_at reserve cluster));
      elsewhere = λ n. at-step StepFault.Elsewhere n (FaultSource (room_at reserve cluster)) (source-fault (room_at reserve cluster));
      forbidden = λ n. at-step StepFault.Forbidden n (FaultDestination (room_at reserve cluster)) (destination-fault (room_at reserve cluster));
      misfit = λ n. at-step StepFault.Misfit n (FaultFit (room_at reserve cluster)) (fit-fault (room_at reserve cluster));
      mate = λ n. at-step StepFault.Mate n (FaultMate (room_at reserve cluster)) (mate-fault (room_at reserve cluster));
      early = λ n. at-step StepFault.Early n (FaultTurn (room_at reserve cluster)) (turn-fault (room_at reserve cluster));
      off-target =
          Iff.trans (says Fault.OffTarget)
          (Iff.trans (end-refusal reserve cluster plan) (beside (ends-away (room_at reserve cluster) (current_of (room_at reserve cluster)) (steps_of plan) (current-length (room_at reserve cluster)))));
      cost = λ g. cost-is (told_cost r) (accepted g);
      below = λ g. cost-most (told_cost r) (accepted g);
      auditor = λ g.
          stays_within (room_at reserve cluster) (current_of (room_at reserve cluster)) (steps_of plan) (sound (only-holds reserve cluster plan (told_cost r) (accepted g)).0.taken.cluster-whole).nodes-most
          (accepted-steps reserve cluster plan (told_cost r) (accepted g)).sound (current-length (room_at reserve cluster));
      apart = λ g.
          stays-apart (room_at reserve cluster) (current_of (room_at reserve cluster)) (steps_of plan) (accepted-steps reserve cluster plan (told_cost r) (accepted g)).sound (current-length (room_at reserve cluster));
      running = λ g.
          let o = only-holds reserve cluster plan (told_cost r) (accepted g) in
          keeps-running (room_at reserve cluster) (current_of (room_at reserve cluster)) (steps_of plan) (sound o.0.taken.cluster-whole).nodes-most o.1 (current-length (room_at reserve cluster));
      version-1 = nothing-down reserve cluster;
      waits = λ g.
          let o = only-holds reserve cluster plan (told_cost r) (accepted g) in
          waits-its-turn (room_at reserve cluster) (current_of (room_at reserve cluster)) (steps_of plan) (first-there (room_at reserve cluster) (sound o.0.taken.cluster-whole))
          (accepted-steps reserve cluster plan (told_cost r) (accepted g)).sound (current-length (room_at reserve cluster));
      sources = λ g v.
          let a = accepted-steps reserve cluster plan (told_cost r) (accepted g) in
          names-places (room_at reserve cluster) (current_of (room_at reserve cluster)) (steps_of plan) (current-length (room_at reserve cluster)) a.sound a.well-sourced (all_tell plan v);
      unread = sources-unread (room_at reserve cluster);
      unasked = λ v.
          let x = unnamed-sourced (current_of (room_at reserve cluster)) (steps_of plan) (none-tells plan v) in
          (x, λ n s. none_elsewhere reserve cluster plan x n ((says (Fault.Step StepFault.Elsewhere n)).0 s));
      empty = λ e version k. rw e (empty-as-header reserve cluster version k);
      divided = λ g. accepted-divided reserve cluster plan (told_cost r) (accepted g);
      sound = sound-orders (room_at reserve cluster);
    }

-- two calls on one cluster at one reserve, with a plan of 0 bytes and with a header of 0 steps, of either version, return the same number
pub empty-returns : (reserve : ℕ) (cluster : List ℕ) (version r q : ℕ) → (version ≡ 1) ⊎ (version ≡ 2) → Checked reserve cluster [] r → Checked reserve cluster (header_bytes version 7 0) q → r ≡ q
empty-returns reserve cluster version r q k c d = c.is ∙ ap packed (c.empty refl version k) ∙ sym d.is
