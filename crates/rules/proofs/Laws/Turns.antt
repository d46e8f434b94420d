-- Laws on the verdict: the turns over the steps, and the checking order around them.
use Prim.Native.Nat.{ℕ, suc, ◌+◌, ◌≤◌}
use mathlib.Core.Bool.{Bool, true, false}
use mathlib.Core.List.{List, [], ◌∷◌}
use mathlib.Core.Logic.{by_cases}
use mathlib.Core.Path.{◌≡◌, refl, sym, ap, ◌∙◌}
use native.Mathlib.Decide.{ℕ_discrete, dec_lt}
use native.Mathlib.Numerals.{add-one}
use native.Mathlib.Omega.{arith}
use lib.Dec.{ltb}
use lib.ListN.{length, get_or, set}
use lib.Seq.{take-set-lt, get_or-set_same, get_or-set_other, set_out}
use Rattle.std.specs.Prelude.{Result, Ok, Err}
use Rattle.std.specs.Result.{result_and, IsErrAnd}
use Rattle.records.specs.Base.{pick}
use Rattle.records.specs.Bytes.{AreBytes}
use Rattle.records.specs.Room.{Room, most_reserve, room_at, place_ok, cluster_check, read_as, cluster_read, IsSound}
use Rattle.records.specs.Plan.{Step, steps_of, shaped, plan_check, plan_read}
use Rattle.records.specs.declared.faults.ClusterFault.{ClusterFault}
use Rattle.records.specs.declared.faults.ReadFault.{ReadFault}
use Rattle.records.specs.declared.faults.PlanFault.{PlanFault}
use Rattle.rules.specs.Moments.{Placement, current_of, after}
use Rattle.rules.specs.Rules.{named, target_check, step_check}
use Rattle.rules.specs.Cost.{cost_of}
use Rattle.rules.specs.Verdict.{home, on_reserve, on_check, steps_verdict, plan_verdict, verdict_of, read_fault, packed}
use Rattle.rules.specs.Inner.{held, Placed, array_of, Walking, step_of, verdict_from}
use Rattle.rules.specs.declared.faults.TargetFault.{TargetFault}
use Rattle.rules.specs.declared.faults.StepFault.{StepFault}
use Rattle.rules.specs.declared.faults.Fault.{Fault}
use Rattle.rules.specs.declared.faults.Verdict.{Verdict}
use Rattle.rules.proofs.Laws.Costs.{few_steps}
use Rattle.rules.proofs.Laws.Fit.{named-vm, named-to, named-rest}
use Rattle.rules.proofs.Laws.Orders.{never}
use Rattle.rules.proofs.Laws.Sound.{none-check, sound-named}
use Rattle.rules.proofs.Laws.Places.{current-holds}
use Rattle.rules.proofs.Laws.Contract.{contract}
use Rattle.rules.proofs.Laws.Verdicts.{step-most}
use Rattle.rules.specs.Promises.{Checked}

-- ---- a placement in an array, after a step

-- the moves of a well named step touch the first places only, and send to places that there are
pub after-held : (room : Room) (places : List ℕ) (start : Placement) (least : ℕ) (step : Step) → named room start least step ≡ true → held room (after places step) ≡ after (held room places) step
unfolding after held
after-held room places start least [] n = refl
after-held room places start least (move ∷ moves) n =
    after-held room (set places move.vm move.to) start (suc move.vm) moves (named-rest room start least move moves n) ∙
    ap (λ (x : Placement). after x moves) (take-set-lt (length room.vms) places move.vm move.to (named-vm room start least move moves n))

pub set-placed : (room : Room) (places : List ℕ) (v d : ℕ) → Placed room places → place_ok true (length room.nodes) d ≡ true → Placed room (set places v d)
set-placed room places v d p h = record { each = each }
  where
    each : (u : ℕ) → place_ok true (length room.nodes) (get_or (set places v d) u 0) ≡ true
    each u =
        by_cases (ℕ_discrete u v)
        (λ q. by_cases (dec_lt v (length places))
        (λ l. rw (ap (λ (k : ℕ). get_or (set places v d) k 0) q ∙ get_or-set_same places v d 0 l) h)
        (λ l. rw (set_out places v d (omega arith)) (p.each u)))
        (λ q. rw (get_or-set_other places v u d 0 q) (p.each u))

pub after-placed : (room : Room) (places : List ℕ) (start : Placement) (least : ℕ) (step : Step) → named room start least step ≡ true → Placed room places → Placed room (after places step)
unfolding after
after-placed room places start least [] n p = p
after-placed room places start least (move ∷ moves) n p =
    after-placed room (set places move.vm move.to) start (suc move.vm) moves (named-rest room start least move moves n)
    (set-placed room places move.vm move.to p (named-to room start least move moves n))

-- ---- the turns

pub walking_start : (room : Room) (steps : List Step) (places : List ℕ) → places ≡ array_of (current_of room) → IsSound room → shaped steps ≡ true → Walking room steps places steps 1
unfolding plan_verdict
walking_start room steps places e w p =
    let h = current-holds room places e w in
    let m = few_steps steps p in
    record { placed = h.placed; count = omega arith; verdict = rw h.is }

module _ (room : Room) (steps : List Step) (places : List ℕ) (left : List Step) (number : ℕ) (w : Walking room steps places left number) where
  module _ (step : Step) (rest : List Step) (n : left ≡ step ∷ rest) where
    turn : on_check (λ fault. Fault.Step fault number) (step_check room (held room places) step) (steps_verdict room (Verdict.Accepted (cost_of room steps)) (after (held room places) step) (suc number) rest) ≡ plan_verdict room steps
    unfolding steps_verdict
    turn = rw n at w.verdict

    pub turn-faulty : (f : StepFault) → Err f ≡ step_check room (held room places) step → Verdict.Refused (Fault.Step f number) ≡ plan_verdict room steps
    unfolding on_check
    turn-faulty f q = simp (sym q) at turn

    pub turn-sound : Ok tt ≡ step_check room (held room places) step → Walking room steps (after places step) rest (number + 1)
    unfolding on_check
    turn-sound q =
        let name : named room (held room places) 0 step ≡ true = sound-named room (held room places) step ((none-check room (held room places) step).0 (sym q)).0 in
        let c = w.count in
        let l = ap length n in
        record {
          placed = after-placed room places (held room places) 0 step name w.placed;
          count = omega arith;
          verdict = rw (after-held room places (held room places) 0 step name, add-one number) (simp (sym q) at turn);
        }

  -- the end
  module _ (n : left ≡ []) where
    pub end-home : true ≡ home room (held room places) → Verdict.Accepted (cost_of room steps) ≡ plan_verdict room steps
    unfolding steps_verdict
    end-home o = simp (sym o) at (rw n at w.verdict)

    pub end-away : false ≡ home room (held room places) → Verdict.Refused Fault.OffTarget ≡ plan_verdict room steps
    unfolding steps_verdict
    end-away o = simp (sym o) at (rw n at w.verdict)

-- ---- the checking order around them

module _ (reserve : ℕ) (s plan : List ℕ) where
  order : Result Room ReadFault → Verdict
  order (Ok room) = on_check Fault.Target (target_check room) (on_check Fault.Plan (plan_check plan) (plan_verdict room (steps_of plan)))
  order (Err fault) = Verdict.Refused (read_fault fault)

  in-order : verdict_of reserve s plan ≡ order (cluster_read reserve s)
  unfolding verdict_of cluster_read on_reserve on_check order
  in-order = go (ltb most_reserve reserve) (cluster_check s)
    where
      go : (b : Bool) (c : Result (Unit {0}) ClusterFault) →
          pick b (Verdict.Refused Fault.Reserve) (on_check Fault.Cluster c (order (Ok (room_at reserve s)))) ≡ order (pick b (Err ReadFault.Reserve) (read_as (room_at reserve s) c))
      go true c = refl
      go false (Ok done) = refl
      go false (Err fault) = refl

  pub cluster-unread : (fault : ReadFault) → cluster_read reserve s ≡ Err fault → Verdict.Refused (read_fault fault) ≡ verdict_of reserve s plan
  unfolding order
  cluster-unread fault e = sym (in-order ∙ ap order e)

  module _ (room : Room) (r : cluster_read reserve s ≡ Ok room) where
    pub target-fault : (fault : TargetFault) → target_check room ≡ Err fault → Verdict.Refused (Fault.Target fault) ≡ verdict_of reserve s plan
    unfolding on_check order
    target-fault fault e = rw (in-order, r, e)

    module _ (t : target_check room ≡ Ok tt) where
      on-plan : verdict_of reserve s plan ≡ on_check Fault.Plan (plan_check plan) (plan_verdict room (steps_of plan))
      unfolding on_check order
      on-plan = rw (in-order, r, t)

      pub plan-unread : (fault : PlanFault) → plan_read plan ≡ Err fault → Verdict.Refused (Fault.Plan fault) ≡ verdict_of reserve s plan
      unfolding on_check
      plan-unread fault e = rw on-plan (go (plan_check plan) e)
        where
          go : (c : Result (Unit {0}) PlanFault) → result_and c (Ok (steps_of plan)) ≡ Err fault → Verdict.Refused (Fault.Plan fault) ≡ on_check Fault.Plan c (plan_verdict room (steps_of plan))
          go (Ok done) e = never (cc)
          go (Err found) e = ap (λ (f : PlanFault). Verdict.Refused (Fault.Plan f)) cc

      pub plan-verdict : (steps : List Step) → plan_read plan ≡ Ok steps → plan_verdict room steps ≡ verdict_of reserve s plan
      unfolding on_check
      plan-verdict steps e = rw on-plan (go (plan_check plan) e)
        where
          go : (c : Result (Unit {0}) PlanFault) → result_and c (Ok (steps_of plan)) ≡ Ok steps → plan_verdict room steps ≡ on_check Fault.Plan c (plan_verdict room (steps_of plan))
          go (Ok done) e = ap (plan_verdict room) cc
          go (Err found) e = never (cc)

pub cluster-whole : (cluster : List ℕ) (found : Result (Unit {0}) ClusterFault) → found ≡ cluster_check cluster → found ≡ Ok tt → cluster_check cluster ≡ Ok tt
cluster-whole cluster found e q = sym e ∙ q

-- a fault that is handed on is the refusal for it
pub handed-on : (r : Result ℕ Fault) (fault : Fault) (v : Verdict) → IsErrAnd r (λ e. e ≡ fault) → Verdict.Refused fault ≡ v → verdict_from r ≡ v
handed-on (Ok cost) fault v h q = absurd h
handed-on (Err e) fault v h q = ap Verdict.Refused h ∙ q

-- ---- the packing

-- the verdict on two records packs
pub verdict-packs : (reserve : ℕ) (cluster plan : List ℕ) (v : Verdict) → v ≡ verdict_of reserve cluster plan → step_of v ≤ 512
verdict-packs reserve cluster plan (Verdict.Accepted cost) e = omega arith
verdict-packs reserve cluster plan (Verdict.Refused f) e = step-most reserve cluster plan f (sym e)

pub checked-packed : (reserve : ℕ) (cluster plan : List ℕ) (v : Verdict) (r : ℕ) → v ≡ verdict_of reserve cluster plan → r ≡ packed v → AreBytes cluster → Checked reserve cluster plan r
checked-packed reserve cluster plan v r g e b = contract reserve cluster plan b r (e ∙ ap packed g)
