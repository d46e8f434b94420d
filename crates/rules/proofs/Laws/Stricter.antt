-- More reserve is stricter: what is accepted with more kept free is accepted, at the same cost, with less (02, Job 5).
use Prim.Native.Nat.{ℕ, ◌≤◌}
use mathlib.Core.Bool.{Bool, true, false, not}
use mathlib.Core.List.{List, [], ◌∷◌}
use mathlib.Core.Logic.{inl, inr, ⊎_elim}
use mathlib.Core.Path.{◌≡◌, refl, sym, ap, ◌∙◌}
use native.Mathlib.Omega.{arith}
use lib.ListN.{length}
use borrow.Author.Tests.{leb-true, le-leb}
use Rattle.std.specs.Prelude.{Result, Ok, Err}
use Rattle.records.specs.Base.{pick, all}
use Rattle.records.specs.Room.{Vm, Room, node_of, vm_of, usable_node, at_reserve, room_of, room_at, cluster_check}
use Rattle.records.specs.Plan.{Step, steps_of}
use Rattle.records.proofs.Laws.Bools.{and_left, and_right, and_both, all_more}
use Rattle.records.proofs.Laws.Cluster.{nodes-most, nodes-count}
use Rattle.records.proofs.Laws.Reserve.{node-usable, usable-less, nodes-kept, record-room}
use Rattle.rules.specs.Moments.{Placement, current_of, target_of, after, within, within_memory, bears_at, tally_at, first_moment, at_rest, all_running}
use Rattle.rules.specs.Rules.{from, keeps, fits_all, target_check, fitting, sound_step}
use Rattle.rules.specs.Cost.{cost_of}
use Rattle.rules.specs.Verdict.{plan_verdict, verdict_of, packed}
use Rattle.rules.specs.Returned.{told_cost, SaysGood}
use Rattle.rules.specs.Promises.{sound_all, Shaped, StaysWithin, Checked}
use Rattle.rules.specs.declared.faults.TargetFault.{TargetFault}
use Rattle.rules.specs.declared.faults.Verdict.{Verdict}
use Rattle.rules.specs.declared.tally.Tally.{Tally}
use Rattle.rules.proofs.Laws.Bears.{bears-by, bears-memory, bears-cpu, at_more}
use Rattle.rules.proofs.Laws.Reserve.{current-same, home_same, moment-same, tally-same, named-same, permitted-same, unmet-same, turn-same, cost-same}
use Rattle.rules.proofs.Laws.Orders.{never}
use Rattle.rules.proofs.Laws.Returned.{says-accepted}
use Rattle.rules.proofs.Laws.Runs.{stays_within}
use Rattle.rules.proofs.Laws.Sound.{sound-named, sound-permitted, sound-fitting, sound-unmet, sound-turn, sound-tests}
use Rattle.rules.proofs.Laws.Verdicts.{shaped-verdict, steps-good, current-length, accepted-steps, only-holds}

-- a target without a fault fits, and keeps the constraints
pub good-target : (fit kept : Bool) →
    pick {A = Result (Unit {0}) TargetFault} (not fit) (Err TargetFault.Overfull) (pick (not kept) (Err TargetFault.Broken) (Ok tt)) ≡ Ok tt →
    (fit ≡ true) × (kept ≡ true)
good-target true true e = (refl, refl)
good-target true false e = never cc
good-target false kept e = never cc

module _ (less more : ℕ) (room : Room) (h : less ≤ more) where
  -- ---- a node has no less

  more-memory : (d : ℕ) → (node_of (at_reserve more room) d).memory ≤ (node_of (at_reserve less room) d).memory
  unfolding usable_node
  more-memory d = rw (node-usable more room d, node-usable less room d) (usable-less less more (node_of room d).memory h)

  more-cpu : (d : ℕ) → (node_of (at_reserve more room) d).cpu ≤ (node_of (at_reserve less room) d).cpu
  unfolding usable_node
  more-cpu d = rw (node-usable more room d, node-usable less room d) (usable-less less more (node_of room d).cpu h)

  bears-still : (d : ℕ) (t : Tally) (vm : Vm) → bears_at (at_reserve more room) d t vm ≡ true → bears_at (at_reserve less room) d t vm ≡ true
  bears-still d t vm =
      at_more (at_reserve more room) (at_reserve less room) d t t vm vm (λ e.
      let m = more-memory d in
      let c = more-cpu d in
      let x = bears-memory (node_of (at_reserve more room) d) t vm e in
      bears-by (node_of (at_reserve less room) d) t vm (omega arith)
      (⊎_elim inl (λ y. inr (omega arith)) (bears-cpu (node_of (at_reserve more room) d) t vm e)))

  within-still : (d : ℕ) (t : Tally) → within (node_of (at_reserve more room) d) t ≡ true → within (node_of (at_reserve less room) d) t ≡ true
  unfolding within
  within-still d t e =
      let m = more-memory d in
      let c = more-cpu d in
      let x = leb-true t.memory (node_of (at_reserve more room) d).memory (and_left (within_memory (node_of (at_reserve more room) d) t) _ e) in
      let y = leb-true t.cpu (node_of (at_reserve more room) d).cpu (and_right (within_memory (node_of (at_reserve more room) d) t) _ e) in
      and_both (le-leb t.memory (node_of (at_reserve less room) d).memory (omega arith)) (le-leb t.cpu (node_of (at_reserve less room) d).cpu (omega arith))

  -- ---- a step that is sound stays sound

  fitting-still : (places : Placement) (step : Step) → fitting (at_reserve more room) places step ≡ true → fitting (at_reserve less room) places step ≡ true
  unfolding fitting first_moment vm_of at_reserve
  fitting-still places step e =
      all_more (λ move. bears_at (at_reserve more room) move.to (tally_at (at_reserve more room) move.to (all_running (first_moment room places step))) (vm_of room move.vm))
      (λ move. bears_at (at_reserve less room) move.to (tally_at (at_reserve less room) move.to (all_running (first_moment room places step))) (vm_of room move.vm))
      (λ move x. rw (tally-same less room move.to (all_running (first_moment room places step))) (bears-still move.to _ (vm_of room move.vm)
      (rw (tally-same more room move.to (all_running (first_moment room places step))) at x))) step e

  sound-still : (places : Placement) (step : Step) → sound_step (at_reserve more room) places step ≡ true → sound_step (at_reserve less room) places step ≡ true
  sound-still places step e =
      sound-tests (at_reserve less room) places step
      (named-same less room places 0 step ∙ sym (named-same more room places 0 step) ∙ sound-named (at_reserve more room) places step e)
      (permitted-same less room step ∙ sym (permitted-same more room step) ∙ sound-permitted (at_reserve more room) places step e)
      (fitting-still places step (sound-fitting (at_reserve more room) places step e))
      (unmet-same less room places step ∙ sym (unmet-same more room places step) ∙ sound-unmet (at_reserve more room) places step e)
      (turn-same less room places step ∙ sym (turn-same more room places step) ∙ sound-turn (at_reserve more room) places step e)

  all-still : (places : Placement) (steps : List Step) → sound_all (at_reserve more room) places steps ≡ true → sound_all (at_reserve less room) places steps ≡ true
  unfolding sound_all
  all-still places [] e = e
  all-still places (step ∷ steps) e =
      and_both (sound-still places step (and_left (sound_step (at_reserve more room) places step) _ e))
      (all-still (after places step) steps (and_right (sound_step (at_reserve more room) places step) _ e))

  -- ---- a target that is good stays good

  fits-still : (places : Placement) → fits_all (at_reserve more room) places ≡ true → fits_all (at_reserve less room) places ≡ true
  unfolding fits_all
  fits-still places e =
      rw (nodes-kept less room, moment-same less room places [])
      (all_more (λ d. within (node_of (at_reserve more room) d) (tally_at (at_reserve more room) d (at_rest room places)))
      (λ d. within (node_of (at_reserve less room) d) (tally_at (at_reserve less room) d (at_rest room places)))
      (λ d x. rw (tally-same less room d (at_rest room places)) (within-still d _ (rw (tally-same more room d (at_rest room places)) at x)))
      (from 0 (length room.nodes)) (rw (nodes-kept more room, moment-same more room places []) at e))

  pub target-still : target_check (at_reserve more room) ≡ Ok tt → target_check (at_reserve less room) ≡ Ok tt
  unfolding target_check target_of at_reserve
  target-still e =
      let t = good-target (fits_all (at_reserve more room) (target_of room)) (all (keeps (target_of room)) room.constraints) e in
      rw (fits-still (target_of room) t.0, t.1)

-- ---- what starts within capacities stays within them

-- of steps that are sound at a reserve, those of an accepted plan and those that are built, blocked or not: a node within its capacity, if it is
-- over what is usable of it too, does not leave it
pub within-capacity : (reserve : ℕ) (cluster : List ℕ) (steps : List Step) → cluster_check cluster ≡ Ok tt →
    sound_all (room_at reserve cluster) (current_of (room_at reserve cluster)) steps ≡ true → StaysWithin (room_of cluster) (current_of (room_of cluster)) steps
within-capacity reserve cluster steps w e =
    let room = room_of cluster in
    let s : sound_all room (current_of room) steps ≡ true =
    rw (record-room cluster) at (all-still 0 reserve room (omega arith) (current_of room) steps (rw (current-same reserve room) at e)) in
    stays_within room (current_of room) steps (rw (nodes-count cluster) (nodes-most cluster w)) s (current-length room)

-- ---- the verdict

module _ (less more : ℕ) (cluster plan : List ℕ) (h : less ≤ more) where
  -- a plan that is accepted at a reserve is accepted, at the same cost, at every smaller one
  pub less-reserve : (cost : ℕ) → verdict_of more cluster plan ≡ Verdict.Accepted cost → verdict_of less cluster plan ≡ Verdict.Accepted cost
  unfolding plan_verdict
  less-reserve cost e =
      let room = room_of cluster in
      let o = (only-holds more cluster plan cost e).0 in
      let a = accepted-steps more cluster plan cost e in
      let q = o.taken.reserve-taken in
      let s : Shaped less cluster plan = record {
        taken = record { reserve-taken = omega arith; cluster-whole = o.taken.cluster-whole; target-good = target-still less more room h o.taken.target-good };
        plan-whole = o.plan-whole;
      } in
      shaped-verdict less cluster plan s ∙
      steps-good (at_reserve less room) (Verdict.Accepted (cost_of (at_reserve less room) (steps_of plan))) (current_of (at_reserve less room)) 1 (steps_of plan)
      (rw (current-same less room) (all-still less more room h (current_of room) (steps_of plan) (rw (current-same more room) at a.sound)))
      (rw (current-same less room) (rw (current-same more room) at a.well-sourced))
      (rw (current-same less room, home_same less room) (rw (current-same more room, home_same more room) at a.arrived)) ∙
      ap Verdict.Accepted (cost-same less room (steps_of plan) ∙ sym (cost-same more room (steps_of plan)) ∙ sym a.cost-is)

  -- so of two calls that differ in the reserve alone, the one with less returns the number of the one with more, if that says accepted
  pub less-returns : (r q : ℕ) → Checked more cluster plan r → Checked less cluster plan q → SaysGood r → r ≡ q
  less-returns r q c d g =
      let e = says-accepted r (verdict_of more cluster plan) c.told g in
      c.is ∙ ap packed (e ∙ sym (less-reserve (told_cost r) e)) ∙ sym d.is
