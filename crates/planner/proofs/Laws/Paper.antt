-- The cases on paper marked P (01, "Placements on paper"), in one lemma, computed from the definitions.
use Prim.Native.Nat.{ℕ}
use mathlib.Core.Bool.{true, false}
use mathlib.Core.List.{List, [], ◌∷◌}
use mathlib.Core.Logic.{inl}
use mathlib.Core.Path.{◌≡◌, refl, ap}
use native.Mathlib.Omega.{arith}
use Rattle.records.specs.Base.{all, sum_of}
use Rattle.records.specs.Bytes.{byte_at, be16, be24, be32, bytes16, bytes32, known_version}
use Rattle.records.specs.Room.{on_node, node_of, vm_of, usable, usable_node, at_reserve, vms_of, rows, node_row, vm_row, part_at, parts_from, parts_end, parts_of, vms_at, nodes_at, groups_from, groups_end, constraint_of, lists_end, room_of, room_at, knows_nowhere, counts_ok, place_ok, vm_ok, above, rises, list_ok, has, disjoint, apart, constraint_ok, filled, well_formed, cluster_check}
use Rattle.records.specs.Plan.{with_sources, names_sources, move_width, source_at, move_at, step_at, steps_from, steps_end, steps_of, move_total, sized, shaped, plan_check, source_bytes, move_bytes, moves_bytes, step_bytes, steps_bytes, header_bytes, record_bytes, plan_bytes}
use Rattle.rules.specs.Moments.{current_of, target_of, after, within, bears, bears_at, ended, cell, counts_on, tally_at, phase_of, cells_from, first_moment, begun, all_running}
use Rattle.rules.specs.Orders.{Order, done, next, begins, ends, later, SomeBegin, fits, spreads, some, mates, meets_mate}
use Rattle.rules.specs.Rules.{keeps_from, allowed, from, fits_all, spread_out, on_nodes, keeps, target_check, aims, named, is_place, sourced, permitted, fitting, unmet, has_move, respects, in_turn, step_check, sound_step}
use Rattle.rules.specs.Cost.{memory_of, step_cost, cost_from, cost_of}
use Rattle.rules.specs.Verdict.{home, on_reserve, on_check, steps_verdict, plan_verdict, verdict_of, packed}
use Rattle.rules.specs.Returned.{told_outcome, told_number, told_step, told_steps, told_moves, told_cost, SaysGood, SaysBlocked, SaysRefused}
use Rattle.rules.specs.Promises.{after_all, EveryRun}
use Rattle.rules.specs.declared.faults.Verdict.{Verdict}
use Rattle.rules.proofs.Laws.Verdicts.{exact-holds, only-holds}
use Rattle.planner.specs.Picks.{moving, away, away_count, can_go, joined, joined_all, direct_step, other_goes, useful, or_else, pivot_among, pivot_first, pivot_step, from_places, next_step, onward, picked_within, picked}
use Rattle.planner.specs.Answer.{steps_for, made_of, outcome, answer_reserve, answer_check, answer_of, buffer_of, packed_answer, least_buffer}
use Rattle.planner.specs.Promises.{Stuck}
use Rattle.planner.proofs.Laws.Promised.{rest-stuck}

-- ---- the records

-- cluster A with the memories of its nodes, and constraints behind it
unfoldable pub cluster_a : ℕ → ℕ → ℕ → ℕ → ℕ → List ℕ → List ℕ
cluster_a size c m0 m1 m2 constraints =
    1 ∷ 0 ∷ 0 ∷ 0 ∷ size ∷ 0 ∷ 3 ∷ 0 ∷ 2 ∷ 0 ∷ c ∷ 0 ∷ 0 ∷ m0 ∷ 0 ∷ 100 ∷ 0 ∷ 0 ∷ m1 ∷ 0 ∷ 100 ∷ 0 ∷ 0 ∷ m2 ∷ 0 ∷ 100 ∷
    0 ∷ 0 ∷ 3 ∷ 0 ∷ 50 ∷ 0 ∷ 1 ∷ 0 ∷ 0 ∷ 2 ∷ 0 ∷ 50 ∷ 1 ∷ 0 ∷ constraints

-- plans of version 2; those that the planner writes are compared with these
unfoldable pub plan_a : List ℕ
plan_a = 2 ∷ 0 ∷ 0 ∷ 0 ∷ 22 ∷ 0 ∷ 3 ∷ 0 ∷ 1 ∷ 0 ∷ 0 ∷ 2 ∷ 0 ∷ 1 ∷ 1 ∷ 1 ∷ 0 ∷ 0 ∷ 1 ∷ 0 ∷ 2 ∷ 1 ∷ []

unfoldable pub plan_empty : List ℕ
plan_empty = 2 ∷ 0 ∷ 0 ∷ 0 ∷ 7 ∷ 0 ∷ 0 ∷ []

unfoldable pub plan_both : List ℕ
plan_both = 2 ∷ 0 ∷ 0 ∷ 0 ∷ 15 ∷ 0 ∷ 1 ∷ 0 ∷ 2 ∷ 0 ∷ 0 ∷ 1 ∷ 1 ∷ 1 ∷ 0 ∷ []

unfoldable pub plan_via : List ℕ
plan_via = 2 ∷ 0 ∷ 0 ∷ 0 ∷ 22 ∷ 0 ∷ 3 ∷ 0 ∷ 1 ∷ 1 ∷ 1 ∷ 2 ∷ 0 ∷ 1 ∷ 0 ∷ 0 ∷ 1 ∷ 0 ∷ 1 ∷ 1 ∷ 2 ∷ 0 ∷ []

-- A's plan, but that the last move names the node that its VM was on at the start
unfoldable pub plan_stale : List ℕ
plan_stale = 2 ∷ 0 ∷ 0 ∷ 0 ∷ 22 ∷ 0 ∷ 3 ∷ 0 ∷ 1 ∷ 0 ∷ 0 ∷ 2 ∷ 0 ∷ 1 ∷ 1 ∷ 1 ∷ 0 ∷ 0 ∷ 1 ∷ 0 ∷ 0 ∷ 1 ∷ []

-- 01's plans made by hand, in version 1
unfoldable pub plain_a : List ℕ
plain_a = 1 ∷ 0 ∷ 0 ∷ 0 ∷ 19 ∷ 0 ∷ 3 ∷ 0 ∷ 1 ∷ 0 ∷ 2 ∷ 0 ∷ 1 ∷ 1 ∷ 0 ∷ 0 ∷ 1 ∷ 0 ∷ 1 ∷ []

unfoldable pub plain_empty : List ℕ
plain_empty = 1 ∷ 0 ∷ 0 ∷ 0 ∷ 7 ∷ 0 ∷ 0 ∷ []

unfoldable pub plain_both : List ℕ
plain_both = 1 ∷ 0 ∷ 0 ∷ 0 ∷ 13 ∷ 0 ∷ 1 ∷ 0 ∷ 2 ∷ 0 ∷ 1 ∷ 1 ∷ 0 ∷ []

unfoldable pub plain_last : List ℕ
plain_last = 1 ∷ 0 ∷ 0 ∷ 0 ∷ 19 ∷ 0 ∷ 3 ∷ 0 ∷ 1 ∷ 1 ∷ 0 ∷ 0 ∷ 1 ∷ 2 ∷ 1 ∷ 0 ∷ 1 ∷ 0 ∷ 0 ∷ []

unfoldable pub cluster_last : List ℕ
cluster_last =
    1 ∷ 0 ∷ 0 ∷ 0 ∷ 47 ∷ 0 ∷ 3 ∷ 0 ∷ 3 ∷ 0 ∷ 0 ∷ 0 ∷ 0 ∷ 4 ∷ 0 ∷ 100 ∷ 0 ∷ 0 ∷ 2 ∷ 0 ∷ 100 ∷ 0 ∷ 0 ∷ 1 ∷ 0 ∷ 100 ∷
    0 ∷ 0 ∷ 2 ∷ 0 ∷ 10 ∷ 2 ∷ 0 ∷ 0 ∷ 0 ∷ 2 ∷ 0 ∷ 10 ∷ 1 ∷ 0 ∷ 0 ∷ 0 ∷ 2 ∷ 0 ∷ 10 ∷ 0 ∷ 1 ∷ []

unfoldable pub plan_last : List ℕ
plan_last = 2 ∷ 0 ∷ 0 ∷ 0 ∷ 22 ∷ 0 ∷ 3 ∷ 0 ∷ 1 ∷ 1 ∷ 1 ∷ 0 ∷ 0 ∷ 1 ∷ 2 ∷ 0 ∷ 1 ∷ 0 ∷ 1 ∷ 0 ∷ 2 ∷ 0 ∷ []

unfoldable pub cluster_none : List ℕ
cluster_none = 1 ∷ 0 ∷ 0 ∷ 0 ∷ 16 ∷ 0 ∷ 1 ∷ 0 ∷ 0 ∷ 0 ∷ 0 ∷ 0 ∷ 0 ∷ 0 ∷ 0 ∷ 0 ∷ []

-- VM 0 banned from node 2; a spread of both VMs
unfoldable pub banned : List ℕ
banned = 0 ∷ 6 ∷ 1 ∷ 0 ∷ 1 ∷ 0 ∷ 1 ∷ 2 ∷ []

unfoldable pub mated : List ℕ
mated = 0 ∷ 5 ∷ 3 ∷ 0 ∷ 2 ∷ 0 ∷ 1 ∷ []

unfoldable pub plan_one : List ℕ
plan_one = 2 ∷ 0 ∷ 0 ∷ 0 ∷ 12 ∷ 0 ∷ 1 ∷ 0 ∷ 1 ∷ 0 ∷ 2 ∷ 0 ∷ []

-- ---- what is said of a case

-- the numbers that the two calls return at reserve 0 (promise `is` of each), `build` lent a buffer of the least size
abbrev pub check_returns : List ℕ → List ℕ → ℕ
check_returns cluster plan = packed (verdict_of 0 cluster plan)

abbrev pub build_returns : List ℕ → ℕ
build_returns cluster = packed_answer (answer_of 0 cluster least_buffer)

-- the checker accepts, at a cost: every whole run obeys the rules and ends on the target
pub record AcceptedAt (cluster plan : List ℕ) (c : ℕ) : Type 0 where
  pub outcome : SaysGood (check_returns cluster plan)
  pub cost : told_cost (check_returns cluster plan) ≡ c
  pub runs : EveryRun (room_at 0 cluster) (current_of (room_at 0 cluster)) (steps_of plan)

-- the planner answers a plan with these counts and this cost, and the record it writes is this one, which the checker accepts at that cost
pub record PlansAs (cluster plan : List ℕ) (n m c : ℕ) : Type 0 where
  pub outcome : SaysGood (build_returns cluster)
  pub steps : told_steps (build_returns cluster) ≡ n
  pub moves : told_moves (build_returns cluster) ≡ m
  pub cost : told_cost (build_returns cluster) ≡ c
  pub written : plan_bytes (steps_for (room_at 0 cluster)) ≡ plan
  pub accepted : AcceptedAt cluster plan c

-- it answers blocked, and the record it writes is this one, which the checker refuses with 19, step 0: at the placement reached nothing
-- more can be done
pub record BlocksAs (cluster plan : List ℕ) (n m c : ℕ) : Type 0 where
  pub outcome : SaysBlocked (build_returns cluster)
  pub steps : told_steps (build_returns cluster) ≡ n
  pub moves : told_moves (build_returns cluster) ≡ m
  pub cost : told_cost (build_returns cluster) ≡ c
  pub written : plan_bytes (steps_for (room_at 0 cluster)) ≡ plan
  pub refused : SaysRefused (check_returns cluster plan) 19 0
  pub stuck : Stuck (room_at 0 cluster) (after_all (current_of (room_at 0 cluster)) (steps_of plan))

-- what an accepted plan's runs do
accepted-runs : (cluster plan : List ℕ) (cost : ℕ) → verdict_of 0 cluster plan ≡ Verdict.Accepted cost →
    EveryRun (room_at 0 cluster) (current_of (room_at 0 cluster)) (steps_of plan)
accepted-runs cluster plan cost e =
    let o = only-holds 0 cluster plan cost e in (exact-holds 0 cluster plan o.0 o.1 o.2).0 (cost, e)

-- ---- the lemma

pub record OnPaper : Type 0 where
  -- cluster A: planned; with zero steps; with both moves in one step, where in this order VM 0 does not fit on node 1 when it begins
  pub a-planned : PlansAs (cluster_a 40 0 4 4 4 []) plan_a 3 3 16
  -- a planner that leaves the buffer as it was, here one that starts with 0, is another one
  pub a-touched : (before : List ℕ) → byte_at before 0 ≡ 0 →
      buffer_of (answer_of 0 (cluster_a 40 0 4 4 4 []) least_buffer) (plan_bytes (steps_for (room_at 0 (cluster_a 40 0 4 4 4 [])))) before ≡ before → ⊥
  pub a-nothing : SaysRefused (check_returns (cluster_a 40 0 4 4 4 []) plan_empty) 19 0
  pub a-both : SaysRefused (check_returns (cluster_a 40 0 4 4 4 []) plan_both) 17 1
  -- the same in version 1, and with a source that was right at the start only (02, Job 7)
  pub plain-planned : AcceptedAt (cluster_a 40 0 4 4 4 []) plain_a 16
  pub plain-nothing : SaysRefused (check_returns (cluster_a 40 0 4 4 4 []) plain_empty) 19 0
  pub plain-both : SaysRefused (check_returns (cluster_a 40 0 4 4 4 []) plain_both) 17 1
  pub a-stale : SaysRefused (check_returns (cluster_a 40 0 4 4 4 []) plan_stale) 27 3
  pub a-order : Order (first_moment (room_at 0 (cluster_a 40 0 4 4 4 [])) (current_of (room_at 0 (cluster_a 40 0 4 4 4 []))) (moving 0 1 ∷ moving 1 0 ∷ [])) (cell 0 0 (ended 1) ∷ cell 1 1 (ended 0) ∷ [])
  pub a-fails : SomeBegin (λ cs v d. (fits (room_at 0 (cluster_a 40 0 4 4 4 [])) cs v d ≡ false) × (v ≡ 0) × (d ≡ 1)) a-order
  -- all memories 5
  pub five-planned : PlansAs (cluster_a 40 0 5 5 5 []) plan_both 1 2 5
  -- node 2 of memory 2; VM 0 banned from node 2
  pub two-planned : PlansAs (cluster_a 40 0 4 4 2 []) plan_via 3 3 14
  pub banned-planned : PlansAs (cluster_a 48 1 4 4 4 banned) plan_via 3 3 14
  -- node 2 of memory 1
  pub one-blocked : BlocksAs (cluster_a 40 0 4 4 1 []) plan_empty 0 0 0
  -- all memories 9 and a spread of both VMs: both in one step, where in this order VM 0 meets VM 1 on node 1 when it begins; planned as A
  pub spread-both : SaysRefused (check_returns (cluster_a 47 1 9 9 9 mated) plan_both) 18 1
  pub spread-plain : SaysRefused (check_returns (cluster_a 47 1 9 9 9 mated) plain_both) 18 1
  pub spread-order : Order (first_moment (room_at 0 (cluster_a 47 1 9 9 9 mated)) (current_of (room_at 0 (cluster_a 47 1 9 9 9 mated))) (moving 0 1 ∷ moving 1 0 ∷ [])) (cell 0 0 (ended 1) ∷ cell 1 1 (ended 0) ∷ [])
  pub spread-fails : SomeBegin (λ cs v d. (meets_mate (room_at 0 (cluster_a 47 1 9 9 9 mated)) cs v d ≡ true) × (v ≡ 0) × (d ≡ 1)) spread-order
  pub spread-planned : PlansAs (cluster_a 47 1 9 9 9 mated) plan_a 3 3 16
  -- no VM
  pub none-planned : PlansAs cluster_none plan_empty 0 0 0
  -- blocked after one step, VM 0 to node 0; yet there is a plan
  pub last-blocked : BlocksAs cluster_last plan_one 1 1 2
  pub last-accepted : AcceptedAt cluster_last plan_last 12
  pub last-plain : AcceptedAt cluster_last plain_last 12

pub on-paper : OnPaper
unfolding all sum_of be16 be24 be32 on_node node_of vm_of usable usable_node at_reserve vms_of rows node_row vm_row part_at parts_from parts_end parts_of vms_at nodes_at groups_from groups_end constraint_of lists_end room_of knows_nowhere counts_ok place_ok vm_ok above rises list_ok has disjoint apart constraint_ok filled well_formed cluster_check known_version names_sources move_width source_at move_at step_at steps_from steps_end steps_of move_total sized shaped plan_check current_of target_of after within bears bears_at counts_on tally_at phase_of cells_from first_moment begun all_running spreads some mates meets_mate keeps_from allowed from fits_all spread_out on_nodes keeps target_check aims named is_place sourced permitted fitting unmet has_move respects in_turn step_check memory_of step_cost cost_from cost_of home on_reserve on_check steps_verdict plan_verdict verdict_of cluster_a plan_a plan_empty plan_both plan_via plan_stale plain_a plain_empty plain_both plain_last cluster_last plan_last cluster_none banned mated away_count away can_go joined joined_all direct_step other_goes useful or_else pivot_among pivot_first pivot_step with_sources from_places next_step onward picked_within picked steps_for made_of outcome answer_reserve answer_check answer_of buffer_of sound_step bytes16 bytes32 source_bytes move_bytes moves_bytes step_bytes steps_bytes header_bytes record_bytes plan_bytes plan_one after_all fits told_outcome told_number told_step told_steps told_moves told_cost
on-paper = record {
  a-planned = record { outcome = refl; steps = refl; moves = refl; cost = refl; written = refl; accepted = record { outcome = refl; cost = refl; runs = accepted-runs (cluster_a 40 0 4 4 4 []) plan_a 16 refl } };
  a-touched = λ before z e. let two : 2 ≡ byte_at before 0 = ap (λ (l : List ℕ). byte_at l 0) e in omega arith;
  a-nothing = (refl, refl, refl);
  a-both = (refl, refl, refl);
  plain-planned = record { outcome = refl; cost = refl; runs = accepted-runs (cluster_a 40 0 4 4 4 []) plain_a 16 refl };
  plain-nothing = (refl, refl, refl);
  plain-both = (refl, refl, refl);
  a-stale = (refl, refl, refl);
  a-order = next begins (next (later begins) (next ends (next (later ends) done)));
  a-fails = inl (refl, refl, refl);
  five-planned = record { outcome = refl; steps = refl; moves = refl; cost = refl; written = refl; accepted = record { outcome = refl; cost = refl; runs = accepted-runs (cluster_a 40 0 5 5 5 []) plan_both 5 refl } };
  two-planned = record { outcome = refl; steps = refl; moves = refl; cost = refl; written = refl; accepted = record { outcome = refl; cost = refl; runs = accepted-runs (cluster_a 40 0 4 4 2 []) plan_via 14 refl } };
  banned-planned = record { outcome = refl; steps = refl; moves = refl; cost = refl; written = refl; accepted = record { outcome = refl; cost = refl; runs = accepted-runs (cluster_a 48 1 4 4 4 banned) plan_via 14 refl } };
  one-blocked = record { outcome = refl; steps = refl; moves = refl; cost = refl; written = refl; refused = (refl, refl, refl); stuck = rest-stuck (room_at 0 (cluster_a 40 0 4 4 1 [])) (current_of (room_at 0 (cluster_a 40 0 4 4 1 []))) refl refl };
  spread-both = (refl, refl, refl);
  spread-plain = (refl, refl, refl);
  spread-order = next begins (next (later begins) (next ends (next (later ends) done)));
  spread-fails = inl (refl, refl, refl);
  spread-planned = record { outcome = refl; steps = refl; moves = refl; cost = refl; written = refl; accepted = record { outcome = refl; cost = refl; runs = accepted-runs (cluster_a 47 1 9 9 9 mated) plan_a 16 refl } };
  none-planned = record { outcome = refl; steps = refl; moves = refl; cost = refl; written = refl; accepted = record { outcome = refl; cost = refl; runs = accepted-runs cluster_none plan_empty 0 refl } };
  last-blocked = record { outcome = refl; steps = refl; moves = refl; cost = refl; written = refl; refused = (refl, refl, refl); stuck = rest-stuck (room_at 0 cluster_last) (after_all (current_of (room_at 0 cluster_last)) (steps_of plan_one)) refl refl };
  last-accepted = record { outcome = refl; cost = refl; runs = accepted-runs cluster_last plan_last 12 refl };
  last-plain = record { outcome = refl; cost = refl; runs = accepted-runs cluster_last plain_last 12 refl };
}
