-- Wrong readings of a stop, each written beside the right one, and a small case that tells the two apart; and cluster A stopped, on its bytes.
use Prim.Native.Nat.{ℕ, ◌-◌}
use mathlib.Core.List.{List, [], ◌∷◌}
use mathlib.Core.Path.{◌≡◌, refl}
use lib.ListN.{get_or, take}
use lib.Dec.{eqb}
use Rattle.records.specs.Base.{pick, all, sum_of}
use Rattle.records.specs.Bytes.{be16, be24, be32, known_version}
use Rattle.records.specs.Room.{Room, nowhere, on_node, node_of, vm_of, usable, usable_node, at_reserve, vms_of, rows, node_row, vm_row, part_at, parts_from, parts_end, parts_of, constraint_of, room_of, knows_nowhere, counts_ok, place_ok, vm_ok, well_formed, cluster_check, updated_to, updated}
use Rattle.records.specs.Plan.{Step, names_sources, move_width, source_at, move_at, step_at, steps_from, steps_end, steps_of, move_total, sized, shaped, plan_check}
use Rattle.records.specs.declared.plan.Source.TheVariants.{Unnamed}
use Rattle.rules.specs.Moments.{Placement, current_of, target_of, after, within, bears, bears_at, counts_on, tally_at, phase_of, cells_from, first_moment, begun, all_running}
use Rattle.rules.specs.Orders.{spreads, some, mates, meets_mate}
use Rattle.rules.specs.Rules.{keeps_from, allowed, from, fits_all, keeps, target_check, aims, named, is_place, sourced, permitted, fitting, unmet, has_move, respects, in_turn, step_check}
use Rattle.rules.specs.Cost.{memory_of, step_cost, cost_from, cost_of}
use Rattle.rules.specs.Verdict.{home, on_reserve, on_check, steps_verdict, plan_verdict, verdict_of}
use Rattle.rules.specs.Returned.{told_outcome, told_number, told_step, told_cost, SaysGood, SaysRefused}
use Rattle.rules.specs.Promises.{after_all}
use Rattle.rules.proofs.Laws.Readings.{vm, node, swap, both_moves, turnover, shutdown, launch, one_move}
use Rattle.stop.specs.Stops.{numbered, ended_moves, stopped_at, stopped_record, marked, marks_ok, accepted_stop, on_verdict, stop_of, packed_stop, told_length}

-- ---- the cases

-- VM 1 goes to a node
unfoldable pub aside : ℕ → Step
aside d = record { vm = 1; source = Unnamed; to = d } ∷ []

-- three nodes; VM 0 is to go from node 0 to node 1, VM 1 is on node 1
unfoldable pub three : Room
three = record { nodes = node 9 ∷ node 9 ∷ node 9 ∷ []; vms = vm 3 0 1 ∷ vm 2 1 1 ∷ []; constraints = [] }

-- ---- the wrong readings

-- a move that runs is on its destination too, so every move of the step has ended, whatever its mark
unfoldable pub stopped_ended : Room → List Step → ℕ → List ℕ → Placement
stopped_ended room steps n marks = after (after_all (current_of room) (take (n - 1) steps)) (numbered steps n)

-- a VM that is called back goes where the record has it, not where it was when the step started
unfoldable pub stopped_home : Room → List Step → ℕ → List ℕ → Placement
stopped_home room steps n marks = after (current_of room) (ended_moves (numbered steps n) marks)

-- mark v is that of VM v, not of move v
unfoldable pub ended_by_vm : Step → List ℕ → Step
ended_by_vm [] marks = []
ended_by_vm (move ∷ moves) marks = pick (eqb (get_or marks move.vm 0) 1) (move ∷ ended_by_vm moves marks) (ended_by_vm moves marks)

unfoldable pub stopped_by_vm : Room → List Step → ℕ → List ℕ → Placement
stopped_by_vm room steps n marks = after (after_all (current_of room) (take (n - 1) steps)) (ended_by_vm (numbered steps n) marks)

-- the marks are those of the step before
unfoldable pub stopped_other : Room → List Step → ℕ → List ℕ → Placement
stopped_other room steps n marks = stopped_at room steps (n - 1) marks

-- ---- cluster A, its plan, both moves in one step

unfoldable pub cluster_a : ℕ → ℕ → List ℕ
cluster_a first second =
    1 ∷ 0 ∷ 0 ∷ 0 ∷ 40 ∷ 0 ∷ 3 ∷ 0 ∷ 2 ∷ 0 ∷ 0 ∷ 0 ∷ 0 ∷ 4 ∷ 0 ∷ 100 ∷ 0 ∷ 0 ∷ 4 ∷ 0 ∷ 100 ∷ 0 ∷ 0 ∷ 4 ∷ 0 ∷ 100 ∷
    0 ∷ 0 ∷ 3 ∷ 0 ∷ 50 ∷ first ∷ 1 ∷ 0 ∷ 0 ∷ 2 ∷ 0 ∷ 50 ∷ second ∷ 0 ∷ []

unfoldable pub plan_a : List ℕ
plan_a = 2 ∷ 0 ∷ 0 ∷ 0 ∷ 22 ∷ 0 ∷ 3 ∷ 0 ∷ 1 ∷ 0 ∷ 0 ∷ 2 ∷ 0 ∷ 1 ∷ 1 ∷ 1 ∷ 0 ∷ 0 ∷ 1 ∷ 0 ∷ 2 ∷ 1 ∷ []

unfoldable pub plan_both : List ℕ
plan_both = 1 ∷ 0 ∷ 0 ∷ 0 ∷ 13 ∷ 0 ∷ 1 ∷ 0 ∷ 2 ∷ 0 ∷ 1 ∷ 1 ∷ 0 ∷ []

-- what a call returns for it, with a buffer of so many bytes
unfoldable pub returns : List ℕ → ℕ → List ℕ → ℕ → ℕ
returns plan n marks size = packed_stop (stop_of 0 (cluster_a 0 1) plan n marks size)

pub record ToldApart : Type 0 where
  -- two VMs change places in one step: one has ended, the other was called back
  pub first_ended : stopped_at (swap 5) (both_moves ∷ []) 1 (1 ∷ 0 ∷ []) ≡ 1 ∷ 1 ∷ []
  pub second_ended : stopped_at (swap 5) (both_moves ∷ []) 1 (0 ∷ 1 ∷ []) ≡ 0 ∷ 0 ∷ []
  pub ended-wrong : stopped_ended (swap 5) (both_moves ∷ []) 1 (1 ∷ 0 ∷ []) ≡ 1 ∷ 0 ∷ []
  -- VM 1 went aside to node 2 in step 1, and is called back from node 0 in step 2: it is on node 2
  pub back-right : stopped_at three (aside 2 ∷ aside 0 ∷ []) 2 (0 ∷ []) ≡ 0 ∷ 2 ∷ []
  pub back-wrong : stopped_home three (aside 2 ∷ aside 0 ∷ []) 2 (0 ∷ []) ≡ 0 ∷ 1 ∷ []
  -- the step moves VM 1 alone, so the first mark is its own
  pub mark-right : stopped_at three (aside 2 ∷ []) 1 (1 ∷ []) ≡ 0 ∷ 2 ∷ []
  pub mark-wrong : stopped_by_vm three (aside 2 ∷ []) 1 (1 ∷ []) ≡ 0 ∷ 1 ∷ []
  -- steps are counted from 1, and those before the stopped one have ended
  pub step_right : stopped_at three (aside 2 ∷ one_move ∷ []) 2 (1 ∷ []) ≡ 1 ∷ 2 ∷ []
  pub step-wrong : stopped_other three (aside 2 ∷ one_move ∷ []) 2 (1 ∷ []) ≡ 0 ∷ 2 ∷ []
  -- a shutdown that has ended is on no node, one that was called back is still up; a launch that was called back is on none
  pub shutdown-ended : stopped_at turnover (shutdown ∷ launch ∷ []) 1 (1 ∷ []) ≡ nowhere ∷ nowhere ∷ []
  pub shutdown-back : stopped_at turnover (shutdown ∷ launch ∷ []) 1 (0 ∷ []) ≡ 0 ∷ nowhere ∷ []
  pub launch-ended : stopped_at turnover (shutdown ∷ launch ∷ []) 2 (1 ∷ []) ≡ nowhere ∷ 0 ∷ []
  pub launch-back : stopped_at turnover (shutdown ∷ launch ∷ []) 2 (0 ∷ []) ≡ nowhere ∷ nowhere ∷ []
  -- cluster A stopped in each step of its plan: one byte of one VM changes
  pub a-ended : stopped_record (cluster_a 0 1) plan_a 1 (1 ∷ []) ≡ cluster_a 2 1
  pub a_back : stopped_record (cluster_a 0 1) plan_a 1 (0 ∷ []) ≡ cluster_a 0 1
  pub a_second : stopped_record (cluster_a 0 1) plan_a 2 (1 ∷ []) ≡ cluster_a 2 0
  pub a-last : stopped_record (cluster_a 0 1) plan_a 3 (1 ∷ []) ≡ cluster_a 1 0
  -- the numbers: done; 20 of no step, of one behind the last, of a mark too many, and before 21; 21 before 22; 22; the checker's before all of them
  pub a-done : SaysGood (returns plan_a 1 (1 ∷ []) 40) × (told_length (returns plan_a 1 (1 ∷ []) 40) ≡ 40)
  pub no_step : SaysRefused (returns plan_a 0 (1 ∷ []) 40) 20 0
  pub past-last : SaysRefused (returns plan_a 4 (1 ∷ []) 40) 20 0
  pub too_many : SaysRefused (returns plan_a 1 (2 ∷ 2 ∷ []) 40) 20 0
  pub mark-first : SaysRefused (returns plan_a 1 (2 ∷ []) 39) 21 0
  pub too_short : SaysRefused (returns plan_a 1 (1 ∷ []) 39) 22 0
  pub checked-first : SaysRefused (returns plan_both 0 (2 ∷ []) 0) 17 1

pub told-apart : ToldApart
unfolding swap both_moves three aside one_move turnover shutdown launch cluster_a plan_a plan_both returns numbered ended_moves stopped_at stopped_ended stopped_home ended_by_vm stopped_by_vm stopped_other stopped_record marked marks_ok accepted_stop on_verdict stop_of after_all updated_to updated all sum_of be16 be24 be32 on_node node_of vm_of usable usable_node at_reserve vms_of rows node_row vm_row part_at parts_from parts_end parts_of constraint_of room_of knows_nowhere counts_ok place_ok vm_ok well_formed cluster_check known_version names_sources move_width source_at move_at step_at steps_from steps_end steps_of move_total sized shaped plan_check current_of target_of after within bears bears_at counts_on tally_at phase_of cells_from first_moment begun all_running spreads some mates meets_mate keeps_from allowed from fits_all keeps target_check aims named is_place sourced permitted fitting unmet has_move respects in_turn step_check memory_of step_cost cost_from cost_of home on_reserve on_check steps_verdict plan_verdict verdict_of told_outcome told_number told_step told_cost
told-apart = record {
  first_ended = refl;
  second_ended = refl;
  ended-wrong = refl;
  back-right = refl;
  back-wrong = refl;
  mark-right = refl;
  mark-wrong = refl;
  step_right = refl;
  step-wrong = refl;
  shutdown-ended = refl;
  shutdown-back = refl;
  launch-ended = refl;
  launch-back = refl;
  a-ended = refl;
  a_back = refl;
  a_second = refl;
  a-last = refl;
  a-done = (refl, refl);
  no_step = (refl, refl, refl);
  past-last = (refl, refl, refl);
  too_many = (refl, refl, refl);
  mark-first = (refl, refl, refl);
  too_short = (refl, refl, refl);
  checked-first = (refl, refl, refl);
}
