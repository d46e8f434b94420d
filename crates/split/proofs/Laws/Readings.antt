-- Wrong readings of a division, each written beside the right one, and a small case that tells the two apart; and a plan divided, on its bytes.
use Prim.Native.Nat.{ℕ, ◌+◌, ◌*◌, ◌^◌}
use mathlib.Core.List.{List, [], ◌∷◌, reverse}
use mathlib.Core.Path.{◌≡◌, refl}
use Rattle.records.specs.Base.{all, sum_of}
use Rattle.records.specs.Bytes.{be16, be24, be32, bytes16, bytes32, known_version}
use Rattle.records.specs.Room.{Constraint, before, has, Room, Vm, on_node, node_of, vm_of, usable, usable_node, at_reserve, vms_of, rows, node_row, vm_row, part_at, parts_from, parts_end, parts_of, constraint_of, room_of, knows_nowhere, counts_ok, place_ok, vm_ok, well_formed, cluster_check}
use Rattle.records.specs.Plan.{Move, Step, names_sources, move_width, source_at, move_at, step_at, steps_from, steps_end, steps_of, move_total, sized, shaped, plan_check, source_bytes, move_bytes, moves_bytes, step_bytes, steps_bytes, header_bytes, record_bytes, kept_version}
use Rattle.records.specs.declared.plan.Source.TheVariants.{Unnamed}
use Rattle.rules.specs.Moments.{current_of, target_of, after, within, bears, bears_at, counts_on, tally_at, phase_of, cells_from, first_moment, begun, all_running}
use Rattle.rules.specs.Orders.{spreads, some, mates, meets_mate}
use Rattle.rules.specs.Rules.{keeps_from, allowed, from, fits_all, keeps, target_check, aims, named, is_place, sourced, permitted, fitting, unmet, has_move, respects, in_turn, step_check}
use Rattle.rules.specs.Cost.{memory_of, step_cost, cost_from, cost_of}
use Rattle.rules.specs.Verdict.{home, on_reserve, on_check, steps_verdict, plan_verdict, verdict_of}
use Rattle.rules.specs.Returned.{told_outcome, told_number, told_step, told_moves, told_cost, SaysGood, SaysRefused}
use Rattle.rules.specs.declared.faults.StepFault.{StepFault}
use Rattle.rules.specs.declared.faults.Fault.{Fault}
use Rattle.rules.specs.declared.faults.Verdict.{Verdict}
use Rattle.rules.proofs.Laws.Readings.{node}
use Rattle.split.specs.Splits.{singles, all_singles, split_record, divided_into, on_verdict, accepted_split, split_of, packed_split, told_singles}

-- ---- the case: three VMs go at once, then one more; a fifth is at home

abbrev light : ℕ → ℕ → ℕ → Vm
light memory current target = record { memory = memory; cpu = 20; current = current; target = target }

unfoldable pub room : List Constraint → Room
room constraints = record { nodes = node 20 ∷ node 20 ∷ node 20 ∷ []; vms = light 4 0 1 ∷ light 3 0 2 ∷ light 2 0 1 ∷ light 1 1 0 ∷ light 1 2 2 ∷ []; constraints = constraints }

abbrev go : ℕ → ℕ → Move
go v d = record { vm = v; source = Unnamed; to = d }

unfoldable pub three : Step
three = go 0 1 ∷ go 1 2 ∷ go 2 1 ∷ []

unfoldable pub one : Step
one = go 3 0 ∷ []

-- ---- the wrong readings

-- the pieces of a step in falling order
unfoldable pub falling_singles : Step → List Step
falling_singles step = reverse (singles step)

-- every record becomes version 2
unfoldable pub always_naming : List ℕ → List ℕ
always_naming plan = record_bytes 2 (all_singles (steps_of plan))

-- ---- the same on bytes, of version 1 and of version 2

unfoldable pub cluster : List ℕ
cluster = 1 ∷ 0 ∷ 0 ∷ 0 ∷ 54 ∷ 0 ∷ 3 ∷ 0 ∷ 4 ∷ 0 ∷ 0 ∷ 0 ∷ 0 ∷ 20 ∷ 0 ∷ 100 ∷ 0 ∷ 0 ∷ 20 ∷ 0 ∷ 100 ∷ 0 ∷ 0 ∷ 20 ∷ 0 ∷ 100 ∷ 0 ∷ 0 ∷ 4 ∷ 0 ∷ 20 ∷ 0 ∷ 1 ∷ 0 ∷ 0 ∷ 3 ∷ 0 ∷ 20 ∷ 0 ∷ 2 ∷ 0 ∷ 0 ∷ 2 ∷ 0 ∷ 20 ∷ 0 ∷ 1 ∷ 0 ∷ 0 ∷ 1 ∷ 0 ∷ 20 ∷ 1 ∷ 0 ∷ []

unfoldable pub plain : List ℕ
plain = 1 ∷ 0 ∷ 0 ∷ 0 ∷ 19 ∷ 0 ∷ 2 ∷ 0 ∷ 3 ∷ 0 ∷ 1 ∷ 1 ∷ 2 ∷ 2 ∷ 1 ∷ 0 ∷ 1 ∷ 3 ∷ 0 ∷ []

unfoldable pub plain_single : List ℕ
plain_single = 1 ∷ 0 ∷ 0 ∷ 0 ∷ 23 ∷ 0 ∷ 4 ∷ 0 ∷ 1 ∷ 0 ∷ 1 ∷ 0 ∷ 1 ∷ 1 ∷ 2 ∷ 0 ∷ 1 ∷ 2 ∷ 1 ∷ 0 ∷ 1 ∷ 3 ∷ 0 ∷ []

unfoldable pub naming : List ℕ
naming = 2 ∷ 0 ∷ 0 ∷ 0 ∷ 23 ∷ 0 ∷ 2 ∷ 0 ∷ 3 ∷ 0 ∷ 0 ∷ 1 ∷ 1 ∷ 0 ∷ 2 ∷ 2 ∷ 0 ∷ 1 ∷ 0 ∷ 1 ∷ 3 ∷ 1 ∷ 0 ∷ []

unfoldable pub naming_single : List ℕ
naming_single = 2 ∷ 0 ∷ 0 ∷ 0 ∷ 27 ∷ 0 ∷ 4 ∷ 0 ∷ 1 ∷ 0 ∷ 0 ∷ 1 ∷ 0 ∷ 1 ∷ 1 ∷ 0 ∷ 2 ∷ 0 ∷ 1 ∷ 2 ∷ 0 ∷ 1 ∷ 0 ∷ 1 ∷ 3 ∷ 1 ∷ 0 ∷ []

-- a plan that is refused: VM 3 alone moves
unfoldable pub unfinished : List ℕ
unfinished = 1 ∷ 0 ∷ 0 ∷ 0 ∷ 11 ∷ 0 ∷ 1 ∷ 0 ∷ 1 ∷ 3 ∷ 0 ∷ []

-- what a call returns, with a buffer of so many bytes
unfoldable pub returns : List ℕ → ℕ → ℕ
returns plan size = packed_split (split_of 0 cluster plan size)

pub record ToldApart : Type 0 where
  -- by VM number, all moves, in the order of the steps
  pub right : all_singles (three ∷ one ∷ []) ≡ (go 0 1 ∷ []) ∷ (go 1 2 ∷ []) ∷ (go 2 1 ∷ []) ∷ (go 3 0 ∷ []) ∷ []
  pub falling : falling_singles three ≡ (go 2 1 ∷ []) ∷ (go 1 2 ∷ []) ∷ (go 0 1 ∷ []) ∷ []
  -- the cost is that of the divided plan
  pub cost-right : cost_of (room []) (all_singles (three ∷ one ∷ [])) ≡ 30
  pub cost-old : cost_of (room []) (three ∷ one ∷ []) ≡ 14
  -- pieces of any size and in any order are accepted, also where VM 3 waits for VM 0, and where VM 1 of the divided step waits for VM 4, which is at rest; a
  -- piece whose VMs fall is 15, and no piece may pass another step
  pub any_order : plan_verdict (room (before 0 3 ∷ [])) ((go 2 1 ∷ []) ∷ (go 0 1 ∷ go 1 2 ∷ []) ∷ one ∷ []) ≡ Verdict.Accepted 20
  pub fallen : plan_verdict (room []) ((go 1 2 ∷ []) ∷ (go 2 1 ∷ go 0 1 ∷ []) ∷ one ∷ []) ≡ Verdict.Refused (Fault.Step StepFault.Misnamed 2)
  pub at_rest : plan_verdict (room (before 4 1 ∷ [])) ((go 1 2 ∷ []) ∷ (go 0 1 ∷ go 2 1 ∷ []) ∷ one ∷ []) ≡ Verdict.Accepted 23
  pub passing : plan_verdict (room (before 0 3 ∷ [])) (one ∷ three ∷ []) ≡ Verdict.Refused (Fault.Step StepFault.Early 1)
  -- 512 steps need ten bits: the nine of `build`'s moves would read 0
  pub ten-bits : told_singles (512 * 2 ^ 44 + 5) ≡ 512
  pub nine-bits : told_moves (512 * 2 ^ 44 + 5) ≡ 0
  -- each version is kept; 0 bytes become a version 2 header, and a version 1 header stays
  pub version-1 : split_record plain ≡ plain_single
  pub version-2 : split_record naming ≡ naming_single
  pub header : split_record [] ≡ 2 ∷ 0 ∷ 0 ∷ 0 ∷ 7 ∷ 0 ∷ 0 ∷ []
  pub header-1 : split_record (1 ∷ 0 ∷ 0 ∷ 0 ∷ 7 ∷ 0 ∷ 0 ∷ []) ≡ 1 ∷ 0 ∷ 0 ∷ 0 ∷ 7 ∷ 0 ∷ 0 ∷ []
  pub wrong-version : always_naming (1 ∷ 0 ∷ 0 ∷ 0 ∷ 7 ∷ 0 ∷ 0 ∷ []) ≡ 2 ∷ 0 ∷ 0 ∷ 0 ∷ 7 ∷ 0 ∷ 0 ∷ []
  -- the numbers: done; 10 though the record would have room; the checker's before it
  pub done : SaysGood (returns plain 2567) × (told_singles (returns plain 2567) ≡ 4) × (told_cost (returns plain 2567) ≡ 30)
  pub short : SaysRefused (returns plain 2566) 10 0
  pub checked-first : SaysRefused (returns unfinished 0) 19 0

pub told-apart : ToldApart
unfolding room has three one falling_singles always_naming cluster plain plain_single naming naming_single unfinished returns singles all_singles split_record divided_into on_verdict accepted_split split_of told_singles all sum_of be16 be24 be32 bytes16 bytes32 on_node node_of vm_of usable usable_node at_reserve vms_of rows node_row vm_row part_at parts_from parts_end parts_of constraint_of room_of knows_nowhere counts_ok place_ok vm_ok well_formed cluster_check known_version names_sources move_width source_at move_at step_at steps_from steps_end steps_of move_total sized shaped plan_check source_bytes move_bytes moves_bytes step_bytes steps_bytes header_bytes record_bytes kept_version current_of target_of after within bears bears_at counts_on tally_at phase_of cells_from first_moment begun all_running spreads some mates meets_mate keeps_from allowed from fits_all keeps target_check aims named is_place sourced permitted fitting unmet has_move respects in_turn step_check memory_of step_cost cost_from cost_of home on_reserve on_check steps_verdict plan_verdict verdict_of told_outcome told_number told_step told_moves told_cost
told-apart = record {
  right = refl;
  falling = refl;
  cost-right = refl;
  cost-old = refl;
  any_order = refl;
  fallen = refl;
  at_rest = refl;
  passing = refl;
  ten-bits = refl;
  nine-bits = refl;
  version-1 = refl;
  version-2 = refl;
  header = refl;
  header-1 = refl;
  wrong-version = refl;
  done = (refl, refl, refl);
  short = (refl, refl, refl);
  checked-first = (refl, refl, refl);
}
