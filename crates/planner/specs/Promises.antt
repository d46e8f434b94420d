-- What `build` promises of its answer and of the buffer, over every order and every whole run (the demands on planning, and 01, "The
-- planner").
use Rattle.std.specs.Prelude.{ℕ, ◌+◌, ◌*◌, ◌<◌, ◌≤◌, true, false, List, [], ◌↔◌, ◌⊎◌, ◌≡◌, length}
use Rattle.records.specs.Bytes.{version_of}
use Rattle.records.specs.Room.{Room, most_reserve, room_at}
use Rattle.records.specs.Plan.{Step, steps_of, move_total, header_bytes, plan_bytes, written_version, front_of}
use Rattle.rules.specs.Moments.{Placement, current_of}
use Rattle.rules.specs.Orders.{Run, EachBeginOfRun}
use Rattle.rules.specs.Rules.{sound_step}
use Rattle.rules.specs.Cost.{cost_of}
use Rattle.rules.specs.Verdict.{verdict_of}
use Rattle.rules.specs.Returned.{told_number, told_step, told_steps, told_moves, told_cost, SaysGood, SaysBlocked, SaysRefused}
use Rattle.rules.specs.Promises.{after_all, named_all, sourced_all, AcceptedCluster, Obeys, InTurn, EveryRun, SoundInOrders, NamesPlaces, StaysWithin, StaysApart, KeepsRunning, WaitsItsTurn}
use Rattle.rules.specs.declared.faults.Fault.{Fault}
use Rattle.rules.specs.declared.faults.Verdict.{Verdict}
use Rattle.planner.specs.Picks.{away, away_count, can_go, useful, Picks}
use Rattle.planner.specs.Answer.{steps_for, answer_of, buffer_of, least_buffer, build_number, packed_answer}
use Rattle.planner.specs.declared.answer.Made.{Made}
use Rattle.planner.specs.declared.answer.Answer.{Answer}
use Rattle.planner.specs.declared.answer.Answer.TheVariants.{Plan, Blocked, Refused}

-- ---- the answer

-- an answer is the one defined, and the buffer the one that goes with it
pub record Answers (room : Room) (answer : Answer) (before after : List ℕ) (r : Answer) : Type 0 where
  pub is : r ≡ answer
  pub buffer : after ≡ buffer_of answer (plan_bytes (steps_for room)) before

-- the counts and the cost that a returned number tells
abbrev pub told_made : ℕ → Made
told_made r = record { steps = told_steps r; moves = told_moves r; cost = told_cost r }

-- a number tells an answer: taken apart it says a plan or blocked with these counts and this cost, or refused with the documents' number and step 0;
-- what does not apply reads 0
abbrev pub TellsMade : ℕ → Made → Type 0
TellsMade r made = (told_steps r ≡ made.steps) × (told_moves r ≡ made.moves) × (told_cost r ≡ made.cost)

abbrev pub TellsAnswer : ℕ → Answer → Type 0
TellsAnswer r (Plan made) = SaysGood r × TellsMade r made × (told_number r ≡ 0) × (told_step r ≡ 0)
TellsAnswer r (Blocked made) = SaysBlocked r × TellsMade r made × (told_number r ≡ 0) × (told_step r ≡ 0)
TellsAnswer r (Refused fault) = SaysRefused r (build_number fault) 0 × (told_steps r ≡ 0) × (told_moves r ≡ 0) × (told_cost r ≡ 0)

-- ---- blocked

-- the auditor's second question. The planner has no next step at a placement though somebody is out of place: no VM has a sound direct
-- move, a launch or a shutdown included, and no pivot of any VM to any node is useful. There may still be a plan.
pub record Stuck (room : Room) (places : Placement) : Type 0 where
  pub lost : (v : ℕ) × (v < length room.vms) × (away room places v ≡ true)
  pub no-direct : (v : ℕ) → can_go room places v ≡ false
  pub no-pivot : (v d : ℕ) → useful room places v d ≡ false

-- ---- the record written

-- what holds of its steps, of a plan and of blocked alike
pub record Written (room : Room) (plan : List ℕ) (made : Made) : Type 0 where
  -- they are the ones that the planner picks
  pub picks : Picks room (current_of room) (steps_of plan)
  -- none has fault 15 or 27, and every whole run, whatever its orders, obeys the rules at each begin, moves nobody before its turn, and reaches
  -- one placement
  pub named : named_all room (current_of room) (steps_of plan) ≡ true
  pub well-sourced : sourced_all (current_of room) (steps_of plan) ≡ true
  pub obeys : (last : Placement) (run : Run room (current_of room) (steps_of plan) last) → EachBeginOfRun (Obeys room) run
  pub in-turn : (last : Placement) (run : Run room (current_of room) (steps_of plan) last) → InTurn room run
  pub reaches : (last : Placement) → Run room (current_of room) (steps_of plan) last → last ≡ after_all (current_of room) (steps_of plan)
  -- in no run does a node that is within what it has go past it, or one over its memory take a VM, or one over its CPU take an active one, or do
  -- mates that are apart meet
  pub auditor : StaysWithin room (current_of room) (steps_of plan)
  pub apart : StaysApart room (current_of room) (steps_of plan)
  -- nor is a VM taken down that is wanted on a node (02, Job 2)
  pub running : KeepsRunning room (current_of room) (steps_of plan)
  -- nor is one moved while a VM that comes before it is off its target or moves too (02, Job 13)
  pub waits : WaitsItsTurn room (current_of room) (steps_of plan)
  -- how many steps there can be, by the number of VMs out of place at the current nodes
  pub none : away_count room (current_of room) ≡ 0 → steps_of plan ≡ []
  pub short : 0 < away_count room (current_of room) → length (steps_of plan) + 1 ≤ 2 * away_count room (current_of room)
  -- the record names the sources: each move that of its VM when the step starts, in every run (02, Job 7)
  pub version : version_of plan ≡ written_version
  pub sources : NamesPlaces room (current_of room) (steps_of plan)
  -- of no steps the header is still written (02, Job 8)
  pub header : steps_of plan ≡ [] → plan ≡ header_bytes written_version 7 0
  -- the record fits the least buffer that is taken
  pub small : length plan ≤ least_buffer
  -- the counts and the cost given are those of the record
  pub steps : made.steps ≡ length (steps_of plan)
  pub moves : made.moves ≡ move_total (steps_of plan)
  pub cost : made.cost ≡ cost_of room (steps_of plan)

-- of a plan: every whole run obeys the rules, moves nobody before its turn and ends with every VM on its target, which is what `check` is exact
-- about; and the checker accepts it at the cost given
pub record Planned (reserve : ℕ) (cluster plan : List ℕ) (made : Made) : Type 0 where
  pub written : Written (room_at reserve cluster) plan made
  pub runs : EveryRun (room_at reserve cluster) (current_of (room_at reserve cluster)) (steps_of plan)
  pub accepted : verdict_of reserve cluster plan ≡ Verdict.Accepted made.cost

-- of blocked: the checker refuses it with 19, step 0
pub record Halted (reserve : ℕ) (cluster plan : List ℕ) (made : Made) : Type 0 where
  pub written : Written (room_at reserve cluster) plan made
  pub refused : verdict_of reserve cluster plan ≡ Verdict.Refused Fault.OffTarget

-- ---- the promises

-- none of the faults 23 and 1 to 10
pub record Taken (reserve : ℕ) (cluster buffer : List ℕ) : Type 0 where
  pub taken : AcceptedCluster reserve cluster
  pub buffer-long : least_buffer ≤ length buffer

-- a field each, on any reserve, any cluster record and any buffer, and the number returned. What a node has is, in all of them and in the records
-- above, what is usable of it at the reserve (02, Job 5)
pub record Built (reserve : ℕ) (cluster before after : List ℕ) (r : ℕ) : Type 0 where
  -- it is the answer's, and tells it
  pub is : r ≡ packed_answer (answer_of reserve cluster (length before))
  pub told : TellsAnswer r (answer_of reserve cluster (length before))
  -- every byte of the buffer is as defined
  pub buffer : after ≡ buffer_of (answer_of reserve cluster (length before)) (plan_bytes (steps_for (room_at reserve cluster))) before
  -- 23 exactly if more than 90 percent are to be kept, whatever is lent
  pub reserved : SaysRefused r 23 0 ↔ (most_reserve < reserve)
  -- a plan or blocked, exactly if there is none of the faults 23 and 1 to 10
  pub answers : Taken reserve cluster before ↔ (SaysGood r ⊎ SaysBlocked r)
  -- of a plan, and of blocked: the record at the buffer's front, with the counts and the cost told
  pub planned : SaysGood r → Planned reserve cluster (front_of after) (told_made r)
  pub halted : SaysBlocked r → Halted reserve cluster (front_of after) (told_made r)
  -- with none of the faults 23 and 1 to 10: blocked exactly if the planner is stuck at the placement that the steps reach
  pub blocked : Taken reserve cluster before → SaysBlocked r ↔ Stuck (room_at reserve cluster) (after_all (current_of (room_at reserve cluster)) (steps_of (front_of after)))
  -- sound, wherever Picks and Stuck say it, is sound in every order
  pub sound : (places : Placement) (step : Step) → (sound_step (room_at reserve cluster) places step ≡ true) ↔ SoundInOrders (room_at reserve cluster) places step
