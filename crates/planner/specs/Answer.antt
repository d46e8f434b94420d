-- The planner's answer: a plan, or blocked, with what it wrote; or a refusal (01, "The planner" and refusals 1 to 10; 02, Job 5).
use Rattle.std.specs.Prelude.{ℕ, ◌+◌, ◌*◌, ◌^◌, List, ◌++◌, length, drop, ltb, Result, Ok, Err}
use Rattle.records.specs.Base.{pick}
use Rattle.records.specs.Room.{Room, most_reserve, room_at, cluster_check, cluster_number}
use Rattle.records.specs.Plan.{Step, move_total}
use Rattle.rules.specs.Moments.{current_of}
use Rattle.rules.specs.Rules.{target_check}
use Rattle.rules.specs.Cost.{cost_of}
use Rattle.rules.specs.Verdict.{home, target_number}
use Rattle.rules.specs.Promises.{after_all}
use Rattle.planner.specs.Picks.{picked}
use Rattle.planner.specs.declared.answer.Made.{Made}
use Rattle.planner.specs.declared.answer.BuildFault.{BuildFault}
use Rattle.planner.specs.declared.answer.BuildFault.TheVariants.{Reserve, Cluster, Target, Buffer}
use Rattle.planner.specs.declared.answer.Answer.{Answer}
use Rattle.planner.specs.declared.answer.Answer.TheVariants.{Plan, Blocked, Refused}

-- the steps for a room, from its current placement
unfoldable pub steps_for : Room → List Step
steps_for room = picked room (current_of room)

-- their counts and their cost
unfoldable pub made_of : Room → List Step → Made
made_of room steps = record { steps = length steps; moves = move_total steps; cost = cost_of room steps }

-- nobody out of place after the last step: a plan; else blocked
unfoldable pub outcome : Room → List Step → Answer
outcome room steps = pick (home room (after_all (current_of room) steps)) (Plan (made_of room steps)) (Blocked (made_of room steps))

-- the least buffer that is taken: 7 + 511 × 5 bytes, as never more than 511 steps and 511 moves are written (`Promises.Written`: `small`)
abbrev pub least_buffer : ℕ
least_buffer = 2562

-- what each check says, and what follows if it finds nothing
unfoldable pub answer_reserve : ℕ → Answer → Answer
answer_reserve reserve rest = pick (ltb most_reserve reserve) (Refused Reserve) rest

unfoldable pub answer_check : {E : Type 0} → (E → BuildFault) → Result (Unit {0}) E → Answer → Answer
answer_check kind (Ok done) rest = rest
answer_check kind (Err fault) rest = Refused (kind fault)

-- the answer to a cluster record at a reserve, and a buffer of a given size: 23, 1 to 7, 8 and 9, 10, then the outcome
unfoldable pub answer_of : ℕ → List ℕ → ℕ → Answer
answer_of reserve cluster size =
    answer_reserve reserve
    (answer_check Cluster (cluster_check cluster)
    (answer_check Target (target_check (room_at reserve cluster))
    (pick (ltb size least_buffer) (Refused Buffer)
    (outcome (room_at reserve cluster) (steps_for (room_at reserve cluster))))))

-- what is then in the buffer: on a refusal what was there; else the record of the steps at its front, and behind it what was there
unfoldable pub buffer_of : Answer → List ℕ → List ℕ → List ℕ
buffer_of (Refused fault) plan buffer = buffer
buffer_of (Plan made) plan buffer = plan ++ drop (length plan) buffer
buffer_of (Blocked made) plan buffer = plan ++ drop (length plan) buffer

-- the documents' number of each refusal; its step is 0
abbrev pub build_number : BuildFault → ℕ
build_number Reserve = 23
build_number (Cluster fault) = cluster_number fault
build_number (Target fault) = target_number fault
build_number Buffer = 10

-- steps, moves and cost side by side: from bit 53 on, from bit 44 on, below
abbrev pub packed_made : Made → ℕ
packed_made made = made.steps * 2 ^ 53 + made.moves * 2 ^ 44 + made.cost

-- an answer as one number: of a plan these; of blocked bit 62 beside them; of a refusal bit 63, and its number from bit 16 on
abbrev pub packed_answer : Answer → ℕ
packed_answer (Plan made) = packed_made made
packed_answer (Blocked made) = 2 ^ 62 + packed_made made
packed_answer (Refused fault) = 2 ^ 63 + build_number fault * 2 ^ 16
