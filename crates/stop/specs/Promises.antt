-- What `stop` promises of its answer and of the buffer, over every stop (02, Job 1).
use Rattle.std.specs.Prelude.{ℕ, ◌-◌, ◌<◌, ◌≤◌, Bool, true, false, ◌&&◌, List, ◌↔◌, ◌⊎◌, ◌≡◌, length, get_or, take, eqb}
use Rattle.records.specs.Bytes.{byte_at}
use Rattle.records.specs.Room.{Room, node_of, at_places, vm_count, current_at, room_of, room_at}
use Rattle.records.specs.Plan.{Step, move_of, steps_of}
use Rattle.rules.specs.Moments.{Placement, place_of, current_of, target_of, staying, waiting, running, ended, Cell, cell, Moment, number_of, tally_at, first_moment, at_rest, settled}
use Rattle.rules.specs.Orders.{Order, done, next, Run, some, mates, stands_on, Apart, EachMoment}
use Rattle.rules.specs.Verdict.{verdict_of, packed}
use Rattle.rules.specs.Returned.{told_number, told_step, SaysGood, SaysRefused}
use Rattle.rules.specs.Promises.{AcceptedCluster, Accepts}
use Rattle.rules.specs.declared.faults.Fault.{Fault}
use Rattle.rules.specs.declared.faults.Verdict.{Verdict}
use Rattle.stop.specs.Stops.{numbered, stopped_at, stopped_record, stop_of, buffer_of, stop_number, stop_step, packed_stop, told_length}
use Rattle.stop.specs.declared.outcome.Outcome.{Outcome}
use Rattle.stop.specs.declared.outcome.Outcome.TheVariants.{Done, Refused}

-- ---- a stop

-- a move waits, or has ended: in a cell, and of VM v at a moment
unfoldable pub is_waiting : Cell → Bool
is_waiting (cell v place staying) = false
is_waiting (cell v place (waiting to)) = true
is_waiting (cell v place (running to)) = false
is_waiting (cell v place (ended to)) = false

unfoldable pub has_ended : Cell → Bool
has_ended (cell v place staying) = false
has_ended (cell v place (waiting to)) = false
has_ended (cell v place (running to)) = false
has_ended (cell v place (ended to)) = true

unfoldable pub waits_at : Moment → ℕ → Bool
waits_at cs v = some (λ c. eqb (number_of c) v && is_waiting c) cs

unfoldable pub ended_at : Moment → ℕ → Bool
ended_at cs v = some (λ c. eqb (number_of c) v && has_ended c) cs

-- marks that can come from a stop at a moment: 1 of each move that has ended, 0 of each that waits; of a move that runs either, as it may
-- still arrive or be taken back
pub record Agree (cs : Moment) (step : Step) (marks : List ℕ) : Type 0 where
  pub ended-marked : (i : ℕ) → i < length step → ended_at cs (move_of step i).vm ≡ true → get_or marks i 0 ≡ 1
  pub waiting-unmarked : (i : ℕ) → i < length step → waits_at cs (move_of step i).vm ≡ true → get_or marks i 0 ≡ 0

-- P holds at each stop in step n from which the marks can come: for every run of the steps before it, every order of the step, each moment of
-- that order with which the marks agree
abbrev pub EachStop : Room → List Step → ℕ → List ℕ → (Moment → Type 0) → Type 0
EachStop room steps n marks P =
    (start : Placement) → Run room (current_of room) (take (n - 1) steps) start →
    (end : Moment) (order : Order (first_moment room start (numbered steps n)) end) → settled end ≡ true →
    EachMoment (λ cs. Agree cs (numbered steps n) marks → P cs) order

-- some moment of an order has Q
abbrev pub SomeMoment : (Q : Moment → Type 0) {cs ds : Moment} → Order cs ds → Type 0
SomeMoment Q (done {cs = cs}) = Q cs
SomeMoment Q (next {cs = cs} e o) = Q cs ⊎ SomeMoment Q o

-- a stop in step n from which the marks can come
pub record SomeStop (room : Room) (steps : List Step) (n : ℕ) (marks : List ℕ) : Type 0 where
  pub start : Placement
  pub run : Run room (current_of room) (take (n - 1) steps) start
  pub end : Moment
  pub order : Order (first_moment room start (numbered steps n)) end
  pub whole : settled end ≡ true
  pub moment : SomeMoment (λ cs. Agree cs (numbered steps n) marks) order

-- ---- the record written

-- all VMs at rest where a room has them
abbrev pub as_placed : Room → Moment
as_placed room = at_rest room (current_of room)

-- what holds of the bytes that a stop in step n of an accepted plan writes. `room` is the room of the cluster record, `left` that of these bytes,
-- both at the reserve
pub record StoppedWell (reserve : ℕ) (cluster plan : List ℕ) (n : ℕ) (marks bytes : List ℕ) (room left : Room) : Type 0 where
  -- they are the cluster record brought up to date: as an equation of bytes, with no other byte touched; and of the rooms
  pub is : bytes ≡ stopped_record cluster plan n marks
  pub long : length bytes ≡ length cluster
  pub others : (i : ℕ) → ((v : ℕ) → v < vm_count cluster → i ≡ current_at cluster v → ⊥) → byte_at bytes i ≡ byte_at cluster i
  pub stands-for : room_of bytes ≡ at_places (stopped_at (room_of cluster) (steps_of plan) n marks) (room_of cluster)
  pub places : current_of left ≡ stopped_at room (steps_of plan) n marks
  -- they say where the VMs are: at each stop every VM counts, at that moment, on the place that the record has for it
  pub there : EachStop room (steps_of plan) n marks (λ cs. (v : ℕ) → v < length room.vms → stands_on cs v (place_of (current_of left) v) ≡ true)
  -- at each stop: a node within its memory (CPU) before the plan is within it in the record written
  pub memory : (d : ℕ) → d < length room.nodes → (tally_at room d (as_placed room)).memory ≤ (node_of room d).memory →
      EachStop room (steps_of plan) n marks (λ cs. (tally_at left d (as_placed left)).memory ≤ (node_of left d).memory)
  pub cpu : (d : ℕ) → d < length room.nodes → (tally_at room d (as_placed room)).cpu ≤ (node_of room d).cpu →
      EachStop room (steps_of plan) n marks (λ cs. (tally_at left d (as_placed left)).cpu ≤ (node_of left d).cpu)
  -- mates that are apart before the plan are apart in it
  pub apart : (v w : ℕ) → mates room v w ≡ true → Apart v w (as_placed room) → EachStop room (steps_of plan) n marks (λ cs. Apart v w (as_placed left))
  -- a VM that is on a node and is wanted on one is still on one (02, Job 2)
  pub running : (v : ℕ) → v < length room.vms → place_of (current_of room) v < length room.nodes → place_of (target_of room) v < length room.nodes →
      EachStop room (steps_of plan) n marks (λ cs. place_of (current_of left) v < length room.nodes)
  -- there is such a stop, whatever the marks are: so what is said above of the record alone holds for any marks (`Laws.Stopping.any-marks`)
  pub some-stop : SomeStop room (steps_of plan) n marks
  -- it is an accepted cluster at the same reserve, which is what `build` asks
  pub again : AcceptedCluster reserve bytes

-- ---- the refusals

-- the step is one of the plan's, counted from 1, and has as many moves as there are marks
pub record StepMarked (steps : List Step) (n : ℕ) (marks : List ℕ) : Type 0 where
  pub first : 1 ≤ n
  pub last : n ≤ length steps
  pub each : length marks ≡ length (numbered steps n)

-- every mark is 0 or 1
abbrev pub MarksKnown : List ℕ → Type 0
MarksKnown marks = (i : ℕ) → i < length marks → get_or marks i 0 ≤ 1

-- a number tells an outcome: taken apart it says good and the length, or refused with the documents' number and step; what does not apply reads 0
abbrev pub TellsStop : ℕ → Outcome → Type 0
TellsStop r (Done size) = SaysGood r × (told_length r ≡ size) × (told_number r ≡ 0) × (told_step r ≡ 0)
TellsStop r (Refused fault) = SaysRefused r (stop_number fault) (stop_step fault) × (told_length r ≡ 0)

-- an outcome is the one defined, and the buffer the one that goes with it
pub record Stops (reserve : ℕ) (cluster plan : List ℕ) (n : ℕ) (marks before after : List ℕ) (r : Outcome) : Type 0 where
  pub is : r ≡ stop_of reserve cluster plan n marks (length before)
  pub buffer : after ≡ buffer_of r (stopped_record cluster plan n marks) before

-- ---- the promises

-- a field each, on any reserve, step and bytes, and the number returned. What a node has is, in all of them and above, what is usable of it at
-- the reserve
pub record Stopped (reserve : ℕ) (cluster plan : List ℕ) (n : ℕ) (marks before after : List ℕ) (r : ℕ) : Type 0 where
  -- it is the outcome's, and tells it
  pub is : r ≡ packed_stop (stop_of reserve cluster plan n marks (length before))
  pub told : TellsStop r (stop_of reserve cluster plan n marks (length before))
  -- every byte of the buffer is as defined
  pub buffer : after ≡ buffer_of (stop_of reserve cluster plan n marks (length before)) (stopped_record cluster plan n marks) before
  -- what the checker refuses is refused with the very number that `check` returns
  pub checked : (fault : Fault) → verdict_of reserve cluster plan ≡ Verdict.Refused fault → r ≡ packed (verdict_of reserve cluster plan)
  -- of an accepted plan: 20, 21 and 22 in this order, else it is done
  pub no_step : SaysRefused r 20 0 ↔ (Accepts reserve cluster plan × (StepMarked (steps_of plan) n marks → ⊥))
  pub bad-mark : SaysRefused r 21 0 ↔
      (Accepts reserve cluster plan × StepMarked (steps_of plan) n marks × (i : ℕ) × (i < length marks) × (1 < get_or marks i 0))
  pub short : SaysRefused r 22 0 ↔
      (Accepts reserve cluster plan × StepMarked (steps_of plan) n marks × MarksKnown marks × (length before < length cluster))
  pub stopped : SaysGood r ↔
      (Accepts reserve cluster plan × StepMarked (steps_of plan) n marks × MarksKnown marks × (length cluster ≤ length before))
  -- the record at the buffer's front, as long as told
  pub written : SaysGood r → StoppedWell reserve cluster plan n marks (take (told_length r) after) (room_at reserve cluster) (room_at reserve (take (told_length r) after))
