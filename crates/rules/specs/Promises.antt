-- What `check` promises of its verdict, over every order and every whole run (the demands on checking, and 01, "When a step is sound").
use Rattle.std.specs.Prelude.{ℕ, suc, ◌<◌, ◌≤◌, ◌^◌, Bool, true, false, ◌&&◌, List, [], ◌∷◌, map, ◌↔◌, ◌⊎◌, ◌≡◌, length, get_or, take, Ok}
use Rattle.records.specs.Bytes.{version_of}
use Rattle.records.specs.Room.{Room, node_of, vm_of, nowhere, most_reserve, room_at, cluster_check}
use Rattle.records.specs.Plan.{Move, Step, with_sources, move_of, steps_of, most_steps, plan_check, header_bytes, record_bytes, kept_version}
use Rattle.records.specs.declared.plan.Source.{Source}
use Rattle.records.specs.declared.plan.Source.TheVariants.{Named}
use Rattle.rules.specs.Moments.{Placement, place_of, current_of, target_of, after, Moment, tally_at, first_moment, at_rest, settled}
use Rattle.rules.specs.Orders.{Order, Run, fits, mates, meets_mate, stands_on, Apart, MayBegin, EachBegin, SomeBegin, EachBeginOfRun, EachStepOfRun, EachMomentOfRun, EachChangeOfRun, runs_at, rests_on}
use Rattle.rules.specs.Rules.{allowed, target_check, named, sourced, permitted, in_turn, waits_for, sound_step}
use Rattle.rules.specs.Cost.{cost_of}
use Rattle.rules.specs.Verdict.{home, verdict_of, fault_number, fault_step, packed}
use Rattle.rules.specs.Returned.{told_number, told_step, told_cost, SaysGood, SaysRefused}
use Rattle.rules.specs.Divides.{Divides}
use Rattle.rules.specs.declared.faults.Verdict.{Verdict}

-- the placement behind the last of the steps
unfoldable pub after_all : Placement → List Step → Placement
after_all places [] = places
after_all places (step ∷ steps) = after_all (after places step) steps

-- no step has fault 15, each at the placement it starts from
unfoldable pub named_all : Room → Placement → List Step → Bool
named_all room places [] = true
named_all room places (step ∷ steps) = named room places 0 step && named_all room (after places step) steps

-- no step has fault 27, each at the placement it starts from
unfoldable pub sourced_all : Placement → List Step → Bool
sourced_all places [] = true
sourced_all places (step ∷ steps) = sourced places step && sourced_all (after places step) steps

-- every step is sound, each at the placement it starts from
unfoldable pub sound_all : Room → Placement → List Step → Bool
sound_all room places [] = true
sound_all room places (step ∷ steps) = sound_step room places step && sound_all room (after places step) steps

-- an accepted cluster, at a reserve: none of the faults 23 and 1 to 9 (01, "The planner"; 02, Job 5)
pub record AcceptedCluster (reserve : ℕ) (cluster : List ℕ) : Type 0 where
  pub reserve-taken : reserve ≤ most_reserve
  pub cluster-whole : cluster_check cluster ≡ Ok tt
  pub target-good : target_check (room_at reserve cluster) ≡ Ok tt

-- none of the faults 23, 1 to 9 and 11 to 14
pub record Shaped (reserve : ℕ) (cluster plan : List ℕ) : Type 0 where
  pub taken : AcceptedCluster reserve cluster
  pub plan-whole : plan_check plan ≡ Ok tt

-- what the rules ask of a begin: it fits, meets no mate, and its destination is allowed
pub record Obeys (room : Room) (cs : Moment) (v d : ℕ) : Type 0 where
  pub may : MayBegin room cs v d
  pub permitted : allowed room v d ≡ true

-- in a run, nobody moves before its turn: asked of each step, at the placement from which the run starts it (02, Job 13)
abbrev pub InTurn : (room : Room) {places last : Placement} {steps : List Step} → Run room places steps last → Type 0
InTurn room run = EachStepOfRun (λ start step. in_turn room start step ≡ true) run

-- every whole run of the steps, whatever its orders, obeys the rules at each begin, moves nobody before its turn, and ends with every VM on its
-- target
pub record EveryRun (room : Room) (places : Placement) (steps : List Step) : Type 0 where
  pub obeys : (last : Placement) (run : Run room places steps last) → EachBeginOfRun (Obeys room) run
  pub in-turn : (last : Placement) (run : Run room places steps last) → InTurn room run
  pub ends : (last : Placement) → Run room places steps last → home room last ≡ true

-- a step is sound over orders: no fault 15, each begin of each of its orders obeys the rules, and nobody moves before its turn
pub record SoundInOrders (room : Room) (places : Placement) (step : Step) : Type 0 where
  pub well-named : named room places 0 step ≡ true
  pub obeys : (end : Moment) (order : Order (first_moment room places step) end) → settled end ≡ true → EachBegin (Obeys room) order
  pub in-turn : in_turn room places step ≡ true

-- some order of a step has a begin with P
pub record SomeOrder (room : Room) (places : Placement) (step : Step) (P : Moment → ℕ → ℕ → Type 0) : Type 0 where
  pub end : Moment
  pub order : Order (first_moment room places step) end
  pub whole : settled end ≡ true
  pub begin : SomeBegin P order

-- ---- what the numbers 15 to 19, 27 and 33 mean

-- 15: a VM is not there or not above the one before it, or a destination is not one that it can be sent to, or is its place
pub record FaultNames (room : Room) (places : Placement) (step : Step) : Type 0 where
  pub misnamed : named room places 0 step ≡ false

-- 27: not 15, and some move names a place that its VM is not at
abbrev pub NamesElsewhere : Placement → Step → Type 0
NamesElsewhere places step = (i : ℕ) × (i < length step) × (source : ℕ) × ((move_of step i).source ≡ Named source) × (source ≡ place_of places (move_of step i).vm → ⊥)

pub record FaultSource (room : Room) (places : Placement) (step : Step) : Type 0 where
  pub well-named : named room places 0 step ≡ true
  pub elsewhere : NamesElsewhere places step

-- 16: neither 15 nor 27, and some destination is banned or outside a fence
pub record FaultDestination (room : Room) (places : Placement) (step : Step) : Type 0 where
  pub well-named : named room places 0 step ≡ true
  pub well-sourced : sourced places step ≡ true
  pub forbidden : permitted room step ≡ false

-- 17: none of 15, 27 and 16, and some order has a begin without room
pub record FaultFit (room : Room) (places : Placement) (step : Step) : Type 0 where
  pub well-named : named room places 0 step ≡ true
  pub well-sourced : sourced places step ≡ true
  pub permitted : permitted room step ≡ true
  pub misfit : SomeOrder room places step (λ cs v d. fits room cs v d ≡ false)

-- 18: none of 15, 27 and 16, no order has a begin without room, and some order has a begin beside a mate
pub record FaultMate (room : Room) (places : Placement) (step : Step) : Type 0 where
  pub well-named : named room places 0 step ≡ true
  pub well-sourced : sourced places step ≡ true
  pub permitted : permitted room step ≡ true
  pub fit : SomeOrder room places step (λ cs v d. fits room cs v d ≡ false) → ⊥
  pub mate : SomeOrder room places step (λ cs v d. meets_mate room cs v d ≡ true)

-- 33: none of 15, 27 and 16, no order has a begin without room or one beside a mate, and the step moves somebody before its turn
pub record FaultTurn (room : Room) (places : Placement) (step : Step) : Type 0 where
  pub well-named : named room places 0 step ≡ true
  pub well-sourced : sourced places step ≡ true
  pub permitted : permitted room step ≡ true
  pub fit : SomeOrder room places step (λ cs v d. fits room cs v d ≡ false) → ⊥
  pub apart : SomeOrder room places step (λ cs v d. meets_mate room cs v d ≡ true) → ⊥
  pub early : in_turn room places step ≡ false

-- step n, counted from 0, is the first at fault, and P is its fault: the steps before it are sound and name no wrong source, and P holds of
-- it at the placement from which it starts in every run
pub record FirstAtFault (room : Room) (places : Placement) (steps : List Step) (n : ℕ) (P : Placement → Step → Type 0) : Type 0 where
  pub there : n < length steps
  pub earlier : sound_all room places (take n steps) ≡ true
  pub earlier-sourced : sourced_all places (take n steps) ≡ true
  pub fault : (start : Placement) → Run room places (take n steps) start → P start (get_or steps n [])

-- 19: no step is at fault, every run obeys the rules at each begin and moves nobody before its turn, and every run ends with some VM off its
-- target
pub record EndsAway (room : Room) (places : Placement) (steps : List Step) : Type 0 where
  pub sound : sound_all room places steps ≡ true
  pub well-sourced : sourced_all places steps ≡ true
  pub obeys : (last : Placement) (run : Run room places steps last) → EachBeginOfRun (Obeys room) run
  pub in-turn : (last : Placement) (run : Run room places steps last) → InTurn room run
  pub away : (last : Placement) → Run room places steps last →
      (v : ℕ) × (v < length room.vms) × (place_of last v ≡ place_of (target_of room) v → ⊥)

-- ---- what holds of the sources that are named

-- the operators' point, in every run. Each move of each step names a source, and it is the very place of its VM when the step starts
pub record NamesPlaces (room : Room) (places : Placement) (steps : List Step) : Type 0 where
  pub each : (n i : ℕ) → n < length steps → i < length (get_or steps n []) → (start : Placement) → Run room places (take n steps) start →
      (move_of (get_or steps n []) i).source ≡ Named (place_of start (move_of (get_or steps n []) i).vm)

-- nothing else looks at a source: whichever the moves name, a step starts the same, so that it has the same orders, leaves the same placement,
-- is as well named (15) and as sound; the steps have the same runs, and cost the same
pub record SourcesUnread (room : Room) : Type 0 where
  pub moments : (names : Move → Source) (places : Placement) (step : Step) → first_moment room places (with_sources names step) ≡ first_moment room places step
  pub left : (names : Move → Source) (places : Placement) (step : Step) → after places (with_sources names step) ≡ after places step
  pub well-named : (names : Move → Source) (places : Placement) (step : Step) → named room places 0 (with_sources names step) ≡ named room places 0 step
  pub sound : (names : Move → Source) (places : Placement) (step : Step) → sound_step room places (with_sources names step) ≡ sound_step room places step
  pub runs : (names : Move → Source) (places last : Placement) (steps : List Step) → Run room places (map (with_sources names) steps) last ↔ Run room places steps last
  pub cost : (names : Move → Source) (steps : List Step) → cost_of room (map (with_sources names) steps) ≡ cost_of room steps

-- ---- what holds at every moment of every run

-- the auditor's first question, in every run, of each node of the room.
-- Memory: from one moment to the next a node that is within its memory stays within, so one that starts within is within at every moment; and
-- one that is over its memory takes nobody.
-- CPU: a node that is within its CPU stays within likewise; one that is over its CPU takes only idle VMs, and from one moment to the next its
-- CPU sum is not raised while it is over (02, Job 3)
pub record StaysWithin (room : Room) (places : Placement) (steps : List Step) : Type 0 where
  pub memory : (last : Placement) (run : Run room places steps last) (d : ℕ) → d < length room.nodes →
      (tally_at room d (at_rest room places)).memory ≤ (node_of room d).memory →
      EachMomentOfRun (λ cs. (tally_at room d cs).memory ≤ (node_of room d).memory) run
  pub memory-stays : (last : Placement) (run : Run room places steps last) (d : ℕ) → d < length room.nodes →
      EachChangeOfRun (λ cs ds. (tally_at room d cs).memory ≤ (node_of room d).memory → (tally_at room d ds).memory ≤ (node_of room d).memory) run
  pub memory-over : (last : Placement) (run : Run room places steps last) →
      EachBeginOfRun (λ cs v d. d < length room.nodes → (node_of room d).memory < (tally_at room d cs).memory → ⊥) run
  pub cpu : (last : Placement) (run : Run room places steps last) (d : ℕ) → d < length room.nodes →
      (tally_at room d (at_rest room places)).cpu ≤ (node_of room d).cpu →
      EachMomentOfRun (λ cs. (tally_at room d cs).cpu ≤ (node_of room d).cpu) run
  pub cpu-stays : (last : Placement) (run : Run room places steps last) (d : ℕ) → d < length room.nodes →
      EachChangeOfRun (λ cs ds. (tally_at room d cs).cpu ≤ (node_of room d).cpu → (tally_at room d ds).cpu ≤ (node_of room d).cpu) run
  pub cpu-over : (last : Placement) (run : Run room places steps last) →
      EachBeginOfRun (λ cs v d. d < length room.nodes → (node_of room d).cpu < (tally_at room d cs).cpu → (vm_of room v).cpu ≡ 0) run
  pub cpu-unraised : (last : Placement) (run : Run room places steps last) (d : ℕ) → d < length room.nodes →
      EachChangeOfRun (λ cs ds. (node_of room d).cpu < (tally_at room d cs).cpu → (tally_at room d ds).cpu ≤ (tally_at room d cs).cpu) run
  -- nobody begins but where it fits
  pub arrivals : (last : Placement) (run : Run room places steps last) → EachBeginOfRun (λ cs v d. fits room cs v d ≡ true) run

-- spreads, in every run. From one moment to the next two mates that share no node never come to share one, a running VM counting on both of
-- its nodes; so mates that are apart at the start are apart at every moment
pub record StaysApart (room : Room) (places : Placement) (steps : List Step) : Type 0 where
  pub stays : (last : Placement) (run : Run room places steps last) (v w : ℕ) → mates room v w ≡ true →
      EachChangeOfRun (λ cs ds. Apart v w cs → Apart v w ds) run
  pub apart : (last : Placement) (run : Run room places steps last) (v w : ℕ) → mates room v w ≡ true →
      Apart v w (at_rest room places) → EachMomentOfRun (Apart v w) run

-- VMs that are to go on, in every run (02, Job 2). From one moment to the next a VM that is wanted on a node and counts on a node of the room
-- still counts on one: once it is up it is never down again. So one that starts on a node counts on one at every moment
pub record KeepsRunning (room : Room) (places : Placement) (steps : List Step) : Type 0 where
  pub stays : (last : Placement) (run : Run room places steps last) (v : ℕ) → place_of (target_of room) v < length room.nodes →
      EachChangeOfRun (λ cs ds. (d : ℕ) × (d < length room.nodes) × (stands_on cs v d ≡ true) →
      (d : ℕ) × (d < length room.nodes) × (stands_on ds v d ≡ true)) run
  pub on : (last : Placement) (run : Run room places steps last) (v : ℕ) → v < length room.vms →
      place_of places v < length room.nodes → place_of (target_of room) v < length room.nodes →
      EachMomentOfRun (λ cs. (d : ℕ) × (d < length room.nodes) × (stands_on cs v d ≡ true)) run

-- the operator's point on VMs that come before others, in every run (02, Job 13). At each begin of a VM, and at each moment while its move is under
-- way, every VM that it waits for is at rest on its target: it has arrived, and has no move in the step
pub record WaitsItsTurn (room : Room) (places : Placement) (steps : List Step) : Type 0 where
  pub begins : (last : Placement) (run : Run room places steps last) (first second : ℕ) → waits_for room second first ≡ true →
      EachBeginOfRun (λ cs v d. v ≡ second → rests_on cs first (place_of (target_of room) first) ≡ true) run
  pub runs : (last : Placement) (run : Run room places steps last) (first second : ℕ) → waits_for room second first ≡ true →
      EachMomentOfRun (λ cs. runs_at cs second ≡ true → rests_on cs first (place_of (target_of room) first) ≡ true) run

-- version 1 of the cluster record knows no `nowhere` (02, Job 2). Every VM is on a node and is wanted on one, and a step that sends one to no
-- node has fault 15 at any placement
pub record NothingDown (room : Room) : Type 0 where
  pub currents : (v : ℕ) → v < length room.vms → place_of (current_of room) v < length room.nodes
  pub targets : (v : ℕ) → v < length room.vms → place_of (target_of room) v < length room.nodes
  pub no-shutdown : (places : Placement) (step : Step) (i : ℕ) → i < length step → (move_of step i).to ≡ nowhere → named room places 0 step ≡ false

-- ---- what holds of an accepted plan, divided

-- steps that the steps of an accepted plan are divided into (02, Job 9): their record in the plan's version is accepted, as is every undamaged record that
-- stands for them, and they cost no less than the plan
pub record AcceptedDivided (reserve : ℕ) (cluster plan : List ℕ) (divided : List Step) : Type 0 where
  pub stands-for : steps_of (record_bytes (kept_version plan) divided) ≡ divided
  pub accepted : verdict_of reserve cluster (record_bytes (kept_version plan) divided) ≡ Verdict.Accepted (cost_of (room_at reserve cluster) divided)
  pub any-record : (other : List ℕ) → plan_check other ≡ Ok tt → steps_of other ≡ divided →
      verdict_of reserve cluster other ≡ Verdict.Accepted (cost_of (room_at reserve cluster) divided)
  pub no-cheaper : cost_of (room_at reserve cluster) (steps_of plan) ≤ cost_of (room_at reserve cluster) divided

-- ---- the promises

-- the checker accepts a plan
abbrev pub Accepts : ℕ → List ℕ → List ℕ → Type 0
Accepts reserve cluster plan = (cost : ℕ) × (verdict_of reserve cluster plan ≡ Verdict.Accepted cost)

-- a number tells a verdict: taken apart it says accepted and the cost, or refused with the documents' number and step; what does not apply reads 0
abbrev pub TellsVerdict : ℕ → Verdict → Type 0
TellsVerdict r (Verdict.Accepted cost) = SaysGood r × (told_cost r ≡ cost) × (told_number r ≡ 0) × (told_step r ≡ 0)
TellsVerdict r (Verdict.Refused fault) = SaysRefused r (fault_number fault) (fault_step fault) × (told_cost r ≡ 0)

-- a field each, on any reserve, any two byte strings and the number returned. What a node has is, in all of them, what is usable of it at the
-- reserve (02, Job 5)
pub record Checked (reserve : ℕ) (cluster plan : List ℕ) (r : ℕ) : Type 0 where
  -- it is the verdict's, and tells it
  pub is : r ≡ packed (verdict_of reserve cluster plan)
  pub told : TellsVerdict r (verdict_of reserve cluster plan)
  -- 23 exactly if more than 90 percent are to be kept, whatever the records are
  pub reserved : SaysRefused r 23 0 ↔ (most_reserve < reserve)
  -- with none of the faults 23, 1 to 9, 11 to 15 and 27: accepted exactly if every run obeys the rules, moves nobody before its turn and ends on
  -- the target
  pub exact : Shaped reserve cluster plan → named_all (room_at reserve cluster) (current_of (room_at reserve cluster)) (steps_of plan) ≡ true →
      sourced_all (current_of (room_at reserve cluster)) (steps_of plan) ≡ true →
      SaysGood r ↔ EveryRun (room_at reserve cluster) (current_of (room_at reserve cluster)) (steps_of plan)
  -- and nothing else is accepted
  pub only : SaysGood r → Shaped reserve cluster plan × (named_all (room_at reserve cluster) (current_of (room_at reserve cluster)) (steps_of plan) ≡ true) ×
      (sourced_all (current_of (room_at reserve cluster)) (steps_of plan) ≡ true)
  -- 15 to 19, 27 and 33 mean what they say
  pub misnamed : (n : ℕ) → SaysRefused r 15 (suc n) ↔
      (Shaped reserve cluster plan × FirstAtFault (room_at reserve cluster) (current_of (room_at reserve cluster)) (steps_of plan) n (FaultNames (room_at reserve cluster)))
  pub elsewhere : (n : ℕ) → SaysRefused r 27 (suc n) ↔
      (Shaped reserve cluster plan × FirstAtFault (room_at reserve cluster) (current_of (room_at reserve cluster)) (steps_of plan) n (FaultSource (room_at reserve cluster)))
  pub forbidden : (n : ℕ) → SaysRefused r 16 (suc n) ↔
      (Shaped reserve cluster plan × FirstAtFault (room_at reserve cluster) (current_of (room_at reserve cluster)) (steps_of plan) n (FaultDestination (room_at reserve cluster)))
  pub misfit : (n : ℕ) → SaysRefused r 17 (suc n) ↔
      (Shaped reserve cluster plan × FirstAtFault (room_at reserve cluster) (current_of (room_at reserve cluster)) (steps_of plan) n (FaultFit (room_at reserve cluster)))
  pub mate : (n : ℕ) → SaysRefused r 18 (suc n) ↔
      (Shaped reserve cluster plan × FirstAtFault (room_at reserve cluster) (current_of (room_at reserve cluster)) (steps_of plan) n (FaultMate (room_at reserve cluster)))
  pub early : (n : ℕ) → SaysRefused r 33 (suc n) ↔
      (Shaped reserve cluster plan × FirstAtFault (room_at reserve cluster) (current_of (room_at reserve cluster)) (steps_of plan) n (FaultTurn (room_at reserve cluster)))
  pub off-target : SaysRefused r 19 0 ↔ (Shaped reserve cluster plan × EndsAway (room_at reserve cluster) (current_of (room_at reserve cluster)) (steps_of plan))
  -- an accepted plan costs what Entropy estimates, which is below 2 to the 43
  pub cost : SaysGood r → told_cost r ≡ cost_of (room_at reserve cluster) (steps_of plan)
  pub below : SaysGood r → told_cost r < 2 ^ 43
  -- no run of it takes a node past what it has, or adds CPU to one that is past it, or brings mates together
  pub auditor : SaysGood r → StaysWithin (room_at reserve cluster) (current_of (room_at reserve cluster)) (steps_of plan)
  pub apart : SaysGood r → StaysApart (room_at reserve cluster) (current_of (room_at reserve cluster)) (steps_of plan)
  -- nor takes a VM down that is wanted on a node; in a cluster of version 1 nobody is down or is to be, and a shutdown is 15 (02, Job 2)
  pub running : SaysGood r → KeepsRunning (room_at reserve cluster) (current_of (room_at reserve cluster)) (steps_of plan)
  pub version-1 : cluster_check cluster ≡ Ok tt → version_of cluster ≡ 1 → NothingDown (room_at reserve cluster)
  -- nor moves a VM while one that comes before it is off its target or moves too (02, Job 13)
  pub waits : SaysGood r → WaitsItsTurn (room_at reserve cluster) (current_of (room_at reserve cluster)) (steps_of plan)
  -- an accepted plan of version 2 names for every move the place of its VM when the step starts; nothing but 27 looks at a source; a
  -- plan that is not of version 2 has no step with 27 (02, Job 7)
  pub sources : SaysGood r → version_of plan ≡ 2 → NamesPlaces (room_at reserve cluster) (current_of (room_at reserve cluster)) (steps_of plan)
  pub unread : SourcesUnread (room_at reserve cluster)
  pub unasked : (version_of plan ≡ 2 → ⊥) → (sourced_all (current_of (room_at reserve cluster)) (steps_of plan) ≡ true) × ((n : ℕ) → SaysRefused r 27 n → ⊥)
  -- 0 bytes get the verdict that a header with 0 steps gets, of either version (02, Jobs 7 and 8)
  pub empty : plan ≡ [] → (version : ℕ) → (version ≡ 1) ⊎ (version ≡ 2) → verdict_of reserve cluster plan ≡ verdict_of reserve cluster (header_bytes version 7 0)
  -- however its steps are divided, an accepted plan remains accepted as long as at most 512 steps result, and costs no less (02, Job 9)
  pub divided : SaysGood r → (divided : List Step) → Divides (steps_of plan) divided → length divided ≤ most_steps → AcceptedDivided reserve cluster plan divided
  -- sound, wherever it is said here, is sound in every order
  pub sound : (places : Placement) (step : Step) → (sound_step (room_at reserve cluster) places step ≡ true) ↔ SoundInOrders (room_at reserve cluster) places step
