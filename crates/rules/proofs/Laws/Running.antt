-- Laws on VMs on no node: to no node a move fits and meets nobody at any moment; no step without fault 15 shuts down a VM that is wanted on a node; and on clusters
-- of version 1, where every VM is on a node.
use Prim.Native.Nat.{ℕ, zero, suc, ◌+◌, ◌≤◌, ◌<◌}
use mathlib.Core.Bool.{Bool, true, false, ◌&&◌, ◌||◌, or-true}
use mathlib.Core.List.{List, [], ◌∷◌}
use mathlib.Core.Logic.{by_cases}
use mathlib.Core.Path.{◌≡◌, refl, sym, ap, ◌∙◌}
use native.Mathlib.Decide.{ℕ_discrete}
use native.Mathlib.Omega.{arith}
use lib.ListN.{length}
use lib.Dec.{ltb, eqb}
use borrow.Author.Tests.{ltb-true, eqb-true, eq-eqb}
use Rattle.records.specs.Base.{pick}
use Rattle.records.specs.Bytes.{version_of}
use Rattle.records.specs.Room.{Room, nowhere, on_node, at_reserve, room_of, room_at, cluster_check}
use Rattle.records.specs.Plan.{Step, move_of}
use Rattle.std.specs.Prelude.{Ok}
use Rattle.records.proofs.Laws.Bools.{and_left, and_right}
use Rattle.records.proofs.Laws.Cluster.{nodes-most, nodes-count, vms-count, vm-current-node, vm-target-node}
use Rattle.rules.specs.Moments.{Placement, place_of, current_of, target_of, after, bears_at, Phase, staying, waiting, running, ended, cell, Moment, number_of, counts_on, phase_of, cells_from, first_moment, at_rest, places_left}
use Rattle.rules.specs.Orders.{Act, Event, begins, ends, later, Order, done, next, Run, stop, step, fits, meets_mate, some, stands_on, EachChange, EachChangeOfRun}
use Rattle.rules.specs.Rules.{aims, allowed, named}
use Rattle.rules.specs.Promises.{named_all, Obeys, KeepsRunning, NothingDown}
use Rattle.records.proofs.Laws.Reserve.{nodes-kept}
use Rattle.rules.proofs.Laws.Reserve.{current-same, target-same, named-same}
use Rattle.rules.proofs.Laws.Meet.{is_false}
use Rattle.rules.proofs.Laws.Orders.{named-vm, named-sends, named-rest, after-length, order-leaves}
use Rattle.rules.proofs.Laws.Places.{current-at, target_at}
use Rattle.rules.proofs.Laws.Runs.{first_rest, left-load, kept-moments-run}
use Rattle.rules.proofs.Laws.Spreads.{alone, same-stands}

-- ---- to no node

-- a move to no node obeys the rules at any moment
pub off-obeys : (room : Room) (cs : Moment) (v : ℕ) → Obeys room cs v nowhere
unfolding fits bears_at meets_mate allowed on_node
off-obeys room cs v = record { may = record { fit = refl; apart = refl }; permitted = refl }

-- a VM that is wanted on a node can be sent to nodes only
sent-below : (room : Room) (v d : ℕ) → (place_of (target_of room) v ≡ nowhere → ⊥) → aims room v d ≡ true → d < length room.nodes
unfolding aims
sent-below room v d t e = go (ltb d (length room.nodes)) refl e
  where
    go : (b : Bool) → ltb d (length room.nodes) ≡ b → (b || (eqb d nowhere && eqb (place_of (target_of room) v) nowhere)) ≡ true → d < length room.nodes
    go true q h = ltb-true d (length room.nodes) q
    go false q h = absurd (t (eqb-true (place_of (target_of room) v) nowhere (and_right (eqb d nowhere) (eqb (place_of (target_of room) v) nowhere) h)))

-- ---- what the moves of such a VM keep

-- its move, if it has one, goes to one of n nodes
abbrev Bound : ℕ → Phase → Type 0
Bound n staying = Unit
Bound n (waiting d) = d < n
Bound n (running d) = d < n
Bound n (ended d) = d < n

phase-bound : (room : Room) (places : Placement) (least : ℕ) (moves : Step) (v : ℕ) → (place_of (target_of room) v ≡ nowhere → ⊥) → named room places least moves ≡ true →
    Bound (length room.nodes) (phase_of moves v)
unfolding phase_of
phase-bound room places least [] v t n = tt
phase-bound room places least (move ∷ moves) v t n =
    go (eqb move.vm v) refl (phase-bound room places (suc move.vm) moves v t (named-rest room places least move moves n))
  where
    go : (b : Bool) → eqb move.vm v ≡ b → Bound (length room.nodes) (phase_of moves v) → Bound (length room.nodes) (pick b (waiting move.to) (phase_of moves v))
    go true q h =
        let e = eqb-true move.vm v q in
        sent-below room move.vm move.to (λ x. t (ap (place_of (target_of room)) (sym e) ∙ x)) (named-sends room places least move moves n)
    go false q h = h

-- each cell of VM v is so
abbrev Heads : ℕ → ℕ → Moment → Type 0
Heads n v [] = Unit
Heads n v (cell w p x ∷ cs) = (w ≡ v → Bound n x) × Heads n v cs

heads-first : (n : ℕ) (places : Placement) (moves : Step) (v : ℕ) → Bound n (phase_of moves v) → (k m : ℕ) → Heads n v (cells_from places moves k m)
unfolding cells_from
heads-first n places moves v b k zero = tt
heads-first n places moves v b k (suc m) = (λ e. rw e b, heads-first n places moves v b (suc k) m)

heads-event : (n v : ℕ) {cs ds : Moment} {a : Act} → Event cs a ds → Heads n v cs → Heads n v ds
heads-event n v begins h = (h.0, h.1)
heads-event n v ends h = (h.0, h.1)
heads-event n v (later {c = cell w p x} e) h = (h.0, heads-event n v e h.1)

-- ---- on a node from one moment to the next

-- VM v counts on one of n nodes
abbrev OnSome : ℕ → ℕ → Moment → Type 0
OnSome n v cs = (d : ℕ) × (d < n) × (stands_on cs v d ≡ true)

-- an event leaves it on one: where it counted, or at its end where it has come to
event-on : (n v : ℕ) {cs ds : Moment} {a : Act} → Event cs a ds → Heads n v cs → OnSome n v cs → OnSome n v ds
unfolding stands_on some counts_on
event-on n v (begins {v = w} {place = p} {to = to} {cs = cs}) h s =
    (s.0, s.1, more (eqb w v) (eqb p s.0) (eqb to s.0) (some (λ c. eqb (number_of c) v && counts_on s.0 c) cs) s.2)
  where
    more : (a b c r : Bool) → (a && b || r) ≡ true → (a && (b || c) || r) ≡ true
    more true true c r e = refl
    more true false true r e = refl
    more true false false r e = e
    more false b c r e = e
event-on n v (ends {v = w} {place = p} {to = to} {cs = cs}) h s = go (eqb w v) refl s.2
  where
    go : (a : Bool) → eqb w v ≡ a → (a && (eqb p s.0 || eqb to s.0) || some (λ c. eqb (number_of c) v && counts_on s.0 c) cs) ≡ true →
        OnSome n v (cell w p (ended to) ∷ cs)
    go true q e = (to, h.0 (eqb-true w v q), rw (q, eq-eqb to to refl))
    go false q e = (s.0, s.1, rw (q, e))
event-on n v (later {c = cell w p x} {cs = cs} {ds = ds} e) h s =
    go (eqb w v && counts_on s.0 (cell w p x)) refl s.2 (λ r. event-on n v e h.1 (s.0, s.1, r))
  where
    go : (b : Bool) → (eqb w v && counts_on s.0 (cell w p x)) ≡ b → (b || some (λ c. eqb (number_of c) v && counts_on s.0 c) cs) ≡ true →
        (stands_on cs v s.0 ≡ true → OnSome n v ds) → OnSome n v (cell w p x ∷ ds)
    go true q g more = (s.0, s.1, rw q)
    go false q g more = let t = more g in (t.0, t.1, rw t.2 (or-true (eqb w v && counts_on t.0 (cell w p x))))

order-on : (n v : ℕ) {cs ds : Moment} (o : Order cs ds) → Heads n v cs → EachChange (λ xs ys. OnSome n v xs → OnSome n v ys) o
order-on n v done h = tt
order-on n v (next e o) h = (event-on n v e h, order-on n v o (heads-event n v e h))

-- between two steps it counts where it did
between : (n v : ℕ) (cs ds : Moment) → ((d : ℕ) → stands_on ds v d ≡ stands_on cs v d) → OnSome n v cs → OnSome n v ds
between n v cs ds e s = (s.0, s.1, e s.0 ∙ s.2)

run_on : (room : Room) (v : ℕ) → (place_of (target_of room) v ≡ nowhere → ⊥) → {places last : Placement} {steps : List Step} → named_all room places steps ≡ true →
    length places ≡ length room.vms → (run : Run room places steps last) → EachChangeOfRun (λ xs ys. OnSome (length room.nodes) v xs → OnSome (length room.nodes) v ys) run
unfolding named_all first_moment
run_on room v t n l stop = tt
run_on room v t {places} n l (step {moves = moves} {steps = steps} {end = end} o s r) =
    let name : named room places 0 moves ≡ true = and_left (named room places 0 moves) (named_all room (after places moves) steps) n in
    let more : named_all room (after places moves) steps ≡ true = and_right (named room places 0 moves) (named_all room (after places moves) steps) n in
    let left = order-leaves room places moves name l o s in (
      between (length room.nodes) v (at_rest room places) (first_moment room places moves)
          (λ d. same-stands v d (at_rest room places) (first_moment room places moves) (first_rest (alone v) d room places moves)),
      order-on (length room.nodes) v o (heads-first (length room.nodes) places moves v (phase-bound room places 0 moves v t name) 0 (length room.vms)),
      between (length room.nodes) v end (at_rest room (places_left end))
          (λ d. same-stands v d end (at_rest room (places_left end)) (left-load (alone v) d room places moves o s)),
      run_on room v t (rw (← left) at more) (ap length left ∙ after-length places moves ∙ l) r,
    )

-- at rest a VM counts on its place
rest-stands : (places : Placement) (v k m : ℕ) → k ≤ v → v < k + m → stands_on (cells_from places [] k m) v (place_of places v) ≡ true
unfolding stands_on some cells_from phase_of counts_on
rest-stands places v k zero l h = absurd (omega arith)
rest-stands places v k (suc m) l h =
    by_cases (ℕ_discrete k v) (λ e. rw (e, eq-eqb v v refl, eq-eqb (place_of places v) (place_of places v) refl))
    (λ e. rw (rest-stands places v (suc k) m (omega arith) (omega arith)) (or-true (eqb k v && eqb (place_of places k) (place_of places v))))

-- what is wanted on a node and is on one stays on one, from each moment of every run of steps without fault 15 to the next
pub keeps-running : (room : Room) (places : Placement) (steps : List Step) → length room.nodes ≤ 64 → named_all room places steps ≡ true → length places ≡ length room.vms →
    KeepsRunning room places steps
unfolding first_moment
keeps-running room places steps few n l = record {
  stays = λ last run v w. run_on room v (wanted v w) n l run;
  on = λ last run v t h w.
      kept-moments-run (OnSome (length room.nodes) v) run (run_on room v (wanted v w) n l run)
      (place_of places v, h, rest-stands places v 0 (length room.vms) (omega arith) (omega arith));
}
  where
    wanted : (v : ℕ) → place_of (target_of room) v < length room.nodes → place_of (target_of room) v ≡ nowhere → ⊥
    wanted v w e = let q : place_of (target_of room) v ≡ 255 = e in omega arith

-- ---- clusters of version 1

module _ (s : List ℕ) (w : cluster_check s ≡ Ok tt) (one : version_of s ≡ 1) where
  current-node : (v : ℕ) → v < length (room_of s).vms → place_of (current_of (room_of s)) v < length (room_of s).nodes
  current-node v h = rw (current-at (room_of s) v, nodes-count s) (vm-current-node s v w (rw (vms-count s) at h) one)

  target-node : (v : ℕ) → v < length (room_of s).vms → place_of (target_of (room_of s)) v < length (room_of s).nodes
  target-node v h = rw (target_at (room_of s) v, nodes-count s) (vm-target-node s v w (rw (vms-count s) at h) one)

  -- a step without fault 15 sends nobody to no node
  no-shutdown : (places : Placement) (least : ℕ) (moves : Step) (i : ℕ) → named (room_of s) places least moves ≡ true → i < length moves → (move_of moves i).to ≡ nowhere → ⊥
  unfolding move_of
  no-shutdown places least [] i n h e = absurd (omega arith)
  no-shutdown places least (move ∷ moves) zero n h e =
      let v = named-vm (room_of s) places least move moves n in
      let m = nodes-most s w in
      let c = nodes-count s in
      let t = target-node move.vm v in
      let d = sent-below (room_of s) move.vm move.to (λ x. let q : place_of (target_of (room_of s)) move.vm ≡ 255 = x in omega arith) (named-sends (room_of s) places least move moves n) in
      let q : move.to ≡ 255 = e in
      omega arith
  no-shutdown places least (move ∷ moves) (suc i) n h e =
      no-shutdown places (suc move.vm) moves i (named-rest (room_of s) places least move moves n) (omega arith) e

-- at any reserve
pub nothing-down : (reserve : ℕ) (s : List ℕ) → cluster_check s ≡ Ok tt → version_of s ≡ 1 → NothingDown (room_at reserve s)
unfolding at_reserve
nothing-down reserve s w one = record {
  currents = λ v h. rw (current-same reserve (room_of s), nodes-kept reserve (room_of s)) (current-node s w one v h);
  targets = λ v h. rw (target-same reserve (room_of s), nodes-kept reserve (room_of s)) (target-node s w one v h);
  no-shutdown = λ places moves i h e.
      named-same reserve (room_of s) places 0 moves ∙ is_false (named (room_of s) places 0 moves) (λ n. no-shutdown s w one places 0 moves i n h e);
}
