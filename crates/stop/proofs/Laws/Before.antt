-- Laws on the steps before the stopped one: their names, where they leave the VMs, and places that are taken.
use Prim.Native.Nat.{ℕ, zero, suc, ◌-◌, ◌<◌}
use mathlib.Core.Bool.{Bool, true, false, ◌&&◌, ◌||◌}
use mathlib.Core.List.{List, [], ◌∷◌, ◌++◌, Sublistᴰ}
use mathlib.Core.Logic.{by_cases}
use mathlib.Core.Path.{◌≡◌, refl, sym, ap, ◌∙◌}
use native.Mathlib.Decide.{ℕ_discrete, dec_lt}
use native.Mathlib.Omega.{arith}
use lib.ListN.{length, get_or, set, take, drop, take-append-drop}
use lib.Seq.{drop-cons, get_or-set_same, get_or-set_other, set_out}
use lib.Dec.{ltb, eqb}
use borrow.Author.Tests.{ltb-true, eqb-true}
use Rattle.std.specs.Prelude.{Ok}
use Rattle.records.specs.Base.{pick}
use Rattle.records.specs.Room.{Room, IsSound, nowhere, room_of, room_at, at_reserve, node_count, vm_count, knows_nowhere, place_ok, cluster_check, updated}
use Rattle.records.specs.Plan.{Step, steps_of}
use Rattle.records.proofs.Laws.Bools.{and_left, and_right, and_both}
use Rattle.records.proofs.Laws.Rows.{place-node}
use Rattle.records.proofs.Laws.Cluster.{nodes-count, vms-count, current-ok, target_ok}
use Rattle.records.proofs.Laws.Sound.{read-sound}
use Rattle.records.proofs.Laws.Updated.{updated-same}
use Rattle.rules.specs.Moments.{Placement, place_of, current_of, target_of, after}
use Rattle.rules.specs.Rules.{aims, named}
use Rattle.rules.specs.Promises.{after_all, named_all}
use Rattle.rules.specs.Inner.{held, array_of}
use Rattle.rules.proofs.Laws.Orders.{named-vm, named-sends, named-rest, after-length}
use Rattle.rules.proofs.Laws.Sound.{named-part}
use Rattle.rules.proofs.Laws.Places.{current-at, target_at, current-holds}
use Rattle.rules.proofs.Laws.Fit.{held_at}
use Rattle.rules.proofs.Laws.Turns.{after-held}
use Rattle.rules.proofs.Laws.Reserve.{current-same}
use Rattle.stop.specs.Stops.{numbered, ended_moves, marked, stopped_at, stopped_record}
use Rattle.stop.specs.Inner.{array_stopped}
use Rattle.stop.proofs.Laws.Outcomes.{marked-first, marked-last}

-- ---- the moves that have ended are a part of the step

none-part : (step : Step) → Sublistᴰ [] step
none-part [] = Sublistᴰ.slnil
none-part (move ∷ moves) = Sublistᴰ.cons (none-part moves)

pub ended-part : (step : Step) (marks : List ℕ) → Sublistᴰ (ended_moves step marks) step
unfolding ended_moves
ended-part [] marks = Sublistᴰ.slnil
ended-part (move ∷ moves) [] = none-part (move ∷ moves)
ended-part (move ∷ moves) (mark ∷ marks) = go (eqb mark 1) (ended-part moves marks)
  where
    go : (b : Bool) {part : Step} → Sublistᴰ part moves → Sublistᴰ (pick b (move ∷ part) part) (move ∷ moves)
    go true s = Sublistᴰ.cons-cons refl s
    go false s = Sublistᴰ.cons s

-- ---- the steps before step k, and step k, counted from 0

module _ (room : Room) where
  pub named-before : (places : Placement) (steps : List Step) (k : ℕ) → named_all room places steps ≡ true → named_all room places (take k steps) ≡ true
  unfolding named_all
  named-before places steps zero e = refl
  named-before places [] (suc k) e = refl
  named-before places (step ∷ steps) (suc k) e =
      and_both (and_left (named room places 0 step) (named_all room (after places step) steps) e)
      (named-before (after places step) steps k (and_right (named room places 0 step) (named_all room (after places step) steps) e))

  pub named-at : (places : Placement) (steps : List Step) (k : ℕ) → named_all room places steps ≡ true → k < length steps →
      named room (after_all places (take k steps)) 0 (get_or steps k []) ≡ true
  unfolding named_all after_all
  named-at places [] k e h = absurd (omega arith)
  named-at places (step ∷ steps) zero e h = and_left (named room places 0 step) (named_all room (after places step) steps) e
  named-at places (step ∷ steps) (suc k) e h =
      named-at (after places step) steps k (and_right (named room places 0 step) (named_all room (after places step) steps) e) (omega arith)

pub after-all-length : (places : Placement) (steps : List Step) → length (after_all places steps) ≡ length places
unfolding after_all
after-all-length places [] = refl
after-all-length places (step ∷ steps) = after-all-length (after places step) steps ∙ after-length places step

pub split_steps : (steps : List Step) (k : ℕ) → k < length steps → take k steps ++ (get_or steps k [] ∷ drop (suc k) steps) ≡ steps
split_steps steps k h = ap (λ (l : List Step). take k steps ++ l) (sym (drop-cons steps k [] h)) ∙ take-append-drop k steps

-- ---- the array is the placement

after-all-held : (room : Room) (places : List ℕ) (steps : List Step) → named_all room (held room places) steps ≡ true → held room (after_all places steps) ≡ after_all (held room places) steps
unfolding after_all named_all
after-all-held room places [] e = refl
after-all-held room places (step ∷ steps) e =
    let name = and_left (named room (held room places) 0 step) (named_all room (after (held room places) step) steps) e in
    let more = and_right (named room (held room places) 0 step) (named_all room (after (held room places) step) steps) e in
    let h = after-held room places (held room places) 0 step name in
    after-all-held room (after places step) steps (rw h more) ∙ ap (λ (p : Placement). after_all p steps) h

module _ (room : Room) (steps : List Step) (marks : List ℕ) (n : ℕ) (name : named_all room (current_of room) steps ≡ true) (m : marked steps n marks ≡ true) where
  abbrev pub start : Placement
  start = after_all (current_of room) (take (n - 1) steps)

  name-before : named_all room (current_of room) (take (n - 1) steps) ≡ true
  name-before = named-before room (current_of room) steps (n - 1) name

  below : n - 1 < length steps
  below = let a = marked-first steps marks n m in let b = marked-last steps marks n m in omega arith

  name-step : named room start 0 (numbered steps n) ≡ true
  unfolding numbered
  name-step = named-at room (current_of room) steps (n - 1) name below

  name-ended : named room start 0 (ended_moves (numbered steps n) marks) ≡ true
  name-ended = named-part room start 0 0 (ended-part (numbered steps n) marks) (omega arith) name-step

  -- in arrays the same happens
  module _ (sound : IsSound room) where
    array : List ℕ
    array = array_of (current_of room)

    array-current : held room array ≡ current_of room
    unfolding array
    array-current = (current-holds room array refl sound).is

    before-is : held room (after_all array (take (n - 1) steps)) ≡ start
    before-is =
        after-all-held room array (take (n - 1) steps) (rw array-current name-before) ∙ ap (λ (p : Placement). after_all p (take (n - 1) steps)) array-current

    array-is : held room (array_stopped room steps n marks) ≡ stopped_at room steps n marks
    unfolding array_stopped stopped_at array
    array-is =
        after-held room (after_all array (take (n - 1) steps)) start 0 (ended_moves (numbered steps n) marks) name-ended ∙
        ap (λ (p : Placement). after p (ended_moves (numbered steps n) marks)) before-is

    -- of each VM that there is
    pub array-place : (v : ℕ) → v < length room.vms → place_of (array_stopped room steps n marks) v ≡ place_of (stopped_at room steps n marks) v
    array-place v h = sym (held_at room (array_stopped room steps n marks) v h) ∙ ap (λ (p : Placement). place_of p v) array-is

-- ---- places that the record's version knows

module _ (s : List ℕ) (w : cluster_check s ≡ Ok tt) where
  known : ℕ → Bool
  known place = place_ok (knows_nowhere s) (node_count s) place

  aims-known : (v d : ℕ) → v < vm_count s → aims (room_of s) v d ≡ true → known d ≡ true
  unfolding aims known
  aims-known v d h e = go (ltb d (length (room_of s).nodes)) refl e
    where
      go : (b : Bool) → ltb d (length (room_of s).nodes) ≡ b → (b || (eqb d nowhere && eqb (place_of (target_of (room_of s)) v) nowhere)) ≡ true → place_ok (knows_nowhere s) (node_count s) d ≡ true
      go true t q = sym (place-node (knows_nowhere s) (node_count s) d (let l = ltb-true d (length (room_of s).nodes) t in let k = nodes-count s in omega arith))
      go false t q =
          let a = eqb-true d nowhere (and_left (eqb d nowhere) (eqb (place_of (target_of (room_of s)) v) nowhere) q) in
          let b = eqb-true (place_of (target_of (room_of s)) v) nowhere (and_right (eqb d nowhere) (eqb (place_of (target_of (room_of s)) v) nowhere) q) in
          ap (place_ok (knows_nowhere s) (node_count s)) (a ∙ sym b ∙ target_at (room_of s) v) ∙ target_ok s v w h

  set_known : (places : Placement) (u d : ℕ) → known d ≡ true → ((v : ℕ) → v < vm_count s → known (place_of places v) ≡ true) → (v : ℕ) → v < vm_count s → known (place_of (set places u d) v) ≡ true
  set_known places u d e h v k =
      by_cases (ℕ_discrete v u)
      (λ q. by_cases (dec_lt u (length places))
      (λ l. ap known (ap (λ (i : ℕ). get_or (set places u d) i 0) q ∙ get_or-set_same places u d 0 l) ∙ e)
      (λ l. rw (set_out places u d (omega arith)) (h v k)))
      (λ q. ap known (get_or-set_other places u v d 0 q) ∙ h v k)

  after-known : (places start : Placement) (least : ℕ) (step : Step) → named (room_of s) start least step ≡ true → length (room_of s).vms ≡ vm_count s →
      ((v : ℕ) → v < vm_count s → known (place_of places v) ≡ true) → (v : ℕ) → v < vm_count s → known (place_of (after places step) v) ≡ true
  unfolding after
  after-known places start least [] n l h = h
  after-known places start least (move ∷ moves) n l h =
      let u = named-vm (room_of s) start least move moves n in
      after-known (set places move.vm move.to) start (suc move.vm) moves (named-rest (room_of s) start least move moves n) l
      (set_known places move.vm move.to (aims-known move.vm move.to (omega arith) (named-sends (room_of s) start least move moves n)) h)

  all_known : (places : Placement) (steps : List Step) → named_all (room_of s) places steps ≡ true → length (room_of s).vms ≡ vm_count s →
      ((v : ℕ) → v < vm_count s → known (place_of places v) ≡ true) → (v : ℕ) → v < vm_count s → known (place_of (after_all places steps) v) ≡ true
  unfolding after_all named_all
  all_known places [] n l h = h
  all_known places (step ∷ steps) n l h =
      all_known (after places step) steps (and_right (named (room_of s) places 0 step) (named_all (room_of s) (after places step) steps) n) l
      (after-known places places 0 step (and_left (named (room_of s) places 0 step) (named_all (room_of s) (after places step) steps) n) l h)

module _ (cluster marks : List ℕ) (steps : List Step) (n : ℕ) (w : cluster_check cluster ≡ Ok tt) (name : named_all (room_of cluster) (current_of (room_of cluster)) steps ≡ true)
    (m : marked steps n marks ≡ true) where
  pub stopped-known : (v : ℕ) → v < vm_count cluster → place_ok (knows_nowhere cluster) (node_count cluster) (place_of (stopped_at (room_of cluster) steps n marks) v) ≡ true
  unfolding stopped_at known
  stopped-known =
      after-known cluster w (start (room_of cluster) steps marks n name m) (start (room_of cluster) steps marks n name m) 0 (ended_moves (numbered steps n) marks)
      (name-ended (room_of cluster) steps marks n name m) (vms-count cluster)
      (all_known cluster w (current_of (room_of cluster)) (take (n - 1) steps) (name-before (room_of cluster) steps marks n name m) (vms-count cluster)
      (λ v h. ap (place_ok (knows_nowhere cluster) (node_count cluster)) (current-at (room_of cluster) v) ∙ current-ok cluster v w h))

-- ---- the record of the array is that of the placement, at any reserve

module _ (reserve : ℕ) (cluster marks : List ℕ) (steps : List Step) (n : ℕ) where
  -- the placement is the same at every reserve
  pub places-at : stopped_at (room_at reserve cluster) steps n marks ≡ stopped_at (room_of cluster) steps n marks
  unfolding stopped_at
  places-at = rw (current-same reserve (room_of cluster))

  module _ (w : cluster_check cluster ≡ Ok tt) (name : named_all (room_at reserve cluster) (current_of (room_at reserve cluster)) steps ≡ true) (m : marked steps n marks ≡ true) where
    pub places-same : updated cluster (array_stopped (room_at reserve cluster) steps n marks) ≡ updated cluster (stopped_at (room_of cluster) steps n marks)
    unfolding at_reserve
    places-same =
        updated-same cluster (array_stopped (room_at reserve cluster) steps n marks) (stopped_at (room_of cluster) steps n marks)
        (λ v h. array-place (room_at reserve cluster) steps marks n name m (read-sound reserve cluster w) v (rw (vms-count cluster) h) ∙ ap (λ (p : Placement). place_of p v) places-at)

pub record_is : (reserve : ℕ) (cluster plan marks : List ℕ) (n : ℕ) → cluster_check cluster ≡ Ok tt →
    named_all (room_at reserve cluster) (current_of (room_at reserve cluster)) (steps_of plan) ≡ true → marked (steps_of plan) n marks ≡ true →
    updated cluster (array_stopped (room_at reserve cluster) (steps_of plan) n marks) ≡ stopped_record cluster plan n marks
unfolding stopped_record
record_is reserve cluster plan marks n w name m = places-same reserve cluster marks (steps_of plan) n w name m
