-- Laws on the sources that moves name: the pass for 27 and what it means; the sources of an accepted plan; that nothing else looks at them.
use Prim.Native.Nat.{ℕ, zero, suc, ◌+◌, ◌<◌, max}
use mathlib.Core.Bool.{Bool, true, false, not, ◌&&◌, ◌||◌, false≢true}
use mathlib.Core.List.{List, [], ◌∷◌, map}
use mathlib.Core.Path.{◌≡◌, refl, sym, ap, ap₂, ◌∙◌}
use native.Mathlib.Omega.{arith}
use lib.ListN.{length, get_or, take}
use lib.Seq.{get_or-take}
use lib.Dec.{eqb}
use borrow.Author.Tests.{eqb-true, eqb-false}
use Rattle.records.specs.Base.{pick, all, sum_of}
use Rattle.records.specs.Room.{Constraint, ban, fence, spread, latency, before, Room, vm_of}
use Rattle.records.specs.Plan.{Move, Step, with_sources, no_move, move_of}
use Rattle.records.specs.Inner.{tells_source, tells_sources}
use Rattle.records.specs.declared.plan.Source.{Source}
use Rattle.records.specs.declared.plan.Source.TheVariants.{Unnamed, Named}
use Rattle.records.proofs.Laws.Bools.{and_left, and_right, and_both, all-at, all_same as all_Alike, all_more}
use Rattle.rules.specs.Moments.{Placement, places_left, place_of, after, bears_at, waiting, tally_at, phase_of, cells_from, first_moment, all_running}
use Rattle.rules.specs.Orders.{Order, Run, stop, step, some, meets_mate}
use Rattle.rules.specs.Rules.{allowed, named, is_place, sourced, permitted, fitting, unmet, has_move, respects, in_turn, sound_step}
use Rattle.rules.specs.Cost.{memory_of, step_cost, cost_from, cost_of}
use Rattle.rules.specs.Promises.{after_all, sourced_all, sound_all, NamesElsewhere, NamesPlaces, SourcesUnread}
use Rattle.rules.specs.Inner.{held, Aimed}
use Rattle.rules.proofs.Laws.Runs.{sound-all-named, run_ends}

-- ---- the places of an array

all_same : {A : Type 0} (p q : A → Bool) (xs : List A) (d : A) → ((i : ℕ) → i < length xs → p (get_or xs i d) ≡ q (get_or xs i d)) → all p xs ≡ all q xs
unfolding all
all_same p q [] d e = refl
all_same p q (x ∷ xs) d e = ap₂ (λ (a b : Bool). a && b) (e 0 (omega arith)) (all_same p q xs d (λ i h. e (suc i) (omega arith)))

-- the array has the places of the placement that it holds
pub sourced-held : (room : Room) (places : List ℕ) (moves : Step) → Aimed room moves → sourced (held room places) moves ≡ sourced places moves
unfolding sourced held move_of
sourced-held room places moves a =
    all_same (λ move. is_place move.source (place_of (take (length room.vms) places) move.vm)) (λ move. is_place move.source (place_of places move.vm)) moves no_move
    (λ i h. ap (is_place (get_or moves i no_move).source) (get_or-take (length room.vms) places (get_or moves i no_move).vm 0 (a.vms i h)))

-- ---- what 27 means

wrong-source : (x : Source) (place : ℕ) → is_place x place ≡ false → (node : ℕ) × (x ≡ Named node) × (node ≡ place → ⊥)
unfolding is_place
wrong-source Unnamed place e = absurd (false≢true (sym e))
wrong-source (Named node) place e = (node, refl, eqb-false node place e)

module _ (places : Placement) where
  pub wrong-found : (moves : Step) → sourced places moves ≡ false → NamesElsewhere places moves
  unfolding sourced all move_of
  wrong-found [] e = absurd (false≢true (sym e))
  wrong-found (move ∷ moves) e = go (is_place move.source (place_of places move.vm)) refl e (wrong-found moves)
    where
      go : (b : Bool) → is_place move.source (place_of places move.vm) ≡ b →
          (b && all (λ m. is_place m.source (place_of places m.vm)) moves) ≡ false →
          (all (λ m. is_place m.source (place_of places m.vm)) moves ≡ false → NamesElsewhere places moves) → NamesElsewhere places (move ∷ moves)
      go true t f more = let w = more f in (suc w.0, let h = w.1 in omega arith, w.2, w.3, w.4)
      go false t f more = let w = wrong-source move.source (place_of places move.vm) t in (0, omega arith, w.0, w.1, w.2)

  right-at : (moves : Step) (i : ℕ) → sourced places moves ≡ true → i < length moves → is_place (move_of moves i).source (place_of places (move_of moves i).vm) ≡ true
  unfolding sourced move_of
  right-at moves i e h = all-at (λ move. is_place move.source (place_of places move.vm)) moves i no_move e h

  pub wrong-refused : (moves : Step) → NamesElsewhere places moves → sourced places moves ≡ false
  unfolding is_place
  wrong-refused moves w = go (sourced places moves) refl
    where
      go : (b : Bool) → sourced places moves ≡ b → b ≡ false
      go true t =
          absurd (w.4 (eqb-true w.2 (place_of places (move_of moves w.0).vm)
          (sym (ap (λ (x : Source). is_place x (place_of places (move_of moves w.0).vm)) w.3) ∙ right-at moves w.0 t w.1)))
      go false t = refl

-- ---- the sources of steps without 27

pub sourced-at : (places : Placement) (steps : List Step) (n : ℕ) → sourced_all places steps ≡ true → n < length steps →
    sourced (after_all places (take n steps)) (get_or steps n []) ≡ true
unfolding sourced_all after_all
sourced-at places [] n e h = absurd (omega arith)
sourced-at places (moves ∷ steps) zero e h = and_left (sourced places moves) _ e
sourced-at places (moves ∷ steps) (suc n) e h = sourced-at (after places moves) steps n (and_right (sourced places moves) _ e) (omega arith)

sound-take : (room : Room) (places : Placement) (steps : List Step) (n : ℕ) → sound_all room places steps ≡ true → sound_all room places (take n steps) ≡ true
unfolding sound_all
sound-take room places steps zero e = refl
sound-take room places [] (suc n) e = refl
sound-take room places (moves ∷ steps) (suc n) e =
    and_both (and_left (sound_step room places moves) _ e) (sound-take room (after places moves) steps n (and_right (sound_step room places moves) _ e))

right-named : (x : Source) (place : ℕ) → tells_source x ≡ true → is_place x place ≡ true → x ≡ Named place
unfolding tells_source is_place
right-named Unnamed place n e = absurd (false≢true n)
right-named (Named node) place n e = ap Named (eqb-true node place e)

-- the operators' point: sources that are all named, in steps without 27, are the places
pub names-places : (room : Room) (places : Placement) (steps : List Step) → length places ≡ length room.vms → sound_all room places steps ≡ true →
    sourced_all places steps ≡ true → all tells_sources steps ≡ true → NamesPlaces room places steps
unfolding tells_sources move_of
names-places room places steps l e x n = record {
  each = λ k i h j start run.
      rw (run_ends (sound-all-named room places (take k steps) (sound-take room places steps k e)) l run)
      (right-named (move_of (get_or steps k []) i).source (place_of (after_all places (take k steps)) (move_of (get_or steps k []) i).vm)
      (all-at (λ move. tells_source move.source) (get_or steps k []) i no_move (all-at (all (λ move. tells_source move.source)) steps k [] n h) j)
      (right-at (after_all places (take k steps)) (get_or steps k []) i (sourced-at places steps k x h) j));
}

-- steps that name no source have no 27
unnamed-right : (places : Placement) (move : Move) → not (tells_source move.source) ≡ true → is_place move.source (place_of places move.vm) ≡ true
unfolding tells_source is_place
unnamed-right places move e = go move.source e
  where
    go : (x : Source) → not (tells_source x) ≡ true → is_place x (place_of places move.vm) ≡ true
    go Unnamed e = refl
    go (Named node) e = absurd (false≢true e)

pub unnamed-sourced : (places : Placement) (steps : List Step) → all (all (λ move. not (tells_source move.source))) steps ≡ true → sourced_all places steps ≡ true
unfolding sourced_all sourced all
unnamed-sourced places [] e = refl
unnamed-sourced places (moves ∷ steps) e =
    and_both (all_more (λ move. not (tells_source move.source)) (λ move. is_place move.source (place_of places move.vm)) (unnamed-right places) moves
    (and_left (all (λ move. not (tells_source move.source)) moves) _ e))
    (unnamed-sourced (after places moves) steps (and_right (all (λ move. not (tells_source move.source)) moves) _ e))

-- ---- nothing else looks at a source

module _ (names : Move → Source) where
  all-unread : (q : ℕ → ℕ → Bool) (moves : Step) → all (λ move. q move.vm move.to) (with_sources names moves) ≡ all (λ move. q move.vm move.to) moves
  unfolding with_sources all
  all-unread q [] = refl
  all-unread q (move ∷ moves) = ap (λ (b : Bool). q move.vm move.to && b) (all-unread q moves)

  phase-unread : (moves : Step) (v : ℕ) → phase_of (with_sources names moves) v ≡ phase_of moves v
  unfolding with_sources phase_of
  phase-unread [] v = refl
  phase-unread (move ∷ moves) v = ap (pick (eqb move.vm v) (waiting move.to)) (phase-unread moves v)

  cells-unread : (places : Placement) (moves : Step) (v n : ℕ) → cells_from places (with_sources names moves) v n ≡ cells_from places moves v n
  unfolding cells_from
  cells-unread places moves v zero = refl
  cells-unread places moves v (suc n) = rw (phase-unread moves v, cells-unread places moves (suc v) n)

  pub length-unread : (moves : Step) → length (with_sources names moves) ≡ length moves
  unfolding with_sources
  length-unread [] = refl
  length-unread (move ∷ moves) = ap suc (length-unread moves)

  pub after-unread : (places : Placement) (moves : Step) → after places (with_sources names moves) ≡ after places moves
  unfolding with_sources after
  after-unread places [] = refl
  after-unread places (move ∷ moves) = after-unread _ moves

  cost-step-unread : (room : Room) (moves : Step) → step_cost room (with_sources names moves) ≡ step_cost room moves
  unfolding with_sources step_cost memory_of
  cost-step-unread room [] = refl
  cost-step-unread room (move ∷ moves) = ap (max (memory_of room move)) (cost-step-unread room moves)

  cost-sum-unread : (room : Room) (spent : ℕ) (moves : Step) →
      sum_of (λ move. memory_of room move + spent) (with_sources names moves) ≡ sum_of (λ move. memory_of room move + spent) moves
  unfolding with_sources sum_of memory_of
  cost-sum-unread room spent [] = refl
  cost-sum-unread room spent (move ∷ moves) = ap (λ (k : ℕ). memory_of room move + spent + k) (cost-sum-unread room spent moves)

  cost-from-unread : (room : Room) (spent : ℕ) (steps : List Step) → cost_from room spent (map (with_sources names) steps) ≡ cost_from room spent steps
  unfolding cost_from
  cost-from-unread room spent [] = refl
  cost-from-unread room spent (moves ∷ steps) =
      rw (cost-sum-unread room spent moves, cost-step-unread room moves, cost-from-unread room (spent + step_cost room moves) steps)

  moves-unread : (moves : Step) (v : ℕ) → has_move (with_sources names moves) v ≡ has_move moves v
  unfolding with_sources has_move some
  moves-unread [] v = refl
  moves-unread (move ∷ moves) v = ap (λ (b : Bool). eqb move.vm v || b) (moves-unread moves v)

  module _ (room : Room) where
    respects-unread : (places : Placement) (moves : Step) (k : Constraint) → respects room places (with_sources names moves) k ≡ respects room places moves k
    unfolding respects
    respects-unread places moves (ban vms nodes) = refl
    respects-unread places moves (fence vms nodes) = refl
    respects-unread places moves (spread vms) = refl
    respects-unread places moves (latency vms groups) = refl
    respects-unread places moves (before first second) = rw (moves-unread moves first, moves-unread moves second)

    turn-unread : (places : Placement) (moves : Step) → in_turn room places (with_sources names moves) ≡ in_turn room places moves
    unfolding in_turn
    turn-unread places moves = all_Alike (respects room places (with_sources names moves)) (respects room places moves) (respects-unread places moves) room.constraints

    moment-unread : (places : Placement) (moves : Step) → first_moment room places (with_sources names moves) ≡ first_moment room places moves
    unfolding first_moment
    moment-unread places moves = cells-unread places moves 0 (length room.vms)

    named-unread : (places : Placement) (least : ℕ) (moves : Step) → named room places least (with_sources names moves) ≡ named room places least moves
    unfolding with_sources named
    named-unread places least [] = refl
    named-unread places least (move ∷ moves) = rw (named-unread places (suc move.vm) moves)

    pub sound-unread : (places : Placement) (moves : Step) → sound_step room places (with_sources names moves) ≡ sound_step room places moves
    unfolding sound_step permitted fitting unmet
    sound-unread places moves =
        rw (
          moment-unread places moves,
          named-unread places 0 moves,
          all-unread (allowed room) moves,
          all-unread (λ v d. bears_at room d (tally_at room d (all_running (first_moment room places moves))) (vm_of room v)) moves,
          all-unread (λ v d. not (meets_mate room (all_running (first_moment room places moves)) v d)) moves,
          turn-unread places moves,
        )

    run-off : (places last : Placement) (steps : List Step) → Run room places (map (with_sources names) steps) last → Run room places steps last
    run-off places last [] stop = stop
    run-off places last (moves ∷ steps) (step {end = end} o s r) = step (rw (moment-unread places moves) at o) s (run-off (places_left end) last steps r)

    run_on : (places last : Placement) (steps : List Step) → Run room places steps last → Run room places (map (with_sources names) steps) last
    run_on places last [] stop = stop
    run_on places last (moves ∷ steps) (step {end = end} o s r) =
        let p : Order (first_moment room places (with_sources names moves)) end = rw (moment-unread places moves) o in
        step p s (run_on (places_left end) last steps r)

pub sources-unread : (room : Room) → SourcesUnread room
unfolding cost_of
sources-unread room = record {
  moments = λ names. moment-unread names room;
  left = after-unread;
  well-named = λ names places step. named-unread names room places 0 step;
  sound = λ names. sound-unread names room;
  runs = λ names places last steps. (run-off names room places last steps, run_on names room places last steps);
  cost = λ names steps. cost-from-unread names room 0 steps;
}
