-- Laws on the steps as they are made and written: the next step, and one turn after the other.
use Prim.Native.Nat.{ℕ, zero, suc, ◌+◌, ◌*◌, ◌≤◌, ◌<◌}
use mathlib.Core.Bool.{Bool, true, false, not, ◌&&◌, ◌||◌, false≢true}
use mathlib.Core.List.{List, [], ◌∷◌, ◌++◌, append-nil}
use mathlib.Core.Logic.{by_cases}
use mathlib.Core.Path.{◌≡◌, refl, sym, ap, ap₂, ◌∙◌}
use native.Mathlib.Decide.{ℕ_discrete}
use native.Mathlib.Omega.{arith}
use lib.ListN.{length, get_or, set, length-append, length-set, get_or-replicate}
use lib.Seq.{get_or-set_same, get_or-set_other}
use lib.Dec.{ltb, eqb}
use borrow.Author.Tests.{ltb-true, lt-ltb, eqb-true, ne_eqb}
use Rattle.std.specs.Prelude.{Option, Some, None}
use Rattle.std.specs.List.{list_any}
use Rattle.std.proofs.lemmas.List.Folds.{list_any_at}
use Rattle.records.specs.Base.{all, sum_of}
use Rattle.records.specs.Bytes.{bytes16}
use Rattle.records.specs.Room.{Room, IsSound, nowhere}
use Rattle.records.specs.Plan.{Step, with_sources, move_total, moves_bytes, step_bytes, steps_bytes, written, written_width}
use Rattle.records.specs.Inner.{tells_sources}
use Rattle.records.proofs.Laws.Steps.{total-append}
use Rattle.records.proofs.Laws.RoundTrip.{moves-length, steps-bytes-length, bytes-append}
use Rattle.records.proofs.Laws.Written.{written_next, written-earlier, written-length}
use Rattle.rules.specs.Moments.{Placement, place_of, current_of, target_of, after}
use Rattle.rules.specs.Rules.{aims, named, sound_step}
use Rattle.rules.specs.Verdict.{home}
use Rattle.rules.specs.Promises.{after_all}
use Rattle.rules.specs.Inner.{held, Placed, array_of, dests_from}
use Rattle.rules.proofs.Laws.Fit.{dests-length}
use Rattle.rules.proofs.Laws.Orders.{never, named-least, named-vm, named-sends, named-off, named-rest, named-cons, after-length}
use Rattle.records.proofs.Laws.Bools.{and_left, and_both}
use Rattle.rules.proofs.Laws.Adding.{all_snoc}
use Rattle.rules.proofs.Laws.Runs.{after-all-snoc}
use Rattle.rules.proofs.Laws.Places.{current-holds}
use Rattle.rules.proofs.Laws.Sound.{sound-named}
use Rattle.rules.proofs.Laws.Turns.{after-held, after-placed}
use Rattle.rules.proofs.Laws.Verdicts.{current-length}
use Rattle.planner.specs.Picks.{moving, direct_step, pivot_step, or_else, from_places, next_step, Picks, picked}
use Rattle.planner.specs.Answer.{steps_for, least_buffer}
use Rattle.planner.specs.Inner.{bare, move_in, moves_in, array_for, Trailed}
use Rattle.planner.proofs.Laws.Budget.{next-sound, budget, budget-511, turn-budget, picks-unique, picks-steps, picks-shaped, Leads, leads-start, leads-turn, leads-end}
use Rattle.planner.proofs.Laws.Direct.{direct-sound}
use Rattle.planner.proofs.Laws.Lone.{held-length}
use Rattle.planner.proofs.Laws.Moves.{move-none, move-one, written_none}
use Rattle.planner.proofs.Laws.Naming.{from-bare, from-twice, from-held, from-tells, from-dests, bare-length, bare-after}

-- ---- the array of destinations gives the step back

-- an array only counts from a VM on
moves-same : (a b : List ℕ) (k n : ℕ) → ((i : ℕ) → k ≤ i → get_or a i 0 ≡ get_or b i 0) → moves_in a k n ≡ moves_in b k n
unfolding moves_in
moves-same a b k zero e = refl
moves-same a b k (suc n) e = ap₂ (λ (d : ℕ) (rest : Step). move_in k d ++ rest) (e k (omega arith)) (moves-same a b (suc k) n (λ i h. e i (omega arith)))

-- no VM is sent to what stands for no move
aims-64 : (room : Room) (v d : ℕ) → length room.nodes ≤ 64 → aims room v d ≡ true → d ≡ 64 → ⊥
unfolding aims
aims-64 room v d few e z = go (ltb d (length room.nodes)) refl e
  where
    go : (b : Bool) → ltb d (length room.nodes) ≡ b → (b || (eqb d nowhere && eqb (place_of (target_of room) v) nowhere)) ≡ true → ⊥
    go true t h = let l = ltb-true d (length room.nodes) t in omega arith
    go false t h = let q : d ≡ 255 = eqb-true d nowhere (and_left (eqb d nowhere) (eqb (place_of (target_of room) v) nowhere) h) in omega arith

module _ (room : Room) (places : Placement) (few : length room.nodes ≤ 64) (most : length room.vms ≤ 256) where
  -- no VM below the first has a destination
  dests-low : (least : ℕ) (step : Step) (v : ℕ) → named room places least step ≡ true → v < least → v < 256 → get_or (dests_from step) v 0 ≡ 64
  unfolding dests_from
  dests-low least [] v n h k = get_or-replicate {A = ℕ} 256 v 64 0 k
  dests-low least (move ∷ moves) v n h k =
      let l = named-least room places least move moves n in
      get_or-set_other (dests_from moves) move.vm v move.to 0 (λ e. omega arith) ∙
      dests-low (suc move.vm) moves v (named-rest room places least move moves n) (omega arith) k

  moves_from : (n k least : ℕ) (step : Step) → k + n ≡ length room.vms → k ≤ least → named room places least step ≡ true → moves_in (dests_from step) k n ≡ bare step
  unfolding moves_in dests_from named bare with_sources
  moves_from zero k least [] e h m = refl
  moves_from zero k least (move ∷ moves) e h m =
      let l = named-least room places least move moves m in let t = named-vm room places least move moves m in absurd (omega arith)
  moves_from (suc n) k least [] e h m =
      ap₂ (λ (x y : Step). x ++ y) (move-none k (get_or (dests_from []) k 0) (dests-low (suc k) [] k none (omega arith) (omega arith))) (moves_from n (suc k) (suc k) [] (omega arith) (omega arith) none)
    where
      none : named room places (suc k) [] ≡ true
      none = refl
  moves_from (suc n) k least (move ∷ moves) e h m =
      by_cases (ℕ_discrete move.vm k) (own (λ r. moves_from n (suc k) (suc k) moves (omega arith) (omega arith) r))
      (λ q. let l = named-least room places least move moves m in
      let up : suc k ≤ move.vm = omega arith in
      let again = named-cons room places (suc k) move moves up (named-vm room places least move moves m) (named-sends room places least move moves m)
      (named-off room places least move moves m) (named-rest room places least move moves m) in
      ap₂ (λ (x y : Step). x ++ y) (move-none k (get_or (dests_from (move ∷ moves)) k 0) (dests-low (suc k) (move ∷ moves) k again (omega arith) (omega arith)))
      (moves_from n (suc k) (suc k) (move ∷ moves) (omega arith) (omega arith) again))
    where
      own : (named room places (suc k) moves ≡ true → moves_in (dests_from moves) (suc k) n ≡ bare moves) → move.vm ≡ k →
          moves_in (dests_from (move ∷ moves)) k (suc n) ≡ bare (move ∷ moves)
      own more q =
          let b = aims-64 room move.vm move.to few (named-sends room places least move moves m) in
          let here : get_or (set (dests_from moves) move.vm move.to) k 0 ≡ move.to =
          ap (λ (i : ℕ). get_or (set (dests_from moves) i move.to) k 0) q ∙ get_or-set_same (dests_from moves) k move.to 0 (rw (dests-length moves) (omega arith)) in
          let rest : named room places (suc k) moves ≡ true = rw q at (named-rest room places least move moves m) in
          ap₂ (λ (x y : Step). x ++ y)
          (ap (move_in k) here ∙ move-one k move.to b ∙ ap (λ (i : ℕ). moving i move.to ∷ []) (sym q))
          (moves-same (set (dests_from moves) move.vm move.to) (dests_from moves) (suc k) n (λ i l. get_or-set_other (dests_from moves) move.vm i move.to 0 (λ z. omega arith)) ∙
          more rest)

-- the moves of the array of a sound step are its moves, without their sources
pub moves-back : (room : Room) (places dests : List ℕ) (n : ℕ) (step : Step) → dests ≡ dests_from step → n ≡ length room.vms → IsSound room →
    sound_step room (held room places) step ≡ true → moves_in dests 0 n ≡ bare step
moves-back room places dests n step e q w sound =
    rw e (moves_from room (held room places) w.nodes-most w.vms-most n 0 0 step (omega arith) (omega arith) (sound-named room (held room places) step sound))

-- the array of a sound step has a destination exactly if the step has a move
goes-somewhere : (room : Room) (places : Placement) (w : IsSound room) (least : ℕ) (step : Step) → named room places least step ≡ true →
    list_any (λ d. not (eqb d 64)) (dests_from step) ≡ ltb 0 (length step)
unfolding dests_from
goes-somewhere room places w least [] n = refl
goes-somewhere room places w least (move ∷ moves) n =
    let m = w.vms-most in let t = named-vm room places least move moves n in
    let l : move.vm < length (set (dests_from moves) move.vm move.to) = rw (length-set (dests_from moves) move.vm move.to, dests-length moves) (omega arith) in
    list_any_at (λ d. not (eqb d 64)) (set (dests_from moves) move.vm move.to) move.vm 0 l
    (rw (get_or-set_same (dests_from moves) move.vm move.to 0 (rw (dests-length moves) (omega arith)), ne_eqb move.to 64 (aims-64 room move.vm move.to w.nodes-most (named-sends room places least move moves n)))) ∙
    sym (lt-ltb 0 (length (move ∷ moves)) (omega arith))

-- ---- the next step

-- a step as an array, if it has a move
module _ (step : Step) (r : Option (List ℕ)) (e : r ≡ array_for step) where
  pub array-none : r ≡ None → step ≡ []
  unfolding array_for
  array-none q = go step (sym q ∙ e)
    where
      go : (step : Step) → None ≡ array_for step → step ≡ []
      go [] f = refl
      go (move ∷ moves) f = never (cc)

  pub array-some : (dests : List ℕ) → r ≡ Some dests → (dests ≡ dests_from step) × (0 < length step)
  unfolding array_for
  array-some dests q = go step (sym q ∙ e)
    where
      go : (step : Step) → Some dests ≡ array_for step → (dests ≡ dests_from step) × (0 < length step)
      go [] f = never (cc)
      go (move ∷ moves) f = (cc, omega arith)

-- its sources do not matter
array-from : (places : Placement) (step : Step) → array_for (from_places places step) ≡ array_for step
unfolding array_for from_places with_sources dests_from
array-from places [] = refl
array-from places (move ∷ moves) = ap (λ (x : List ℕ). Some (set x move.vm move.to)) (from-dests places moves)

module _ (room : Room) (places dests : List ℕ) (ok : Bool) (o : ok ≡ list_any (λ d. not (eqb d 64)) dests) (e : dests ≡ dests_from (direct_step room (held room places)))
    (w : IsSound room) where
  ok-is : ok ≡ ltb 0 (length (direct_step room (held room places)))
  ok-is =
      o ∙ rw e (goes-somewhere room (held room places) w 0 (direct_step room (held room places))
      (sound-named room (held room places) (direct_step room (held room places)) (direct-sound room (held room places))))

  pub next-direct : ok ≡ true → Some dests ≡ array_for (next_step room (held room places))
  unfolding next_step or_else array_for
  next-direct t = rw e (go (direct_step room (held room places)) (sym ok-is ∙ t) ∙ sym (array-from (held room places) (or_else (direct_step room (held room places)) (pivot_step room (held room places)))))
    where
      go : (step : Step) → ltb 0 (length step) ≡ true → Some (dests_from step) ≡ array_for (or_else step (pivot_step room (held room places)))
      go [] f = absurd (let l = ltb-true 0 0 f in omega arith)
      go (move ∷ moves) f = refl

  pub next-none : ok ≡ false → direct_step room (held room places) ≡ []
  next-none t = go (direct_step room (held room places)) (sym ok-is ∙ t)
    where
      go : (step : Step) → ltb 0 (length step) ≡ false → step ≡ []
      go [] f = refl
      go (move ∷ moves) f = absurd (false≢true (sym f ∙ lt-ltb 0 (length (move ∷ moves)) (omega arith)))

  pub next-pivot : (r : Option (List ℕ)) → r ≡ array_for (pivot_step room (held room places)) → ok ≡ false → r ≡ array_for (next_step room (held room places))
  unfolding next_step or_else
  next-pivot r f t = f ∙ rw (next-none t) (sym (array-from (held room places) (pivot_step room (held room places))))

-- ---- the turns

-- the steps made so far, in the buffer behind the place of the header, and where they lead
pub record Making (room : Room) (before out places : List ℕ) (end steps moves : ℕ) : Type 0 where
  pub done : List Step
  pub buffer : out ≡ written before 7 (steps_bytes done)
  pub ends : end ≡ 7 + length (steps_bytes done)
  pub counted : steps ≡ length done
  pub summed : moves ≡ move_total done
  pub tells : all tells_sources done ≡ true
  pub placed : Placed room places
  pub size : length places ≡ 256
  pub here : held room places ≡ after_all (current_of room) done
  pub leads : Leads room (current_of room) done (held room places)
  pub fewer : steps ≤ moves
  pub spare : moves + budget room (held room places) ≤ 511

pub making-start : (room : Room) (before places : List ℕ) → places ≡ array_of (current_of room) → length places ≡ 256 → IsSound room → least_buffer ≤ length before →
    Making room before before places 7 0 0
unfolding steps_bytes move_total sum_of after_all all
making-start room before places a z w b =
    let h = current-holds room places a w in
    let m = w.vms-most in let k = budget-511 room (held room places) (omega arith) in
    record {
      done = [];
      buffer = sym (written_none before 7 (omega arith));
      ends = refl;
      counted = refl;
      summed = refl;
      tells = refl;
      placed = h.placed;
      size = z;
      here = h.is;
      leads = rw h.is (leads-start room (current_of room));
      fewer = omega arith;
      spare = omega arith;
    }

-- the bytes of one step more
bytes-snoc : (steps : List Step) (step : Step) → steps_bytes (steps ++ (step ∷ [])) ≡ steps_bytes steps ++ step_bytes step
unfolding steps_bytes
bytes-snoc steps step = bytes-append steps (step ∷ []) ∙ ap (λ (x : List ℕ). steps_bytes steps ++ x) (append-nil (step_bytes step))

total-snoc : (steps : List Step) (step : Step) → move_total (steps ++ (step ∷ [])) ≡ move_total steps + length step
unfolding move_total sum_of
total-snoc steps step = let h : sum_of length (steps ++ (step ∷ [])) ≡ sum_of length steps + (length step + 0) = total-append steps (step ∷ []) in omega arith

-- the moves of a step, then its count in front of them
step-written : (before a : List ℕ) (step : Step) → tells_sources step ≡ true → 7 + length a + 2 + length step * written_width ≤ length before →
    written (written (written before 7 a) (7 + length a + 2) (moves_bytes step)) (7 + length a) (bytes16 (length step)) ≡ written before 7 (a ++ step_bytes step)
unfolding step_bytes bytes16
step-written before a step n h =
    let k = moves-length step n in
    let l : length (written before 7 a) ≡ length before = written-length before 7 a (omega arith) in
    let f : 7 + length a + 2 + length (moves_bytes step) ≤ length (written before 7 a) = omega arith in
    written-earlier (written before 7 a) (7 + length a) (bytes16 (length step)) (moves_bytes step) f ∙
    written_next before 7 a (bytes16 (length step) ++ moves_bytes step) (omega arith)

-- a turn that has a next step
module _ (room : Room) (before out places dests : List ℕ) (end steps moves vms : ℕ) (r : Option (List ℕ)) (inv : Making room before out places end steps moves)
    (e : r ≡ array_for (next_step room (held room places))) (q : vms ≡ length room.vms) (w : IsSound room) (t : r ≡ Some dests) where
  step-bare : moves_in dests 0 vms ≡ bare (next_step room (held room places))
  step-bare = moves-back room places dests vms (next_step room (held room places)) (array-some (next_step room (held room places)) r e dests t).0 q w (next-sound room (held room places))

  length-is : length (moves_in dests 0 vms) ≡ length (next_step room (held room places))
  length-is = ap length step-bare ∙ bare-length (next_step room (held room places))

  well-named : named room (held room places) 0 (next_step room (held room places)) ≡ true
  well-named = sound-named room (held room places) (next_step room (held room places)) (next-sound room (held room places))

  step_is : from_places places (moves_in dests 0 vms) ≡ next_step room (held room places)
  unfolding next_step
  step_is =
      ap (from_places places) step-bare ∙ from-bare places (next_step room (held room places)) ∙ from-held room places 0 (next_step room (held room places)) well-named ∙
      from-twice (held room places) (held room places) (or_else (direct_step room (held room places)) (pivot_step room (held room places)))

  tells-next : tells_sources (next_step room (held room places)) ≡ true
  unfolding next_step
  tells-next = from-tells (held room places) (or_else (direct_step room (held room places)) (pivot_step room (held room places)))

  module _ (b : least_buffer ≤ length before) where
    some : 0 < length (next_step room (held room places))
    some = (array-some (next_step room (held room places)) r e dests t).1

    not_none : next_step room (held room places) ≡ [] → ⊥
    not_none z = let l = some in let k = ap length z in omega arith

    size_is : length (held room places) ≡ length room.vms
    size_is = held-length room places inv.size w

    falls : budget room (after (held room places) (next_step room (held room places))) + length (next_step room (held room places)) ≤ budget room (held room places)
    falls = turn-budget room (held room places) size_is (next_step room (held room places)) refl not_none

    end_is : end ≡ 7 + steps * 2 + moves * written_width
    end_is = let a = steps-bytes-length inv.done inv.tells in let c = inv.ends in let d = inv.counted in let f = inv.summed in omega arith

    room-left : end + 2 + length (next_step room (held room places)) * written_width ≤ length before
    room-left = let a = end_is in let c = falls in let d = inv.spare in let f = inv.fewer in let g = some in omega arith

    out-size : length out ≡ length before
    out-size = let r = room-left in let c = inv.ends in ap length inv.buffer ∙ written-length before 7 (steps_bytes inv.done) (omega arith)

    pub turn-room : end + 2 + length (moves_in dests 0 vms) * written_width ≤ length out
    turn-room = let a = out-size in let r = room-left in rw length-is (omega arith)

    module _ (n : ℕ) (c : n ≡ length (moves_in dests 0 vms)) where
      n-is : n ≡ length (next_step room (held room places))
      n-is = c ∙ length-is

      pub turn_low : end + 2 + n * written_width ≤ length before
      turn_low = let a = n-is in let r = room-left in omega arith

      module _ (more : List ℕ) (m : more ≡ written out (end + 2) (moves_bytes (from_places places (moves_in dests 0 vms)))) where
        more-size : length more ≡ length before
        more-size =
            let a = out-size in let r = room-left in let k = moves-length (next_step room (held room places)) tells-next in
            ap length m ∙ written-length out (end + 2) (moves_bytes (from_places places (moves_in dests 0 vms))) (rw step_is (omega arith)) ∙ out-size

        pub turn-fits : end + 2 + n * written_width ≤ length more
        turn-fits = let a = more-size in let r = turn_low in omega arith

        module _ (whole next : List ℕ) (further : ℕ) (g : further ≡ end + 2 + n * written_width) (x : whole ≡ written more end (bytes16 n)) (y : next ≡ after places (moves_in dests 0 vms)) where
          all-written : whole ≡ written before 7 (steps_bytes (inv.done ++ (next_step room (held room places) ∷ [])))
          all-written =
              let step = next_step room (held room places) in
              let rest = room-left in let d = inv.ends in
              x ∙ rw (m, step_is, n-is, inv.buffer, d)
              (step-written before (steps_bytes inv.done) step tells-next (omega arith) ∙ ap (written before 7) (sym (bytes-snoc inv.done step)))

          next-is : next ≡ after places (next_step room (held room places))
          next-is = y ∙ ap (after places) step-bare ∙ bare-after places (next_step room (held room places))

          next-held : held room next ≡ after (held room places) (next_step room (held room places))
          next-held = ap (held room) next-is ∙ after-held room places (held room places) 0 (next_step room (held room places)) well-named

          pub making-less : budget room (held room next) < budget room (held room places)
          making-less = let a = falls in let b = some in rw next-held (omega arith)

          pub making-turn : Making room before whole next further (steps + 1) (moves + n)
          unfolding step_bytes bytes16
          making-turn =
              let step = next_step room (held room places) in
              let a = n-is in let d = some in let f = falls in let i = inv.spare in let j = inv.fewer in
              let size = ap length (bytes-snoc inv.done step) ∙ length-append (steps_bytes inv.done) (step_bytes step) in
              let own = moves-length step tells-next in let k = inv.ends in let l = inv.counted in let u = inv.summed in let v = total-snoc inv.done step in
              let p = length-append inv.done (step ∷ []) in
              record {
                done = inv.done ++ (step ∷ []);
                buffer = all-written;
                ends = omega arith;
                counted = omega arith;
                summed = omega arith;
                tells = all_snoc tells_sources inv.done step ∙ and_both inv.tells tells-next;
                placed = rw next-is (after-placed room places (held room places) 0 step well-named inv.placed);
                size = ap length next-is ∙ after-length places step ∙ inv.size;
                here = next-held ∙ ap (λ (x : Placement). after x step) inv.here ∙ sym (after-all-snoc (current_of room) inv.done step);
                leads = rw next-held (leads-turn room (current_of room) inv.done (held room places) step refl not_none inv.leads);
                fewer = omega arith;
                spare = rw next-held (omega arith);
              }

-- ---- the end

module _ (room : Room) (before out places : List ℕ) (end steps moves : ℕ) (inv : Making room before out places end steps moves) (w : IsSound room)
    (z : next_step room (held room places) ≡ []) where
  all-picked : Picks room (current_of room) inv.done
  all-picked = leads-end room (current_of room) inv.done (held room places) z inv.leads

  start-size : length (current_of room) ≡ length room.vms
  start-size = current-length room

  done-is : inv.done ≡ steps_for room
  unfolding steps_for
  done-is = picks-unique room (current_of room) inv.done (picked room (current_of room)) all-picked (picks-steps room (current_of room) start-size)

  pub making-end : (at_home : Bool) → at_home ≡ home room (held room places) → Trailed room before out (record { end = end; steps = steps; moves = moves; home = at_home })
  making-end at_home h =
      let m = w.vms-most in
      record {
        buffer = inv.buffer ∙ ap (λ (x : List Step). written before 7 (steps_bytes x)) done-is;
        end = inv.ends ∙ ap (λ (x : List Step). 7 + length (steps_bytes x)) done-is;
        steps = inv.counted ∙ ap length done-is;
        moves = inv.summed ∙ ap move_total done-is;
        home = h ∙ ap (home room) (inv.here ∙ ap (after_all (current_of room)) done-is);
        tells = rw (← done-is) inv.tells;
        shaped = rw (← done-is) (picks-shaped room (omega arith) (current_of room) inv.done start-size all-picked);
        steps-most = rw (← done-is) (let a = inv.spare in let b = inv.counted in let c = inv.fewer in omega arith);
        moves-most = rw (← done-is) (let a = inv.spare in let b = inv.summed in omega arith);
      }
