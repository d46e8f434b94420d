-- Laws on a move that is added to a step held as an array of destinations: the test at its destination is the test of the whole step.
use Prim.Native.Nat.{ℕ, ◌+◌, ◌≤◌, ◌<◌}
use mathlib.Core.Bool.{Bool, true, false, not, ◌&&◌, and-true}
use mathlib.Core.List.{List, [], ◌∷◌, ◌++◌}
use mathlib.Core.Logic.{by_cases}
use mathlib.Core.Path.{◌≡◌, refl, sym, ap, ◌∙◌}
use native.Mathlib.Decide.{dec_lt}
use native.Mathlib.Omega.{arith}
use lib.ListN.{length, get_or, set}
use lib.Seq.{set_comm}
use lib.Dec.{ltb, eqb}
use borrow.Author.Tests.{ltb-true, lt-ltb, eq-eqb, ne_eqb}
use Rattle.records.specs.Base.{all}
use Rattle.records.specs.Room.{Room, IsSound, vm_of, node_of, place_ok}
use Rattle.records.specs.Plan.{Step}
use Rattle.records.proofs.Laws.Bools.{all_head, all_tail}
use Rattle.records.proofs.Laws.Rows.{place-node, node-on, near-node, far-off}
use Rattle.rules.specs.Moments.{bears, bears_at, with_vm, tally_at, first_moment, all_running}
use Rattle.rules.specs.Orders.{meets_mate}
use Rattle.rules.specs.Rules.{allowed, aims, in_turn, sound_step}
use Rattle.rules.specs.Inner.{NeedOf, held, dests_from, busy_from, Allows}
use Rattle.rules.specs.declared.tally.Need.{Need}
use Rattle.rules.specs.declared.tally.Tally.{Tally}
use Rattle.rules.proofs.Laws.Bears.{at-node}
use Rattle.rules.proofs.Laws.Adding.{eqb-sym, joins, adding}
use Rattle.rules.proofs.Laws.Fit.{aims-place, held_at, running-is}
use Rattle.rules.proofs.Laws.Sound.{sound-named}
use Rattle.planner.specs.Picks.{moving}
use Rattle.planner.specs.Inner.{held_back, Waiting, joins_in}
use Rattle.planner.proofs.Laws.Waits.{marked-waits, unmarked-free}

-- ---- places

pub node-place : (room : Room) (d : ℕ) → d < length room.nodes → place_ok true (length room.nodes) d ≡ true
node-place room d h = sym (place-node true (length room.nodes) d h)

-- a place below 64 is a node
pub place-node-there : (room : Room) (d : ℕ) → IsSound room → place_ok true (length room.nodes) d ≡ true → d < 64 → d < length room.nodes
place-node-there room d w a h = near-node (length room.nodes) d w.nodes-most a h

-- ---- the tests, one by one

pub with-is : (room : Room) (v : ℕ) (need : Need) (here sum : Tally) → sum ≡ record { memory = here.memory + need.memory; cpu = here.cpu + need.cpu } →
    NeedOf room v need → sum ≡ with_vm here (vm_of room v)
with-is room v need here sum e n = e ∙ (λ i. record { memory = here.memory + n.memory i; cpu = here.cpu + n.cpu i })

module _ (room : Room) (places dests : List ℕ) (here : Tally) (v d : ℕ) where
  pub join-stays : (p : ℕ) → p ≡ get_or places v 0 → p ≡ d → false ≡ joins_in room places dests here v d
  unfolding joins_in
  join-stays p e f = rw (eq-eqb (get_or places v 0) d (sym e ∙ f))

  module _ (p : ℕ) (e : p ≡ get_or places v 0) (f : p ≡ d → ⊥) where
    leaves : eqb (get_or places v 0) d ≡ false
    leaves = ne_eqb (get_or places v 0) d (λ x. f (e ∙ x))

    module _ (marks : List Bool) (m : Waiting room places marks) (t : v < length room.vms) where
      -- a VM that waits goes nowhere
      pub join-waits : get_or marks v false ≡ true → false ≡ joins_in room places dests here v d
      unfolding joins_in
      join-waits n = rw (leaves, marked-waits room places marks v m t n)
          (late (allowed room v d) (bears_at room d (with_vm here (vm_of room v)) (vm_of room v))
          (not (meets_mate room (busy_from places dests 0 (length room.vms)) v d)))
        where
          late : (a b c : Bool) → false ≡ (a && (b && (c && false)))
          late true true true = refl
          late true true false = refl
          late true false c = refl
          late false b c = refl

      -- to no node nothing else is asked
      pub join-off : IsSound room → place_ok true (length room.nodes) d ≡ true → get_or marks v false ≡ false → 64 ≤ d → true ≡ joins_in room places dests here v d
      unfolding joins_in allowed bears_at meets_mate
      join-off w a n h = rw (leaves, far-off (length room.nodes) d w.nodes-most a h, unmarked-free room places marks v m t n)

    module _ (table : List (List Bool)) (a : Allows room table) (w : IsSound room) (t : v < length room.vms) (n : d < length room.nodes) where
      marked : get_or (get_or table v []) d false ≡ allowed room v d
      marked = let b = w.nodes-most in a.each v d t (omega arith)

      pub join_kept : get_or (get_or table v []) d false ≡ false → false ≡ joins_in room places dests here v d
      unfolding joins_in
      join_kept z = rw (leaves, sym marked ∙ z)

      module _ (z : get_or (get_or table v []) d false ≡ true) (ok : Bool)
          (o : ok ≡ bears (node_of room d) (with_vm here (vm_of room v)) (vm_of room v)) where
        bears-is : bears_at room d (with_vm here (vm_of room v)) (vm_of room v) ≡ ok
        bears-is = at-node room d (with_vm here (vm_of room v)) (vm_of room v) (node-on (length room.nodes) d w.nodes-most n) ∙ sym o

        pub join-full : ok ≡ false → false ≡ joins_in room places dests here v d
        unfolding joins_in
        join-full q = rw (leaves, sym marked ∙ z, bears-is ∙ q)

        pub join-met : (met : Bool) (marks : List Bool) → met ≡ meets_mate room (busy_from places dests 0 (length room.vms)) v d → Waiting room places marks → get_or marks v false ≡ false → ok ≡ true →
            not met ≡ joins_in room places dests here v d
        unfolding joins_in
        join-met met marks x m f q =
            rw (leaves, sym marked ∙ z, bears-is ∙ q, x, unmarked-free room places marks v m t f)
            (sym (and-true (not (meets_mate room (busy_from places dests 0 (length room.vms)) v d))))

-- ---- the step with one move more

-- the array of its destinations
pub dests-longer : (step : Step) (v d : ℕ) → all (λ move. ltb move.vm v) step ≡ true →
    dests_from (step ++ (moving v d ∷ [])) ≡ set (dests_from step) v d
unfolding dests_from
dests-longer [] v d a = refl
dests-longer (move ∷ moves) v d a =
    let h = ltb-true move.vm v (all_head (λ m. ltb m.vm v) move moves a) in
    ap (λ (l : List ℕ). set l move.vm move.to) (dests-longer moves v d (all_tail (λ m. ltb m.vm v) move moves a)) ∙
    set_comm (dests_from moves) v move.vm d move.to (λ e. omega arith)

-- what the arrays give is what the step gives
module _ (room : Room) (places dests : List ℕ) (step : Step) (here : Tally) (v d : ℕ) (w : IsSound room) (q : dests ≡ dests_from step)
    (sound : sound_step room (held room places) step ≡ true)
    (h : d < 64 → here ≡ tally_at room d (all_running (first_moment room (held room places) step))) (t : v < length room.vms) (n : aims room v d ≡ true)
    (turn : eqb (get_or places v 0) d ≡ false → in_turn room (held room places) (step ++ (moving v d ∷ [])) ≡ not (held_back room (held room places) v)) where
  -- the tally of what is no node is not asked for
  same-bears : bears_at room d (with_vm here (vm_of room v)) (vm_of room v) ≡
      bears_at room d (with_vm (tally_at room d (all_running (first_moment room (held room places) step))) (vm_of room v)) (vm_of room v)
  unfolding bears_at
  same-bears =
      by_cases (dec_lt d 64) (λ l. ap (λ (x : Tally). bears_at room d (with_vm x (vm_of room v)) (vm_of room v)) (h l))
      (λ l. rw (far-off (length room.nodes) d w.nodes-most (aims-place room v d n) (omega arith)))

  pub joins-is : joins_in room places dests here v d ≡ joins room (held room places) step v d
  unfolding joins_in joins
  joins-is =
      rw (
        lt-ltb v (length room.vms) t,
        n,
        held_at room places v t,
        eqb-sym d (get_or places v 0),
        same-bears,
        q,
        running-is room places step w (sound-named room (held room places) step sound),
      )
      (go (eqb (get_or places v 0) d) turn (allowed room v d)
      (bears_at room d (with_vm (tally_at room d (all_running (first_moment room (held room places) step))) (vm_of room v)) (vm_of room v))
      (not (meets_mate room (all_running (first_moment room (held room places) step)) v d)))
    where
      go : (b : Bool) → (b ≡ false → in_turn room (held room places) (step ++ (moving v d ∷ [])) ≡ not (held_back room (held room places) v)) →
          (x y z : Bool) → (not b && (x && (y && (z && not (held_back room (held room places) v))))) ≡
          (not b && (x && (y && (z && in_turn room (held room places) (step ++ (moving v d ∷ []))))))
      go true e x y z = refl
      go false e x y z = ap (λ (c : Bool). x && (y && (z && c))) (sym (e refl))

  module _ (a : all (λ move. ltb move.vm v) step ≡ true) where
    pub longer-sound : sound_step room (held room places) (step ++ (moving v d ∷ [])) ≡ joins_in room places dests here v d
    longer-sound = adding room (held room places) step v d sound a ∙ sym joins-is
