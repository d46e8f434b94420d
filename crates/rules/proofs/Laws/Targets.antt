-- Laws on the target: the passes for refusals 8, 9 and 19, and that they decide what the definitions say.
use Prim.Native.Nat.{ℕ, zero, suc, ◌+◌, ◌-◌, ◌≤◌, ◌<◌}
use mathlib.Core.Bool.{Bool, true, false, ◌&&◌, ◌||◌}
use mathlib.Core.List.{List, [], ◌∷◌}
use mathlib.Core.Path.{◌≡◌, refl, sym, ap, ◌∙◌}
use native.Mathlib.Numerals.{add-one}
use native.Mathlib.Omega.{arith}
use lib.ListN.{length, get_or, drop, replicate, get_or-replicate}
use lib.Dec.{eqb, leb}
use Rattle.std.specs.Prelude.{Some, None}
use Rattle.std.proofs.lemmas.Bool.{ltb-true, ltb-false, le-leb, lt-leb}
use Rattle.std.proofs.lemmas.Grind.{common_steps}
use Rattle.std.proofs.lemmas.List.Folds.{list_all_at}
use Rattle.std.proofs.lemmas.List.Quantifiers.{position-Some}
use Rattle.std.proofs.lemmas.List.Sums.{fails_before_first}
use Rattle.std.specs.List.{list_all, list_any, position, position_or_len, range_with_len}
use Rattle.records.specs.Base.{all}
use Rattle.records.specs.Room.{Constraint, ban, fence, spread, latency, before, kind_of, vms_of, nodes_of, groups_of, list_ok, node_of, vm_of, Room, IsSound}
use Rattle.records.specs.Inner.{Below}
use Rattle.records.specs.declared.constraints.Kind.TheVariants.{Ban, Fence, Spread, Latency, Before}
use Rattle.records.proofs.Laws.Bools.{and_left, and_right}
use Rattle.records.proofs.Laws.Lists.{list-below}
use Rattle.rules.specs.Moments.{place_of, target_of, within, empty_tally, tally_at, first_moment}
use Rattle.rules.specs.Orders.{some}
use Rattle.rules.specs.Rules.{from, fits_all, named}
use Rattle.rules.specs.Verdict.{home}
use Rattle.rules.specs.Inner.{held, dests_from, busy_from, Ready, Loads, only, all_but, go_unmet, fits_up_to, clear_of, on_some_node, all_down, group_holds, keeps_in}
use Rattle.rules.specs.declared.tally.Tally.{Tally}
use Rattle.rules.proofs.Laws.Kept.{some_same}
use Rattle.rules.proofs.Laws.Places.{target_at}
use Rattle.rules.proofs.Laws.Fit.{running-is, held_at}
use Rattle.rules.proofs.Laws.Adding.{empty-running}

-- ---- counting up: a test of all numbers from d on

from_suc : (test : ℕ → Bool) (d k : ℕ) → all test (from d (suc k)) ≡ (test d && all test (from (suc d) k))
unfolding all from
from_suc test d k = refl

from_more : (test : ℕ → Bool) (d n : ℕ) → d < n → all test (from d (n - d)) ≡ (test d && all test (from (d + 1) (n - (d + 1))))
from_more test d n h =
    let e : n - d ≡ suc (n - (d + 1)) = omega arith in
    rw (e, add-one d) (from_suc test d (n - (suc d)))

from-none : (test : ℕ → Bool) (d n : ℕ) → n ≤ d → all test (from d (n - d)) ≡ true
unfolding all from
from-none test d n h = let e : n - d ≡ 0 = omega arith in rw e

-- the same in std's words
all-counted : (p q : ℕ → Bool) (v n : ℕ) → ((u : ℕ) → u < v + n → p u ≡ q u) → list_all p (range_with_len v n) ≡ all q (from v n)
unfolding all from
all-counted p q v zero e = refl
all-counted p q v (suc n) e =
    let rest : list_all p (range_with_len (v + 1) n) ≡ all q (from (suc v) n) = rw (add-one v) (all-counted p q (suc v) n (λ u h. e u (omega arith))) in
    rw (e v (omega arith), rest) refl

-- ---- 8: the pass over the nodes

module _ (room : Room) (sums : List Tally) (d : ℕ) where
  pub fits-cons : d < length room.nodes →
      fits_up_to room sums d (length room.nodes - d) ≡ (within (node_of room d) (get_or sums d empty_tally) && fits_up_to room sums (d + 1) (length room.nodes - (d + 1)))
  unfolding fits_up_to
  fits-cons = from_more (λ k. within (node_of room k) (get_or sums k empty_tally)) d (length room.nodes)

  -- a node that bears its tally leaves the rest to decide
  pub fit-more : (ok result : Bool) → ok ≡ within (node_of room d) (get_or sums d empty_tally) → fits_up_to room sums d (length room.nodes - d) ≡ result → d < length room.nodes →
      ok ≡ true → fits_up_to room sums (d + 1) (length room.nodes - (d + 1)) ≡ result
  fit-more ok result e inv h o = simp (sym e ∙ o) at (sym (fits-cons h) ∙ inv)

  pub fits-none : length room.nodes ≤ d → fits_up_to room sums d (length room.nodes - d) ≡ true
  unfolding fits_up_to
  fits-none = from-none (λ k. within (node_of room k) (get_or sums k empty_tally)) d (length room.nodes)

-- VMs at rest are those of a step without moves
pub no-moves : (room : Room) (places : List ℕ) → named room (held room places) 0 [] ≡ true
unfolding named
no-moves room places = refl

pub dests-none : dests_from [] ≡ replicate 256 64
unfolding dests_from
dests-none = refl

pub rest-ready : (room : Room) (places : List ℕ) → Ready room places (replicate 256 64)
rest-ready room places = record { leaves = λ v h b l x. let e = get_or-replicate {A = ℕ} 256 v 64 0 b in omega arith }

all-from-same : (p q : ℕ → Bool) (d n most : ℕ) → ((k : ℕ) → k < most → p k ≡ q k) → d + n ≤ most → all p (from d n) ≡ all q (from d n)
unfolding all from
all-from-same p q d zero most e h = refl
all-from-same p q d (suc n) most e h = rw (e d (omega arith), all-from-same p q (suc d) n most e (omega arith))

pub rest-fits : (room : Room) (places : List ℕ) (sums : List Tally) → Loads room places (replicate 256 64) sums → IsSound room →
    fits_up_to room sums 0 (length room.nodes) ≡ fits_all room (held room places)
unfolding fits_up_to fits_all
rest-fits room places sums l w =
    all-from-same (λ k. within (node_of room k) (get_or sums k empty_tally)) (λ d. within (node_of room d) (tally_at room d (first_moment room (held room places) [])))
    0 (length room.nodes) 64 (λ k h. ap (within (node_of room k)) (l.each k (omega arith) ∙ ap (tally_at room k) moment)) (let m = w.nodes-most in omega arith)
  where
    moment : busy_from places (replicate 256 64) 0 (length room.vms) ≡ first_moment room (held room places) []
    moment =
        ap (λ (x : List ℕ). busy_from places x 0 (length room.vms)) (sym dests-none) ∙ running-is room places [] w (no-moves room places) ∙
        empty-running room (held room places)

-- the same of the nodes in std's words
pub rest-counted : (room : Room) (places : List ℕ) (sums : List Tally) → Loads room places (replicate 256 64) sums → IsSound room →
    list_all (λ d. within (node_of room d) (get_or sums d empty_tally)) (range_with_len 0 (length room.nodes)) ≡ fits_all room (held room places)
unfolding fits_up_to
rest-counted room places sums l w = all-counted _ (λ d. within (node_of room d) (get_or sums d empty_tally)) 0 (length room.nodes) (λ u h. refl) ∙ rest-fits room places sums l w

-- ---- 19: every VM on its target

pub home-counted : (room : Room) (places : List ℕ) → list_all (λ v. eqb (get_or places v 0) (vm_of room v).target) (range_with_len 0 (length room.vms)) ≡ home room (held room places)
unfolding home
home-counted room places =
    all-counted _ (λ u. eqb (place_of (held room places) u) (place_of (target_of room) u)) 0 (length room.vms) (λ u h. rw (← held_at room places u (omega (arith, h)), ← target_at room u) refl)

-- ---- 9: the VMs before the first that is on a node

-- VMs on no node are clear of any nodes
clear-skip : (stop : List Bool) (places vms : List ℕ) (n : ℕ) → ((k : ℕ) → k < n → on_some_node places (get_or vms k 0) ≡ false) →
    clear_of stop places (drop n vms) ≡ clear_of stop places vms
clear-skip stop places vms zero down = refl
clear-skip stop places [] (suc n) down = refl
clear-skip stop places (v ∷ vs) (suc n) down =
    let far : leb 64 (get_or places v 0) ≡ true = le-leb 64 (get_or places v 0) (ltb-false (get_or places v 0) 64 (down 0 (omega arith))) in
    rw far (clear-skip stop places vs n (λ k l. down (suc k) (omega arith)))

down-skip : (places vms : List ℕ) → ((k : ℕ) → k < length vms → on_some_node places (get_or vms k 0) ≡ false) → all_down places vms ≡ true
down-skip places [] down = refl
down-skip places (v ∷ vs) down =
    let far : leb 64 (get_or places v 0) ≡ true = le-leb 64 (get_or places v 0) (ltb-false (get_or places v 0) 64 (down 0 (omega arith))) in
    rw far (down-skip places vs (λ k l. down (suc k) (omega arith)))

module _ (places vms : List ℕ) (groups : List (List ℕ)) where
  pub together-none : position (on_some_node places) vms ≡ None → true ≡ (all_down places vms || some (group_holds places vms) groups)
  together-none e =
      let past : length vms ≤ position_or_len (on_some_node places) vms = grind (arith, common_steps) in
      rw (down-skip places vms (λ k l. fails_before_first (on_some_node places) vms k 0 (omega arith))) refl

  -- the first that is on a node is not down, so some group has to have it
  up-first : (first : ℕ) → position (on_some_node places) vms ≡ Some first → all_down places vms ≡ false
  up-first first e =
      let at = position-Some (on_some_node places) vms first 0 e in
      list_all_at (λ v. leb 64 (get_or places v 0)) vms first 0 at.0 (lt-leb 64 (get_or places (get_or vms first 0) 0) (ltb-true (get_or places (get_or vms first 0) 0) 64 at.1))

  pub together-first : (first : ℕ) → position (on_some_node places) vms ≡ Some first → some (group_holds places (drop first vms)) groups ≡ (all_down places vms || some (group_holds places vms) groups)
  together-first first e =
      rw (up-first first e)
      (some_same (group_holds places (drop first vms)) (group_holds places vms) (λ g. clear-skip (all_but g) places vms first (position-Some (on_some_node places) vms first 0 e).2) groups)

-- ---- 9: the pass over the groups

-- each of sound groups, by its place
pub groups-below : (g : List ℕ) (groups : List (List ℕ)) (k : ℕ) → all (list_ok 64) groups ≡ true → k < length groups → g ≡ get_or groups k g → Below 64 g
unfolding all
groups-below g [] k sound h e = absurd (omega arith)
groups-below g (group ∷ groups) zero sound h e =
    rw e (list-below 64 64 group (and_left (list_ok 64 group) (all (list_ok 64) groups) sound) (omega arith) (omega arith))
groups-below g (group ∷ groups) (suc k) sound h e =
    groups-below g groups k (and_right (list_ok 64 group) (all (list_ok 64) groups) sound) (omega arith) e

-- a test of some element in std's word and in ours
pub any-some : {A : Type 0} (p : A → Bool) (xs : List A) → list_any p xs ≡ some p xs
unfolding some
any-some p [] = refl
any-some p (x ∷ xs) = rw (any-some p xs) refl

-- ---- 9: a constraint, by its kind

module _ (places : List ℕ) where
  pub kept-ban : (k : Constraint) → kind_of k ≡ Ban → clear_of (only (nodes_of k)) places (vms_of k) ≡ keeps_in places k
  unfolding keeps_in kind_of vms_of nodes_of
  kept-ban (ban vms nodes) e = refl
  kept-ban (fence vms nodes) e = cc
  kept-ban (spread vms) e = cc
  kept-ban (latency vms groups) e = cc
  kept-ban (before first second) e = cc

  pub kept-fence : (k : Constraint) → kind_of k ≡ Fence → clear_of (all_but (nodes_of k)) places (vms_of k) ≡ keeps_in places k
  unfolding keeps_in kind_of vms_of nodes_of
  kept-fence (ban vms nodes) e = cc
  kept-fence (fence vms nodes) e = refl
  kept-fence (spread vms) e = cc
  kept-fence (latency vms groups) e = cc
  kept-fence (before first second) e = cc

  pub kept-spread : (k : Constraint) → kind_of k ≡ Spread → go_unmet (replicate 256 false) places (vms_of k) ≡ keeps_in places k
  unfolding keeps_in kind_of vms_of
  kept-spread (ban vms nodes) e = cc
  kept-spread (fence vms nodes) e = cc
  kept-spread (spread vms) e = refl
  kept-spread (latency vms groups) e = cc
  kept-spread (before first second) e = cc

  pub kept-latency : (k : Constraint) → kind_of k ≡ Latency → (all_down places (vms_of k) || some (group_holds places (vms_of k)) (groups_of k)) ≡ keeps_in places k
  unfolding keeps_in kind_of vms_of groups_of
  kept-latency (ban vms nodes) e = cc
  kept-latency (fence vms nodes) e = cc
  kept-latency (spread vms) e = cc
  kept-latency (latency vms groups) e = refl
  kept-latency (before first second) e = cc

  pub kept-before : (k : Constraint) → kind_of k ≡ Before → true ≡ keeps_in places k
  unfolding keeps_in kind_of
  kept-before (ban vms nodes) e = cc
  kept-before (fence vms nodes) e = cc
  kept-before (spread vms) e = cc
  kept-before (latency vms groups) e = cc
  kept-before (before first second) e = refl
