-- What the views of a cluster say of the bytes that they stand on: the room of a record that was read, a constraint of it, and the walks
-- over constraints and groups.
use Prim.Native.Nat.{ℕ, suc, ◌+◌, ◌-◌, ◌≤◌}
use mathlib.Core.Bool.{true}
use mathlib.Core.List.{List, [], ◌∷◌, map}
use mathlib.Core.Logic.{by_cases}
use native.Mathlib.Decide.{dec_lt}
use mathlib.Core.Path.{◌≡◌, refl, sym, ap, ◌∙◌}
use native.Mathlib.Omega.{arith}
use lib.ListN.{length, take, drop, length-drop}
use Rattle.std.proofs.lemmas.List.{drop-drop}
use Rattle.std.specs.Prelude.{◌≢◌}
use lib.Dec.{ltb, leb}
use borrow.Author.Tests.{ltb-true, lt-ltb}
use Rattle.records.specs.Base.{all}
use Rattle.records.specs.Bytes.{byte_at}
use Rattle.records.specs.Room.{Constraint, ban, fence, spread, latency, before, kind_of, vms_of, nodes_of, groups_of, node_count, vm_count, parts_of, nodes_at, nodes_end, groups_from, groups_end, room_of, room_at, at_reserve, list_ok, rises, constraint_of, constraint_ok, filled, well_formed}
use Rattle.records.specs.Inner.{Below, WasRead}
use Rattle.records.specs.declared.constraints.Kind.TheVariants.{Ban, Fence, Latency, Before}
use Rattle.records.proofs.Laws.Bools.{and_left, and_right, and_both, all_more}
use Rattle.records.proofs.Laws.Lists.{groups-behind, end-behind, list-below}
use Rattle.records.proofs.Laws.Constraints.{kind_within}
use Rattle.records.proofs.Laws.Groups.{groups-on}
use Rattle.records.proofs.Laws.Cluster.{undamaged, nodes-most, vms-most}
use Rattle.records.proofs.Laws.Walk.{nodes-sound, groups-sound, groups_few}

-- ---- a constraint in range for fewer VMs and nodes is so for more

list-ok_more : (low high : ℕ) (l : List ℕ) → low ≤ high → list_ok low l ≡ true → list_ok high l ≡ true
unfolding list_ok
list-ok_more low high l h e =
    and_both (and_left (rises l) _ e)
    (all_more (λ x. ltb x low) (λ x. ltb x high) (λ x k. let w = ltb-true x low k in lt-ltb x high (omega arith)) l (and_right (rises l) _ e))

module _ (v n w m : ℕ) (h : v ≤ w) (k : n ≤ m) where
  constraint-ok_more : (c : Constraint) → constraint_ok v n c ≡ true → constraint_ok w m c ≡ true
  unfolding constraint_ok
  constraint-ok_more (ban vms nodes) e =
      and_both (list-ok_more v w vms h (and_left (list_ok v vms) _ e)) (list-ok_more n m nodes k (and_right (list_ok v vms) _ e))
  constraint-ok_more (fence vms nodes) e =
      and_both (list-ok_more v w vms h (and_left (list_ok v vms) _ e)) (list-ok_more n m nodes k (and_right (list_ok v vms) _ e))
  constraint-ok_more (spread vms) e = list-ok_more v w vms h e
  constraint-ok_more (latency vms groups) e =
      let r = and_right (list_ok v vms) _ e in
      let q = and_right (leb (length groups) 64) _ r in
      and_both (list-ok_more v w vms h (and_left (list_ok v vms) _ e))
      (and_both (and_left (leb (length groups) 64) _ r)
      (and_both (all_more (list_ok n) (list_ok m) (λ g. list-ok_more n m g k) groups (and_left (all (list_ok n) groups) _ q)) (and_right (all (list_ok n) groups) _ q)))
  constraint-ok_more (before first second) e =
      let r = and_right (ltb first v) _ e in
      let a = ltb-true first v (and_left (ltb first v) _ e) in
      let b = ltb-true second v (and_left (ltb second v) _ r) in
      and_both (lt-ltb first w (omega arith)) (and_both (lt-ltb second w (omega arith)) (and_right (ltb second v) _ r))

  well-formed_more : (p : List ℕ) → well_formed v n p ≡ true → well_formed w m p ≡ true
  unfolding well_formed
  well-formed_more p e =
      and_both (and_left (filled p) _ e) (constraint-ok_more (constraint_of p) (and_right (filled p) _ e))

-- ---- the fields of a constraint

pub formed_filled : (p : List ℕ) → well_formed 256 64 p ≡ true → filled p ≡ true
unfolding well_formed
formed_filled p e = and_left (filled p) (constraint_ok 256 64 (constraint_of p)) e

pub formed_within : (p : List ℕ) → well_formed 256 64 p ≡ true → 5 ≤ length p
formed_within p e = kind_within p (formed_filled p e)

formed-ok : (p : List ℕ) → well_formed 256 64 p ≡ true → constraint_ok 256 64 (constraint_of p) ≡ true
unfolding well_formed
formed-ok p e = and_right (filled p) (constraint_ok 256 64 (constraint_of p)) e

pub formed-nodes : (p l : List ℕ) → well_formed 256 64 p ≡ true → l ≡ nodes_of (constraint_of p) → Below 64 l
formed-nodes p l e q = rw q (list-below 64 64 (nodes_of (constraint_of p)) (nodes-sound 256 64 (constraint_of p) (formed-ok p e)) (omega arith) (omega arith))

pub formed-groups : (p : List ℕ) → well_formed 256 64 p ≡ true → all (list_ok 64) (groups_of (constraint_of p)) ≡ true
formed-groups p e = groups-sound 256 64 (constraint_of p) (formed-ok p e)

-- ---- the constraints that are left

pub parts_formed : (reserve : ℕ) (s : List ℕ) → WasRead reserve s → all (well_formed 256 64) (parts_of s) ≡ true
parts_formed reserve s w =
    all_more (well_formed (vm_count s) (node_count s)) (well_formed 256 64)
    (well-formed_more (vm_count s) (node_count s) 256 64 (vms-most s w.whole) (nodes-most s w.whole))
    (parts_of s) (undamaged s w.whole).parts

pub parts_all : (reserve : ℕ) (s : List ℕ) → map constraint_of (parts_of s) ≡ (room_at reserve s).constraints
unfolding at_reserve room_of
parts_all reserve s = refl

-- ---- lists that a kind has not

pub no-vms : (c : Constraint) → kind_of c ≡ Before → [] ≡ vms_of c
unfolding kind_of vms_of
no-vms (ban vms nodes) k = let z : ◌≡◌ {A = ℕ} 0 1 = cc in absurd (omega arith)
no-vms (fence vms nodes) k = let z : ◌≡◌ {A = ℕ} 0 1 = cc in absurd (omega arith)
no-vms (spread vms) k = let z : ◌≡◌ {A = ℕ} 0 1 = cc in absurd (omega arith)
no-vms (latency vms groups) k = let z : ◌≡◌ {A = ℕ} 0 1 = cc in absurd (omega arith)
no-vms (before first second) k = refl

pub no-nodes : (c : Constraint) → kind_of c ≢ Ban → kind_of c ≢ Fence → [] ≡ nodes_of c
unfolding kind_of nodes_of
no-nodes (ban vms nodes) a b = absurd (a refl)
no-nodes (fence vms nodes) a b = absurd (b refl)
no-nodes (spread vms) a b = refl
no-nodes (latency vms groups) a b = refl
no-nodes (before first second) a b = refl

pub no-groups : (c : Constraint) → kind_of c ≢ Latency → groups_from [] 0 0 ≡ groups_of c
unfolding kind_of groups_of groups_from
no-groups (ban vms nodes) a = refl
no-groups (fence vms nodes) a = refl
no-groups (spread vms) a = refl
no-groups (latency vms groups) a = absurd (a refl)
no-groups (before first second) a = refl

-- ---- the groups that are left

module _ (p : List ℕ) (c : Constraint) (w : well_formed 256 64 p ≡ true) (e : constraint_of p ≡ c) (groups : List (List ℕ)) (g : groups ≡ groups_of c) where
  pub groups_sound : all (list_ok 64) groups ≡ true
  groups_sound = ap (all (list_ok 64)) (g ∙ ap groups_of (sym e)) ∙ formed-groups p w

  pub groups_most : length groups ≤ 64
  groups_most = rw (g, ← e) (groups_few 256 64 (constraint_of p) (formed-ok p w))

module _ (rest : List ℕ) (n : ℕ) (w : groups_end rest 0 n ≡ length rest) where
  groups-one : (m : ℕ) → n ≡ suc m → (groups_end rest (nodes_end rest 0) m ≡ length rest) × (groups_from rest 0 n ≡ nodes_at rest 0 ∷ groups_from rest (nodes_end rest 0) m)
  unfolding groups_end groups_from
  groups-one m e = (sym (ap (groups_end rest 0) e) ∙ w, ap (groups_from rest 0) e)

  pub groups_none : length rest ≡ 0 → groups_from rest 0 n ≡ []
  unfolding groups_from
  groups_none z =
      by_cases (dec_lt 0 n)
      (λ q. let h = (groups-one (n - 1) (omega arith)).0 in let o = groups-on rest (nodes_end rest 0) (n - 1) in absurd (omega arith))
      (λ q. let y : n ≡ 0 = omega arith in rw y refl)

  module _ (x : ℕ) (tail : List ℕ) (e : rest ≡ x ∷ tail) where
    pub group_left : 1 ≤ n
    unfolding groups_end
    group_left =
        by_cases (dec_lt 0 n) (λ q. omega arith)
        (λ q. let y : n ≡ 0 = omega arith in let l : length rest ≡ suc (length tail) = ap length e in let v = rw y at w in absurd (omega arith))

    one : (groups_end rest (nodes_end rest 0) (n - 1) ≡ length rest) × (groups_from rest 0 n ≡ nodes_at rest 0 ∷ groups_from rest (nodes_end rest 0) (n - 1))
    one = groups-one (n - 1) (let l = group_left in omega arith)

    count : byte_at rest 0 ≡ x
    count = ap (λ (l : List ℕ). byte_at l 0) e

    pub group_fits : x ≤ length tail
    group_fits =
        let l : length rest ≡ suc (length tail) = ap length e in
        let h = one.0 in
        let o = groups-on rest (nodes_end rest 0) (n - 1) in
        let y = count in
        omega arith

    behind : drop (nodes_end rest 0) rest ≡ drop x tail
    behind = let y : nodes_end rest 0 ≡ 1 + x = omega (arith, count) in ap (λ (i : ℕ). drop i rest) y ∙ ap (drop (1 + x)) e ∙ sym (drop-drop x 1 (x ∷ tail))

    pub group_next : groups_end (drop x tail) 0 (n - 1) ≡ length (drop x tail)
    group_next =
        let h = one.0 in
        let i = end-behind rest (nodes_end rest 0) 0 (nodes_end rest 0) (omega arith) (n - 1) in
        rw (← behind) (simp length-drop (omega arith))

    pub group_is : groups_from rest 0 n ≡ take x tail ∷ groups_from (drop x tail) 0 (n - 1)
    unfolding nodes_at
    group_is =
        one.1 ∙
        rw (← behind, ← groups-behind rest (nodes_end rest 0) 0 (nodes_end rest 0) (omega arith) (n - 1), count, e) refl
