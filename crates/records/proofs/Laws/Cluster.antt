-- Laws on the whole cluster record: each refusal in its turn, and what an undamaged record has.
use Prim.Native.Nat.{ℕ, ◌+◌, ◌*◌, ◌≤◌, ◌<◌, ◌^◌}
use mathlib.Core.Bool.{Bool, true, false, not, ◌&&◌, ◌||◌}
use mathlib.Core.List.{List}
use mathlib.Core.Logic.{by_cases}
use mathlib.Core.Path.{◌≡◌, refl, sym, ap, ◌∙◌}
use native.Mathlib.Decide.{dec_lt}
use native.Mathlib.Omega.{arith}
use lib.ListN.{length, get_or-eq_default}
use lib.Dec.{ltb, leb, eqb}
use mir.Syntax.{w8}
use mir.Val.{Fits}
use borrow.Author.Tests.{ne_eqb, ltb-false, leb-true, eqb-true, not-false}
use Rattle.records.specs.Base.{pick, all}
use Rattle.records.specs.Bytes.{byte_at, be16, be24, be32, version_of, known_version, AreBytes}
use Rattle.records.specs.Room.{Node, Vm, no_node, no_vm, node_of, vm_of, node_row, vm_row, node_count, vm_count, constraint_count, vms_start, constraints_start, room_of, parts_of, parts_end, knows_nowhere, length_ok, counts_ok, place_ok, vm_ok, well_formed, cluster_check, ClusterRead}
use Rattle.records.specs.declared.faults.ClusterFault.{ClusterFault}
use Rattle.records.specs.declared.faults.ClusterFault.TheVariants.{TooShort, Version, Length, Counts, Fill, VmRow, Constraint}
use Rattle.std.specs.Prelude.{Result, Ok, Err, slice_index_or}
use Rattle.records.proofs.Laws.Bools.{and_left, and_right, all-at}
use Rattle.records.proofs.Laws.Rows.{rows-length, rows_at, place-below, place-node}
use Rattle.records.proofs.Laws.Parts.{parts-on}

-- ---- what the later tests need of the earlier ones

pub counts-nodes-most : (s : List ℕ) (ok : Bool) → ok ≡ counts_ok s → ok ≡ true → node_count s ≤ 64
unfolding counts_ok
counts-nodes-most s ok e o =
    leb-true (node_count s) 64 (and_left (leb (node_count s) 64) (leb (vm_count s) 256 && leb (constraint_count s) 128)
    (and_right (leb 1 (node_count s)) (leb (node_count s) 64 && (leb (vm_count s) 256 && leb (constraint_count s) 128)) (sym e ∙ o)))

module _ (s : List ℕ) (ok : Bool) (e : ok ≡ eqb (parts_end s (constraints_start s) (constraint_count s)) (length s)) (o : ok ≡ true) where
  pub filled-ends : parts_end s (constraints_start s) (constraint_count s) ≡ length s
  filled-ends = eqb-true (parts_end s (constraints_start s) (constraint_count s)) (length s) (sym e ∙ o)

  pub filled-rows : constraints_start s ≤ length s
  filled-rows = let w = filled-ends in let v = parts-on s (constraints_start s) (constraint_count s) in omega arith

-- ---- reading a record

-- what is read of a slice is read of bytes
pub read_as_is : (s : List ℕ) (r : Result (Unit {0}) ClusterFault) → ((i : ℕ) → Fits w8 (slice_index_or s i 0)) → r ≡ cluster_check s → ClusterRead s r
read_as_is s r b e = record { is = e; bytes = λ i. let w = (b i).fits in omega arith }

-- ---- what an undamaged record has

pub record Undamaged (s : List ℕ) : Type 0 where
  pub long : 11 ≤ length s
  pub most : length s ≤ 65535
  pub counts : counts_ok s ≡ true
  pub ends : parts_end s (constraints_start s) (constraint_count s) ≡ length s
  pub rows : all (vm_ok (knows_nowhere s) (node_count s)) (room_of s).vms ≡ true
  pub parts : all (well_formed (vm_count s) (node_count s)) (parts_of s) ≡ true

passed : (test : Bool) (f : ClusterFault) (rest : Result (Unit {0}) ClusterFault) → pick test (Err f) rest ≡ Ok tt → (test ≡ false) × (rest ≡ Ok tt)
passed true f rest e = let z : ◌≡◌ {A = ℕ} 0 1 = cc in absurd (omega arith)
passed false f rest e = (refl, e)

pub or-none : (a b : Bool) → (a || b) ≡ false → (a ≡ false) × (b ≡ false)
or-none true b e = let z : ◌≡◌ {A = ℕ} 0 1 = cc in absurd (omega arith)
or-none false b e = (refl, e)

pub undamaged : (s : List ℕ) → cluster_check s ≡ Ok tt → Undamaged s
unfolding cluster_check
undamaged s w =
    let a = passed (ltb (length s) 11) TooShort _ w in
    let b = passed (not (known_version (version_of s))) Version _ a.1 in
    let c = passed (not (length_ok s)) Length _ b.1 in
    let d = passed (not (counts_ok s)) Counts _ c.1 in
    let e = passed (not (eqb (parts_end s (constraints_start s) (constraint_count s)) (length s))) Fill _ d.1 in
    let f = passed (not (all (vm_ok (knows_nowhere s) (node_count s)) (room_of s).vms)) VmRow _ e.1 in
    let h = not-false (length_ok s) c.0 in
    let g = passed (not (all (well_formed (vm_count s) (node_count s)) (parts_of s))) Constraint (Ok tt) f.1 in
    record {
      long = ltb-false (length s) 11 a.0;
      most = rw (← eqb-true (be32 s 1) (length s) (and_left (eqb (be32 s 1) (length s)) _ h)) (leb-true (be32 s 1) 65535 (and_right (eqb (be32 s 1) (length s)) _ h));
      counts = not-false (counts_ok s) d.0;
      ends = eqb-true (parts_end s (constraints_start s) (constraint_count s)) (length s) (not-false _ e.0);
      rows = not-false (all (vm_ok (knows_nowhere s) (node_count s)) (room_of s).vms) f.0;
      parts = not-false (all (well_formed (vm_count s) (node_count s)) (parts_of s)) g.0;
    }

module _ (s : List ℕ) (w : cluster_check s ≡ Ok tt) where
  pub whole_long : 11 ≤ length s
  whole_long = (undamaged s w).long

  pub whole-most : length s ≤ 65535
  whole-most = (undamaged s w).most

  pub whole-ends : parts_end s (constraints_start s) (constraint_count s) ≡ length s
  whole-ends = (undamaged s w).ends

  pub whole-rows : constraints_start s ≤ length s
  whole-rows = let e = whole-ends in let o = parts-on s (constraints_start s) (constraint_count s) in omega arith

  pub nodes-least : 1 ≤ node_count s
  unfolding counts_ok
  nodes-least = leb-true 1 (node_count s) (and_left (leb 1 (node_count s)) _ (undamaged s w).counts)

  pub nodes-most : node_count s ≤ 64
  nodes-most = counts-nodes-most s (counts_ok s) refl (undamaged s w).counts

  later : (leb (vm_count s) 256 && leb (constraint_count s) 128) ≡ true
  unfolding counts_ok
  later = and_right (leb (node_count s) 64) _ (and_right (leb 1 (node_count s)) _ (undamaged s w).counts)

  pub vms-most : vm_count s ≤ 256
  vms-most = leb-true (vm_count s) 256 (and_left (leb (vm_count s) 256) (leb (constraint_count s) 128) later)

  pub constraints-most : constraint_count s ≤ 128
  constraints-most = leb-true (constraint_count s) 128 (and_right (leb (vm_count s) 256) (leb (constraint_count s) 128) later)

-- ---- places: a node, or nowhere

pub place_ok_lem : (known : Bool) (n place : ℕ) → place_ok known n place ≡ true → place_ok true n place ≡ true
place_ok_lem true n place e = e
place_ok_lem false n place e = sym (place-node true n place (place-below n place e))

-- ---- the nodes and VMs of the room, by their rows

pub nodes-count : (s : List ℕ) → length (room_of s).nodes ≡ node_count s
unfolding room_of
nodes-count s = rows-length (node_row s) 5 11 (node_count s)

pub vms-count : (s : List ℕ) → length (room_of s).vms ≡ vm_count s
unfolding room_of
vms-count s = rows-length (vm_row s) 7 (vms_start s) (vm_count s)

pub node_at : (s : List ℕ) (d : ℕ) → d < node_count s → node_of (room_of s) d ≡ node_row s (11 + d * 5)
unfolding node_of room_of
node_at s d h = rows_at (node_row s) 5 11 (node_count s) d no_node h

pub vm-at : (s : List ℕ) (v : ℕ) → v < vm_count s → vm_of (room_of s) v ≡ vm_row s (vms_start s + v * 7)
unfolding vm_of room_of
vm-at s v h = rows_at (vm_row s) 7 (vms_start s) (vm_count s) v no_vm h

module _ (s : List ℕ) (d at : ℕ) (e : at ≡ 11 + d * 5) (h : d < node_count s) where
  pub node-memory-is : (r : ℕ) → r ≡ be24 s at → r ≡ (node_of (room_of s) d).memory
  unfolding node_row
  node-memory-is r f = f ∙ ap (be24 s) e ∙ ap (λ (n : Node). n.memory) (sym (node_at s d h))

  pub node-cpu-is : (r : ℕ) → r ≡ be16 s (at + 3) → r ≡ (node_of (room_of s) d).cpu
  unfolding node_row
  node-cpu-is r f = f ∙ ap (λ (k : ℕ). be16 s (k + 3)) e ∙ ap (λ (n : Node). n.cpu) (sym (node_at s d h))

module _ (s : List ℕ) (v at : ℕ) (e : at ≡ vms_start s + v * 7) (h : v < vm_count s) where
  row : vm_row s at ≡ vm_of (room_of s) v
  row = ap (vm_row s) e ∙ sym (vm-at s v h)

  pub vm-memory-is : (r : ℕ) → r ≡ be24 s at → r ≡ (vm_of (room_of s) v).memory
  unfolding vm_row
  vm-memory-is r f = f ∙ ap (λ (m : Vm). m.memory) row

  pub vm-cpu-is : (r : ℕ) → r ≡ be16 s (at + 3) → r ≡ (vm_of (room_of s) v).cpu
  unfolding vm_row
  vm-cpu-is r f = f ∙ ap (λ (m : Vm). m.cpu) row

  pub vm-current-is : (r : ℕ) → r ≡ byte_at s (at + 5) → r ≡ (vm_of (room_of s) v).current
  unfolding vm_row
  vm-current-is r f = f ∙ ap (λ (m : Vm). m.current) row

  pub vm-target-is : (r : ℕ) → r ≡ byte_at s (at + 6) → r ≡ (vm_of (room_of s) v).target
  unfolding vm_row
  vm-target-is r f = f ∙ ap (λ (m : Vm). m.target) row

-- the bounds of an undamaged VM row
module _ (s : List ℕ) (v : ℕ) (w : cluster_check s ≡ Ok tt) (h : v < vm_count s) where
  vm-ok : vm_ok (knows_nowhere s) (node_count s) (vm_of (room_of s) v) ≡ true
  unfolding vm_of
  vm-ok = all-at (vm_ok (knows_nowhere s) (node_count s)) (room_of s).vms v no_vm (undamaged s w).rows (rw (vms-count s) h)

  pub vm-memory-least : 1 ≤ (vm_of (room_of s) v).memory
  unfolding vm_ok
  vm-memory-least = leb-true 1 _ (and_left (leb 1 (vm_of (room_of s) v).memory) _ vm-ok)

  pub current-ok : place_ok (knows_nowhere s) (node_count s) (vm_of (room_of s) v).current ≡ true
  unfolding vm_ok
  current-ok = and_left (place_ok (knows_nowhere s) (node_count s) (vm_of (room_of s) v).current) _ (and_right (leb 1 (vm_of (room_of s) v).memory) _ vm-ok)

  pub target_ok : place_ok (knows_nowhere s) (node_count s) (vm_of (room_of s) v).target ≡ true
  unfolding vm_ok
  target_ok = and_right (place_ok (knows_nowhere s) (node_count s) (vm_of (room_of s) v).current) _ (and_right (leb 1 (vm_of (room_of s) v).memory) _ vm-ok)

  pub vm-current-place : place_ok true (node_count s) (vm_of (room_of s) v).current ≡ true
  vm-current-place = place_ok_lem (knows_nowhere s) (node_count s) (vm_of (room_of s) v).current current-ok

  pub vm-target-place : place_ok true (node_count s) (vm_of (room_of s) v).target ≡ true
  vm-target-place = place_ok_lem (knows_nowhere s) (node_count s) (vm_of (room_of s) v).target target_ok

  -- in version 1 both are nodes
  module _ (one : version_of s ≡ 1) where
    unknown : knows_nowhere s ≡ false
    unfolding knows_nowhere
    unknown = ne_eqb (version_of s) 2 (λ e. omega arith)

    pub vm-current-node : (vm_of (room_of s) v).current < node_count s
    vm-current-node = place-below (node_count s) (vm_of (room_of s) v).current (ap (λ (k : Bool). place_ok k (node_count s) (vm_of (room_of s) v).current) (sym unknown) ∙ current-ok)

    pub vm-target-node : (vm_of (room_of s) v).target < node_count s
    vm-target-node = place-below (node_count s) (vm_of (room_of s) v).target (ap (λ (k : Bool). place_ok k (node_count s) (vm_of (room_of s) v).target) (sym unknown) ∙ target_ok)

-- what a VM needs, from the bytes of its row
pub vm-memory-most : (s : List ℕ) (v : ℕ) → AreBytes s → (vm_of (room_of s) v).memory < 2 ^ 24
unfolding vm_of vm_row be24 be16
vm-memory-most s v b =
    by_cases (dec_lt v (vm_count s))
    (λ h. let at = vms_start s + v * 7 in
    let x = b at in let y = b (at + 1) in let z = b (at + 2) in
    rw (ap (λ (m : Vm). m.memory) (vm-at s v h)) (omega arith))
    (λ h. let l : length (room_of s).vms ≤ v = rw (vms-count s) (omega arith) in
    rw (ap (λ (m : Vm). m.memory) (get_or-eq_default (room_of s).vms no_vm l)) (omega arith))
