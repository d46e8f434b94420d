-- What a room that was read has.
use Rattle.std.specs.Prelude.{Ok}
use Prim.Native.Nat.{ℕ, zero, suc, ◌+◌, ◌*◌, ◌≤◌, ◌<◌, ◌^◌}
use mathlib.Core.Bool.{true}
use mathlib.Core.List.{List, [], ◌∷◌, map}
use mathlib.Core.Logic.{by_cases}
use mathlib.Core.Path.{◌≡◌, refl, ap, ◌∙◌}
use native.Mathlib.Decide.{dec_lt}
use native.Mathlib.Omega.{arith}
use lib.ListN.{length, get_or-eq_default, length-map}
use Rattle.records.specs.Base.{all}
use Rattle.records.specs.Bytes.{be16, AreBytes}
use Rattle.records.specs.Room.{Vm, no_vm, vm_of, vm_row, node_count, vm_count, constraint_count, vms_start, constraints_start, parts_from, parts_of, room_of, room_at, at_reserve, constraint_of, constraint_ok, filled, well_formed, cluster_check, IsSound, HasAmounts}
use Rattle.records.proofs.Laws.Bools.{and_right, and_both, all_head, all_tail}
use Rattle.records.proofs.Laws.Cluster.{undamaged, nodes-least, nodes-most, vms-most, constraints-most, vms-count, vm-at, vm-memory-least, vm-memory-most, vm-current-place, vm-target-place}
use Rattle.records.proofs.Laws.Reserve.{room-vms, room-nodes}

-- the VMs and the constraints at a reserve are those of the record
pub vm-at_reserve : (reserve : ℕ) (s : List ℕ) (v : ℕ) → vm_of (room_at reserve s) v ≡ vm_of (room_of s) v
unfolding at_reserve vm_of
vm-at_reserve reserve s v = refl

pub constraints-at_reserve : (reserve : ℕ) (s : List ℕ) → (room_at reserve s).constraints ≡ map constraint_of (parts_of s)
unfolding at_reserve room_of
constraints-at_reserve reserve s = refl

parts-count : (s : List ℕ) (at n : ℕ) → length (parts_from s at n) ≡ n
unfolding parts_from
parts-count s at zero = refl
parts-count s at (suc n) = ap suc (parts-count s (at + 2 + be16 s at) n)

pub room-constraints : (reserve : ℕ) (s : List ℕ) → length (room_at reserve s).constraints ≡ constraint_count s
unfolding parts_of
room-constraints reserve s =
    ap length (constraints-at_reserve reserve s) ∙ length-map (parts_of s) constraint_of ∙ parts-count s (constraints_start s) (constraint_count s)

-- parts that are well formed stand for constraints in order and range
parts-ok : (v n : ℕ) (parts : List (List ℕ)) → all (well_formed v n) parts ≡ true → all (constraint_ok v n) (map constraint_of parts) ≡ true
unfolding all well_formed
parts-ok v n [] e = refl
parts-ok v n (p ∷ parts) e =
    and_both (and_right (filled p) (constraint_ok v n (constraint_of p)) (all_head (well_formed v n) p parts e)) (parts-ok v n parts (all_tail (well_formed v n) p parts e))

vm-cpu-most : (s : List ℕ) (v : ℕ) → AreBytes s → (vm_of (room_of s) v).cpu < 2 ^ 16
unfolding vm_of vm_row be16
vm-cpu-most s v b =
    by_cases (dec_lt v (vm_count s))
    (λ h. let at = vms_start s + v * 7 in
    let x = b (at + 3) in let y = b (at + 3 + 1) in
    rw (ap (λ (m : Vm). m.cpu) (vm-at s v h)) (omega arith))
    (λ h. let l : length (room_of s).vms ≤ v = rw (vms-count s) (omega arith) in
    rw (ap (λ (m : Vm). m.cpu) (get_or-eq_default (room_of s).vms no_vm l)) (omega arith))

pub read-sound : (reserve : ℕ) (s : List ℕ) → cluster_check s ≡ Ok tt → IsSound (room_at reserve s)
unfolding parts_of
read-sound reserve s w =
    let n = room-nodes reserve s in
    let m = room-vms reserve s in
    let c = room-constraints reserve s in
    let k : (v : ℕ) → vm_of (room_at reserve s) v ≡ vm_of (room_of s) v = vm-at_reserve reserve s in
    record {
      nodes-least = rw n (nodes-least s w);
      nodes-most = rw n (nodes-most s w);
      vms-most = rw m (vms-most s w);
      constraints-most = rw c (constraints-most s w);
      memory-least = λ v h. rw (k v) (vm-memory-least s v w (rw (← m) h));
      currents = λ v h. rw (n, k v) (vm-current-place s v w (rw (← m) h));
      targets = λ v h. rw (n, k v) (vm-target-place s v w (rw (← m) h));
      well-formed = rw (n, m, constraints-at_reserve reserve s) (parts-ok (vm_count s) (node_count s) (parts_of s) (undamaged s w).parts);
    }

pub read-amounts : (reserve : ℕ) (s : List ℕ) → AreBytes s → HasAmounts (room_at reserve s)
read-amounts reserve s b = record {
  memory-most = λ v. rw (vm-at_reserve reserve s v) (vm-memory-most s v b);
  cpu-most = λ v. rw (vm-at_reserve reserve s v) (vm-cpu-most s v b);
}
