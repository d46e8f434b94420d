-- Counts and VMs of a room at a reserve, by the record that it stands for.
use Rattle.std.specs.Prelude.{Ok, Err}
use Prim.Native.Nat.{ℕ, ◌+◌, ◌*◌, ◌≤◌, ◌<◌}
use mathlib.Core.Bool.{true}
use mathlib.Core.List.{List}
use mathlib.Core.Path.{◌≡◌, refl, sym, ap, ◌∙◌}
use native.Mathlib.Omega.{arith}
use lib.ListN.{length}
use borrow.Author.Tests.{lt-ltb, le-ltb}
use Rattle.records.specs.Bytes.{byte_at, be16, be24}
use Rattle.records.specs.Room.{Room, Vm, IsSound, KnownPlaces, node_of, vm_of, usable, most_reserve, node_count, vm_count, vms_start, current_at, room_of, room_at, place_ok, cluster_check, cluster_read}
use Rattle.records.specs.Inner.{WasRead, current_in}
use Rattle.records.specs.declared.faults.ClusterFault.{ClusterFault}
use Rattle.records.specs.declared.faults.ReadFault.TheVariants.{Reserve, Record}
use Rattle.records.proofs.Laws.Cluster.{whole-rows, current-ok, target_ok, vm-memory-is, vm-cpu-is, vm-current-is, vm-target-is}
use Rattle.records.proofs.Laws.Reserve.{room-vms, room-nodes, usable-memory, usable-cpu}
use Rattle.records.proofs.Laws.Sound.{vm-at_reserve}

pub nodes_of_view : (reserve : ℕ) (s : List ℕ) → node_count s ≡ length (room_at reserve s).nodes
nodes_of_view reserve s = sym (room-nodes reserve s)

pub vms_of_view : (reserve : ℕ) (s : List ℕ) → vm_count s ≡ length (room_at reserve s).vms
vms_of_view reserve s = sym (room-vms reserve s)

pub current_of_view : (reserve : ℕ) (s : List ℕ) (v : ℕ) → current_at s v ≡ current_in (room_at reserve s) v
current_of_view reserve s v = ap (λ (n : ℕ). 11 + n * 5 + v * 7 + 5) (nodes_of_view reserve s)

-- ---- the rows of a record that was read, where it stands for a room

module _ (reserve : ℕ) (s : List ℕ) (room : Room) (w : WasRead reserve s) (e : room_at reserve s ≡ room) where
  sound : IsSound room
  sound = rw e at w.sound

  module _ (v at : ℕ) (f : at ≡ vms_start s + v * 7) (h : v < length room.vms) where
    there : v < vm_count s
    there = rw (vms_of_view reserve s, e) h

    same : vm_of (room_of s) v ≡ vm_of room v
    same = sym (vm-at_reserve reserve s v) ∙ ap (λ (r : Room). vm_of r v) e

    pub memory_read : (r : ℕ) → r ≡ be24 s at → r ≡ (vm_of room v).memory
    memory_read r g = vm-memory-is s v at f there r g ∙ ap (λ (m : Vm). m.memory) same

    pub memory_least : (r : ℕ) → r ≡ be24 s at → 1 ≤ r
    memory_least r g = rw (memory_read r g) (sound.memory-least v h)

    pub cpu_read : (r : ℕ) → r ≡ be16 s (at + 3) → r ≡ (vm_of room v).cpu
    cpu_read r g = vm-cpu-is s v at f there r g ∙ ap (λ (m : Vm). m.cpu) same

    pub current_read : byte_at s (at + 5) ≡ (vm_of room v).current
    current_read = vm-current-is s v at f there (byte_at s (at + 5)) refl ∙ ap (λ (m : Vm). m.current) same

    pub current_place : place_ok true (length room.nodes) (byte_at s (at + 5)) ≡ true
    current_place = rw current_read (sound.currents v h)

    pub target_read : byte_at s (at + 6) ≡ (vm_of room v).target
    target_read = vm-target-is s v at f there (byte_at s (at + 6)) refl ∙ ap (λ (m : Vm). m.target) same

    pub target_place : place_ok true (length room.nodes) (byte_at s (at + 6)) ≡ true
    target_place = rw target_read (sound.targets v h)

  module _ (d at : ℕ) (f : at ≡ 11 + d * 5) (h : d < length room.nodes) where
    standing : d < node_count s
    standing = rw (nodes_of_view reserve s, e) h

    pub node_memory_read : (m r : ℕ) → m ≡ be24 s at → r ≡ usable reserve m → r ≡ (node_of room d).memory
    node_memory_read m r g k = usable-memory reserve s d at f standing m r g k ∙ ap (λ (r : Room). (node_of r d).memory) e

    pub node_cpu_read : (m r : ℕ) → m ≡ be16 s (at + 3) → r ≡ usable reserve m → r ≡ (node_of room d).cpu
    node_cpu_read m r g k = usable-cpu reserve s d at f standing m r g k ∙ ap (λ (r : Room). (node_of r d).cpu) e

-- ---- reading a record

module _ (reserve : ℕ) (s : List ℕ) where
  pub read-kept : most_reserve < reserve → Err Reserve ≡ cluster_read reserve s
  unfolding cluster_read
  read-kept h = simp (lt-ltb most_reserve reserve h)

  pub read_damaged : (fault : ClusterFault) → reserve ≤ most_reserve → cluster_check s ≡ Err fault → Err (Record fault) ≡ cluster_read reserve s
  unfolding cluster_read
  read_damaged fault h e = rw (le-ltb most_reserve reserve h, e) refl

  pub read_whole : reserve ≤ most_reserve → cluster_check s ≡ Ok tt → Ok (room_at reserve s) ≡ cluster_read reserve s
  unfolding cluster_read
  read_whole h e = rw (le-ltb most_reserve reserve h, e) refl

  -- its VMs are at, and are wanted at, places that its version knows
  pub read_places : cluster_check s ≡ Ok tt → KnownPlaces s (room_at reserve s)
  read_places w =
      let n = room-nodes reserve s in
      let m = room-vms reserve s in
      let k : (v : ℕ) → vm_of (room_at reserve s) v ≡ vm_of (room_of s) v = vm-at_reserve reserve s in
      record {
        currents = λ v h. rw (n, k v) (current-ok s v w (rw (← m) h));
        targets = λ v h. rw (n, k v) (target_ok s v w (rw (← m) h));
      }

  -- the byte of a VM's current place is within the record
  pub current_within : (room : Room) (v : ℕ) → room_at reserve s ≡ room → cluster_check s ≡ Ok tt → v < length room.vms → current_in room v < length s
  current_within room v e w h =
      let l = whole-rows s w in
      let c : v < vm_count s = rw (vms_of_view reserve s, e) h in
      let f : current_at s v ≡ current_in room v = current_of_view reserve s v ∙ ap (λ (r : Room). current_in r v) e in
      rw (← f) (omega arith)
