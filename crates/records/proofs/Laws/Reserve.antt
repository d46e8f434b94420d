-- Laws on a reserve: what is usable of a node, and the room at a reserve.
use Prim.Native.Nat.{ℕ, ◌+◌, ◌-◌, ◌*◌, ◌≤◌, ◌<◌, ◌^◌}
use mathlib.Core.List.{List, [], ◌∷◌, map}
use mathlib.Core.Path.{◌≡◌, refl, sym, ap, ◌∙◌}
use native.Mathlib.Nat.{zero-mul, mul-le-mul_left, mul-div_cancel}
use native.Mathlib.Omega.{arith}
use lib.ListN.{length, get_or, length-map, get_or-map}
use Rattle.records.specs.Bytes.{be16, be24}
use Rattle.records.specs.Room.{Node, no_node, Room, node_of, usable, usable_node, at_reserve, room_of, room_at, node_count, vm_count}
use Rattle.records.proofs.Laws.Cluster.{nodes-count, vms-count, node-memory-is, node-cpu-is}

-- ---- what is usable of an amount

pub share-most : (reserve amount : ℕ) → amount < 2 ^ 24 → amount * (100 - reserve) < 2 ^ 32
share-most reserve amount h = let l : 100 - reserve ≤ 100 = omega arith in let m = mul-le-mul_left amount l in omega arith

pub share_fits : (reserve amount : ℕ) → amount < 2 ^ 24 → amount * (100 - reserve) < 2 ^ 64
share_fits reserve amount h = let m = share-most reserve amount h in omega arith

-- with nothing kept it is the whole amount
pub usable-whole : (amount : ℕ) → usable 0 amount ≡ amount
unfolding usable
usable-whole amount = mul-div_cancel amount (omega arith)

-- the less is kept, the more is usable
pub usable-less : (less more amount : ℕ) → less ≤ more → usable more amount ≤ usable less amount
unfolding usable
usable-less less more amount h = let l : 100 - more ≤ 100 - less = omega arith in let m = mul-le-mul_left amount l in omega arith

-- ---- the room at a reserve

none-usable : (reserve : ℕ) → usable_node reserve no_node ≡ no_node
unfolding usable_node usable
none-usable reserve = rw (zero-mul (100 - reserve))

module _ (reserve : ℕ) (room : Room) where
  pub node-usable : (d : ℕ) → node_of (at_reserve reserve room) d ≡ usable_node reserve (node_of room d)
  unfolding node_of at_reserve
  node-usable d =
      ap (λ (n : Node). get_or (map (usable_node reserve) room.nodes) d n) (sym (none-usable reserve)) ∙
      get_or-map (usable_node reserve) room.nodes d no_node

  pub nodes-kept : length (at_reserve reserve room).nodes ≡ length room.nodes
  unfolding at_reserve
  nodes-kept = length-map room.nodes (usable_node reserve)

whole-node : (node : Node) → usable_node 0 node ≡ node
unfolding usable_node
whole-node node = rw (usable-whole node.memory, usable-whole node.cpu)

whole-nodes : (nodes : List Node) → map (usable_node 0) nodes ≡ nodes
whole-nodes [] = refl
whole-nodes (node ∷ nodes) = rw (whole-node node, whole-nodes nodes)

at_zero : (room : Room) → at_reserve 0 room ≡ room
unfolding at_reserve
at_zero room = rw (whole-nodes room.nodes)

-- at reserve 0 the room is the one that the record stands for
pub record-room : (s : List ℕ) → room_at 0 s ≡ room_of s
record-room s = at_zero (room_of s)

pub room-vms : (reserve : ℕ) (s : List ℕ) → length (room_at reserve s).vms ≡ vm_count s
unfolding at_reserve
room-vms reserve s = vms-count s

pub room-nodes : (reserve : ℕ) (s : List ℕ) → length (room_at reserve s).nodes ≡ node_count s
room-nodes reserve s = nodes-kept reserve (room_of s) ∙ nodes-count s

-- ---- what the accessors return

module _ (reserve : ℕ) (s : List ℕ) (d at : ℕ) (e : at ≡ 11 + d * 5) (h : d < node_count s) where
  pub usable-memory : (m r : ℕ) → m ≡ be24 s at → r ≡ usable reserve m → r ≡ (node_of (room_at reserve s) d).memory
  unfolding usable_node
  usable-memory m r f g = g ∙ ap (usable reserve) (node-memory-is s d at e h m f) ∙ ap (λ (n : Node). n.memory) (sym (node-usable reserve (room_of s) d))

  pub usable-cpu : (m r : ℕ) → m ≡ be16 s (at + 3) → r ≡ usable reserve m → r ≡ (node_of (room_at reserve s) d).cpu
  unfolding usable_node
  usable-cpu m r f g = g ∙ ap (usable reserve) (node-cpu-is s d at e h m f) ∙ ap (λ (n : Node). n.cpu) (sym (node-usable reserve (room_of s) d))
