-- The cluster record (01, "The two records" and refusals 1 to 7): the room that bytes stand for, and what makes them damaged.
use Rattle.std.specs.Prelude.{ℕ, zero, suc, ◌+◌, ◌-◌, ◌*◌, ◌/◌, ◌^◌, ◌≤◌, ◌<◌, Bool, true, false, not, ◌&&◌, ◌||◌, List, [], ◌∷◌, map, ◌≡◌, length, get_or, set, take, drop, ltb, leb, eqb, Result, Ok, Err}
use Rattle.records.specs.Base.{pick, all}
use Rattle.records.specs.Bytes.{byte_at, be16, be24, be32, version_of, known_version, AreBytes}
use Rattle.records.specs.declared.faults.ClusterFault.{ClusterFault}
use Rattle.records.specs.declared.faults.ClusterFault.TheVariants.{TooShort, Version, Length, Counts, Fill, VmRow, Constraint as BadConstraint}
use Rattle.records.specs.declared.faults.ReadFault.{ReadFault}
use Rattle.records.specs.declared.faults.ReadFault.TheVariants.{Reserve, Record}
use Rattle.records.specs.declared.constraints.Kind.{Kind}
use Rattle.records.specs.declared.constraints.Kind.TheVariants.{Ban, Fence, Spread, Latency, Before}

-- ---- what a record stands for

-- a node: how much memory and CPU it has
pub record Node : Type 0 where
  pub memory : ℕ
  pub cpu : ℕ

-- a place of a VM is a node's number or this one, which is no node's: the VM is down (02, Job 2)
abbrev pub nowhere : ℕ
nowhere = 255

-- a place is not `nowhere`; of a place that there is: it is a node
unfoldable pub on_node : ℕ → Bool
on_node place = not (eqb place nowhere)

-- a VM: what it needs, the place it is at and the place it is wanted at
pub record Vm : Type 0 where
  pub memory : ℕ
  pub cpu : ℕ
  pub current : ℕ
  pub target : ℕ

-- the five kinds of constraint: four with a list of the VMs they bind and the nodes, or groups of nodes, they name; and one with two VMs, of
-- which the first is to be on its target before the second moves (02, Job 13)
pub data Constraint : Type 0 where
  ban : List ℕ → List ℕ → Constraint
  fence : List ℕ → List ℕ → Constraint
  spread : List ℕ → Constraint
  latency : List ℕ → List (List ℕ) → Constraint
  before : ℕ → ℕ → Constraint

pub record Room : Type 0 where
  pub nodes : List Node
  pub vms : List Vm
  pub constraints : List Constraint

-- node d and VM v of a room; nothing where there is none
abbrev pub no_node : Node
no_node = record { memory = 0; cpu = 0 }

abbrev pub no_vm : Vm
no_vm = record { memory = 0; cpu = 0; current = 0; target = 0 }

unfoldable pub node_of : Room → ℕ → Node
node_of room d = get_or room.nodes d no_node

unfoldable pub vm_of : Room → ℕ → Vm
vm_of room v = get_or room.vms v no_vm

-- ---- a share of each node that is kept free (02, Job 5)

-- the most that can be kept, in percent
abbrev pub most_reserve : ℕ
most_reserve = 90

-- what is usable of an amount when so many percent of it are kept, rounded down
unfoldable pub usable : ℕ → ℕ → ℕ
usable reserve amount = amount * (100 - reserve) / 100

-- a node with its usable memory and its usable CPU, each rounded by itself
unfoldable pub usable_node : ℕ → Node → Node
usable_node reserve node = record { memory = usable reserve node.memory; cpu = usable reserve node.cpu }

-- a room at a reserve: what a node has is what is usable of it; VMs and constraints are the same
unfoldable pub at_reserve : ℕ → Room → Room
at_reserve reserve room = record { nodes = map (usable_node reserve) room.nodes; vms = room.vms; constraints = room.constraints }

-- ---- a room with its VMs elsewhere (02, Job 1)

-- each VM, numbered from v on, at the place that a list has for it; what it needs and where it is wanted stays
unfoldable pub placed_from : List ℕ → ℕ → List Vm → List Vm
placed_from places v [] = []
placed_from places v (vm ∷ vms) =
    record { memory = vm.memory; cpu = vm.cpu; current = get_or places v 0; target = vm.target } ∷ placed_from places (suc v) vms

unfoldable pub at_places : List ℕ → Room → Room
at_places places room = record { nodes = room.nodes; vms = placed_from places 0 room.vms; constraints = room.constraints }

-- ---- constraints

-- a constraint's kind; its lists of VMs, nodes and groups, empty where its kind has none
unfoldable pub kind_of : Constraint → Kind
kind_of (ban vms nodes) = Ban
kind_of (fence vms nodes) = Fence
kind_of (spread vms) = Spread
kind_of (latency vms groups) = Latency
kind_of (before first second) = Before

unfoldable pub vms_of : Constraint → List ℕ
vms_of (ban vms nodes) = vms
vms_of (fence vms nodes) = vms
vms_of (spread vms) = vms
vms_of (latency vms groups) = vms
vms_of (before first second) = []

unfoldable pub nodes_of : Constraint → List ℕ
nodes_of (ban vms nodes) = nodes
nodes_of (fence vms nodes) = nodes
nodes_of (spread vms) = []
nodes_of (latency vms groups) = []
nodes_of (before first second) = []

unfoldable pub groups_of : Constraint → List (List ℕ)
groups_of (ban vms nodes) = []
groups_of (fence vms nodes) = []
groups_of (spread vms) = []
groups_of (latency vms groups) = groups
groups_of (before first second) = []

-- its two VMs; 0 where its kind has none
unfoldable pub first_of : Constraint → ℕ
first_of (ban vms nodes) = 0
first_of (fence vms nodes) = 0
first_of (spread vms) = 0
first_of (latency vms groups) = 0
first_of (before first second) = first

unfoldable pub second_of : Constraint → ℕ
second_of (ban vms nodes) = 0
second_of (fence vms nodes) = 0
second_of (spread vms) = 0
second_of (latency vms groups) = 0
second_of (before first second) = second

-- ---- reading the header and the rows

-- rows of one width: what is read at a place, and at each place a width further
unfoldable pub rows : {A : Type 0} → (ℕ → A) → ℕ → ℕ → ℕ → List A
rows read width at zero = []
rows read width at (suc n) = read at ∷ rows read width (at + width) n

-- N, V and C
abbrev pub node_count : List ℕ → ℕ
node_count s = be16 s 5

abbrev pub vm_count : List ℕ → ℕ
vm_count s = be16 s 7

abbrev pub constraint_count : List ℕ → ℕ
constraint_count s = be16 s 9

-- in version 2 a VM's row may have `nowhere` as its current or its target place (02, Job 2)
unfoldable pub knows_nowhere : List ℕ → Bool
knows_nowhere s = eqb (version_of s) 2

-- the row of a node, five bytes, and of a VM, seven
unfoldable pub node_row : List ℕ → ℕ → Node
node_row s at = record { memory = be24 s at; cpu = be16 s (at + 3) }

unfoldable pub vm_row : List ℕ → ℕ → Vm
vm_row s at = record { memory = be24 s at; cpu = be16 s (at + 3); current = byte_at s (at + 5); target = byte_at s (at + 6) }

-- where the VM rows and the constraints start
abbrev pub vms_start : List ℕ → ℕ
vms_start s = 11 + node_count s * 5

abbrev pub constraints_start : List ℕ → ℕ
constraints_start s = vms_start s + vm_count s * 7

-- ---- reading the constraints

-- a constraint stands from its length field to its stated end
abbrev pub part_end : List ℕ → ℕ → ℕ
part_end s at = at + 2 + be16 s at

unfoldable pub part_at : List ℕ → ℕ → List ℕ
part_at s at = take (2 + be16 s at) (drop at s)

-- the parts of so many constraints from a place, and where the last one ends
unfoldable pub parts_from : List ℕ → ℕ → ℕ → List (List ℕ)
parts_from s at zero = []
parts_from s at (suc n) = part_at s at ∷ parts_from s (part_end s at) n

unfoldable pub parts_end : List ℕ → ℕ → ℕ → ℕ
parts_end s at zero = at
parts_end s at (suc n) = parts_end s (part_end s at) n

unfoldable pub parts_of : List ℕ → List (List ℕ)
parts_of s = parts_from s (constraints_start s) (constraint_count s)

-- the lists in a part: VMs behind a count of two bytes, nodes behind one of one byte; and where each ends
unfoldable pub vms_at : List ℕ → ℕ → List ℕ
vms_at p at = take (be16 p at) (drop (at + 2) p)

abbrev pub vms_end : List ℕ → ℕ → ℕ
vms_end p at = at + 2 + be16 p at

unfoldable pub nodes_at : List ℕ → ℕ → List ℕ
nodes_at p at = take (byte_at p at) (drop (at + 1) p)

abbrev pub nodes_end : List ℕ → ℕ → ℕ
nodes_end p at = at + 1 + byte_at p at

-- so many node lists one behind the other, and where the last one ends
unfoldable pub groups_from : List ℕ → ℕ → ℕ → List (List ℕ)
groups_from p at zero = []
groups_from p at (suc n) = nodes_at p at ∷ groups_from p (nodes_end p at) n

unfoldable pub groups_end : List ℕ → ℕ → ℕ → ℕ
groups_end p at zero = at
groups_end p at (suc n) = groups_end p (nodes_end p at) n

-- a part's kind byte stands behind the length, its VM list behind that, and its other lists behind the VM list
abbrev pub kind_at : List ℕ → ℕ
kind_at p = byte_at p 2

abbrev pub others_at : List ℕ → ℕ
others_at p = vms_end p 3

-- two VMs in place of the lists: the first stands behind the kind byte, the second behind it, and they end the part
abbrev pub first_at : List ℕ → ℕ
first_at p = byte_at p 3

abbrev pub second_at : List ℕ → ℕ
second_at p = byte_at p 4

abbrev pub pair_end : ℕ
pair_end = 5

-- the constraint that a part stands for: kind 1 ban, 2 fence, 3 spread, 4 latency, else 5 before
unfoldable pub constraint_of : List ℕ → Constraint
constraint_of p =
    pick (eqb (kind_at p) 1) (ban (vms_at p 3) (nodes_at p (others_at p)))
    (pick (eqb (kind_at p) 2) (fence (vms_at p 3) (nodes_at p (others_at p)))
    (pick (eqb (kind_at p) 3) (spread (vms_at p 3))
    (pick (eqb (kind_at p) 4) (latency (vms_at p 3) (groups_from p (others_at p + 1) (byte_at p (others_at p))))
    (before (first_at p) (second_at p)))))

-- where its lists, or its two VMs, end
unfoldable pub lists_end : List ℕ → ℕ
lists_end p =
    pick (eqb (kind_at p) 3) (others_at p)
    (pick (eqb (kind_at p) 4) (groups_end p (others_at p + 1) (byte_at p (others_at p)))
    (pick (eqb (kind_at p) 5) pair_end
    (nodes_end p (others_at p))))

-- the room that a record stands for
unfoldable pub room_of : List ℕ → Room
room_of s =
    record {
      nodes = rows (node_row s) 5 11 (node_count s);
      vms = rows (vm_row s) 7 (vms_start s) (vm_count s);
      constraints = map constraint_of (parts_of s);
    }

-- the same at a reserve: the room that a call goes by
abbrev pub room_at : ℕ → List ℕ → Room
room_at reserve s = at_reserve reserve (room_of s)

-- ---- a record brought up to date (02, Job 1)

-- where the current place of VM v stands: the sixth byte of its row
abbrev pub current_at : List ℕ → ℕ → ℕ
current_at s v = vms_start s + v * 7 + 5

-- a record with that byte of its first n VMs set to the places of a list; no other byte is touched
unfoldable pub updated_to : List ℕ → List ℕ → ℕ → List ℕ
updated_to s places zero = s
updated_to s places (suc n) = set (updated_to s places n) (current_at s n) (get_or places n 0)

-- the same of all its VMs (the room that an undamaged record then stands for is the old one at these places: `Laws.Updated.updated-room`)
unfoldable pub updated : List ℕ → List ℕ → List ℕ
updated s places = updated_to s places (vm_count s)

-- ---- what makes a record damaged

-- 3: the stated length is the record's, and not too large
abbrev pub length_ok : List ℕ → Bool
length_ok s = eqb (be32 s 1) (length s) && leb (be32 s 1) 65535

-- 4: each count in its range
unfoldable pub counts_ok : List ℕ → Bool
counts_ok s = leb 1 (node_count s) && (leb (node_count s) 64 && (leb (vm_count s) 256 && leb (constraint_count s) 128))

-- 6: a VM row has memory, and each of its two places is one of the n nodes there are, or `nowhere` where that is known
unfoldable pub place_ok : Bool → ℕ → ℕ → Bool
place_ok known n place = ltb place n || (known && eqb place nowhere)

unfoldable pub vm_ok : Bool → ℕ → Vm → Bool
vm_ok known n vm = leb 1 vm.memory && (place_ok known n vm.current && place_ok known n vm.target)

-- 7: a list rises strictly: each element stands above the one before it
unfoldable pub above : ℕ → List ℕ → Bool
above low [] = true
above low (x ∷ xs) = ltb low x && above x xs

unfoldable pub rises : List ℕ → Bool
rises [] = true
rises (x ∷ xs) = above x xs

-- and each element is below the count of what it names
unfoldable pub list_ok : ℕ → List ℕ → Bool
list_ok limit xs = rises xs && all (λ x. ltb x limit) xs

-- x is in the list
unfoldable pub has : List ℕ → ℕ → Bool
has [] x = false
has (y ∷ ys) x = eqb y x || has ys x

-- two lists share no element; no two of the lists share one
unfoldable pub disjoint : List ℕ → List ℕ → Bool
disjoint xs ys = all (λ x. not (has ys x)) xs

unfoldable pub apart : List (List ℕ) → Bool
apart [] = true
apart (g ∷ gs) = all (λ h. disjoint h g) gs && apart gs

-- order, count and range of a constraint's lists, among v VMs and n nodes; of two VMs the range, and that they differ
unfoldable pub constraint_ok : ℕ → ℕ → Constraint → Bool
constraint_ok v n (ban vms nodes) = list_ok v vms && list_ok n nodes
constraint_ok v n (fence vms nodes) = list_ok v vms && list_ok n nodes
constraint_ok v n (spread vms) = list_ok v vms
constraint_ok v n (latency vms groups) = list_ok v vms && (leb (length groups) 64 && (all (list_ok n) groups && apart groups))
constraint_ok v n (before first second) = ltb first v && (ltb second v && not (eqb first second))

-- what a room that was read has: counts in their ranges, VM rows that are sound, and constraints in order and range
pub record IsSound (room : Room) : Type 0 where
  pub nodes-least : 1 ≤ length room.nodes
  pub nodes-most : length room.nodes ≤ 64
  pub vms-most : length room.vms ≤ 256
  pub constraints-most : length room.constraints ≤ 128
  pub memory-least : (v : ℕ) → v < length room.vms → 1 ≤ (vm_of room v).memory
  pub currents : (v : ℕ) → v < length room.vms → place_ok true (length room.nodes) (vm_of room v).current ≡ true
  pub targets : (v : ℕ) → v < length room.vms → place_ok true (length room.nodes) (vm_of room v).target ≡ true
  pub well-formed : all (constraint_ok (length room.vms) (length room.nodes)) room.constraints ≡ true

-- what a VM needs is less than what three bytes, and two, can say
pub record HasAmounts (room : Room) : Type 0 where
  pub memory-most : (v : ℕ) → (vm_of room v).memory < 2 ^ 24
  pub cpu-most : (v : ℕ) → (vm_of room v).cpu < 2 ^ 16

-- a part has a kind, a known one, and lists, or two VMs, that fill it
unfoldable pub filled : List ℕ → Bool
filled p = leb 1 (kind_at p) && (leb (kind_at p) 5 && eqb (lists_end p) (length p))

unfoldable pub well_formed : ℕ → ℕ → List ℕ → Bool
well_formed v n p = filled p && constraint_ok v n (constraint_of p)

-- the first fault in checking order, 1 to 7
abbrev pub refuse_cluster : Bool → ClusterFault → Result (Unit {0}) ClusterFault → Result (Unit {0}) ClusterFault
refuse_cluster test fault rest = pick test (Err fault) rest

unfoldable pub cluster_check : List ℕ → Result (Unit {0}) ClusterFault
cluster_check s =
    refuse_cluster (ltb (length s) 11) TooShort
    (refuse_cluster (not (known_version (version_of s))) Version
    (refuse_cluster (not (length_ok s)) Length
    (refuse_cluster (not (counts_ok s)) Counts
    (refuse_cluster (not (eqb (parts_end s (constraints_start s) (constraint_count s)) (length s))) Fill
    (refuse_cluster (not (all (vm_ok (knows_nowhere s) (node_count s)) (room_of s).vms)) VmRow
    (refuse_cluster (not (all (well_formed (vm_count s) (node_count s)) (parts_of s))) BadConstraint
    (Ok tt)))))))

-- what reading a cluster record answers: that fault, and for those who compute with the record that its elements are bytes
pub record ClusterRead (s : List ℕ) (r : Result (Unit {0}) ClusterFault) : Type 0 where
  pub is : r ≡ cluster_check s
  pub bytes : AreBytes s

-- what a check lets through, or why it does not
abbrev pub read_as : {A : Type 0} → A → Result (Unit {0}) ClusterFault → Result A ReadFault
read_as value (Ok done) = Ok value
read_as value (Err fault) = Err (Record fault)

-- reading a record at a reserve: the reserve is tested first, then the record
unfoldable pub cluster_read : ℕ → List ℕ → Result Room ReadFault
cluster_read reserve s = pick (ltb most_reserve reserve) (Err Reserve) (read_as (room_at reserve s) (cluster_check s))

-- each VM of the room that a record stands for is at a place that the record's version knows, and is wanted at one: in version 1 both are nodes
pub record KnownPlaces (s : List ℕ) (room : Room) : Type 0 where
  pub currents : (v : ℕ) → v < length room.vms → place_ok (knows_nowhere s) (length room.nodes) (vm_of room v).current ≡ true
  pub targets : (v : ℕ) → v < length room.vms → place_ok (knows_nowhere s) (length room.nodes) (vm_of room v).target ≡ true

-- 01's number of each
abbrev pub cluster_number : ClusterFault → ℕ
cluster_number TooShort = 1
cluster_number Version = 2
cluster_number Length = 3
cluster_number Counts = 4
cluster_number Fill = 5
cluster_number VmRow = 6
cluster_number BadConstraint = 7
