-- Laws on a cluster record brought up to date: which bytes change, the room that it then stands for, and that it is undamaged.
use Prim.Native.Nat.{ℕ, zero, suc, ◌+◌, ◌-◌, ◌*◌, ◌≤◌, ◌<◌}
use mathlib.Core.Bool.{Bool, true, ◌&&◌}
use mathlib.Core.List.{List, [], ◌∷◌}
use mathlib.Core.Logic.{by_cases}
use mathlib.Core.Path.{◌≡◌, refl, sym, ap, ◌∙◌}
use native.Mathlib.Decide.{ℕ_discrete}
use native.Mathlib.Omega.{arith}
use lib.ListN.{length, get_or, drop, length-set}
use lib.Seq.{get_or-set_same, get_or-set_other, get_or-drop, drop-set-lt, drop-drop}
use lib.Dec.{leb}
use Rattle.records.specs.Base.{all}
use Rattle.records.specs.Bytes.{byte_at, be16, be24, be32, version_of}
use Rattle.records.specs.Room.{Vm, Room, placed_from, at_places, rows, node_row, vm_row, node_count, vm_count, constraint_count, vms_start, constraints_start, current_at, updated_to, updated, part_at, parts_from, parts_end, parts_of, room_of, knows_nowhere, counts_ok, place_ok, vm_ok, cluster_check}
use Rattle.std.specs.Prelude.{Ok}
use Rattle.records.proofs.Laws.Bools.{and_left, and_right, and_both}
use Rattle.records.proofs.Laws.Cluster.{undamaged, whole-rows, vms-count}

-- ---- its bytes

module _ (s places : List ℕ) where
  pub updated-to-length : (n : ℕ) → length (updated_to s places n) ≡ length s
  unfolding updated_to
  updated-to-length zero = refl
  updated-to-length (suc n) = length-set (updated_to s places n) (current_at s n) (get_or places n 0) ∙ updated-to-length n

  pub updated-length : length (updated s places) ≡ length s
  unfolding updated
  updated-length = updated-to-length (vm_count s)

  -- a byte that is none of the places
  other-to : (n i : ℕ) → ((v : ℕ) → v < n → i ≡ current_at s v → ⊥) → byte_at (updated_to s places n) i ≡ byte_at s i
  unfolding updated_to
  other-to zero i h = refl
  other-to (suc n) i h =
      get_or-set_other (updated_to s places n) (current_at s n) i (get_or places n 0) 0 (h n (omega arith)) ∙
      other-to n i (λ v k. h v (omega arith))

  pub updated-other : (i : ℕ) → ((v : ℕ) → v < vm_count s → i ≡ current_at s v → ⊥) → byte_at (updated s places) i ≡ byte_at s i
  unfolding updated
  updated-other i h = other-to (vm_count s) i h

  -- those before the VM rows, and those behind them
  updated-before : (i : ℕ) → i < vms_start s → byte_at (updated s places) i ≡ byte_at s i
  updated-before i h = updated-other i (λ v k e. omega arith)

  behind-to : (n : ℕ) → n ≤ vm_count s → drop (constraints_start s) (updated_to s places n) ≡ drop (constraints_start s) s
  unfolding updated_to
  behind-to zero h = refl
  behind-to (suc n) h =
      let l : current_at s n < constraints_start s = omega arith in
      drop-set-lt (constraints_start s) (updated_to s places n) (current_at s n) (get_or places n 0) l ∙ behind-to n (omega arith)

  updated-behind : drop (constraints_start s) (updated s places) ≡ drop (constraints_start s) s
  unfolding updated
  updated-behind = behind-to (vm_count s) (omega arith)

  -- the places, where the rows lie within the record
  place-to : (n v : ℕ) → v < n → current_at s v < length s → byte_at (updated_to s places n) (current_at s v) ≡ get_or places v 0
  unfolding updated_to
  place-to zero v h l = absurd (omega arith)
  place-to (suc n) v h l =
      by_cases (ℕ_discrete v n)
      (λ e. rw e (get_or-set_same (updated_to s places n) (current_at s n) (get_or places n 0) 0 (rw (updated-to-length n, ← e) l)))
      (λ e. let m : current_at s v ≡ current_at s n → ⊥ = λ q. e (omega arith) in
      get_or-set_other (updated_to s places n) (current_at s n) (current_at s v) (get_or places n 0) 0 m ∙ place-to n v (omega arith) l)

  updated-place : (v : ℕ) → v < vm_count s → current_at s v < length s → byte_at (updated s places) (current_at s v) ≡ get_or places v 0
  unfolding updated
  updated-place v h l = place-to (vm_count s) v h l

-- places that agree on the VMs that there are give one record
same-to : (s places others : List ℕ) (n : ℕ) → ((v : ℕ) → v < n → get_or places v 0 ≡ get_or others v 0) → updated_to s places n ≡ updated_to s others n
unfolding updated_to
same-to s places others zero h = refl
same-to s places others (suc n) h = rw (same-to s places others n (λ v k. h v (omega arith)), h n (omega arith))

pub updated-same : (s places others : List ℕ) → ((v : ℕ) → v < vm_count s → get_or places v 0 ≡ get_or others v 0) → updated s places ≡ updated s others
unfolding updated
updated-same s places others h = same-to s places others (vm_count s) h

-- ---- numbers and rows of two records that agree on their bytes

module _ (s t : List ℕ) where
  same16 : (at : ℕ) → byte_at t at ≡ byte_at s at → byte_at t (at + 1) ≡ byte_at s (at + 1) → be16 t at ≡ be16 s at
  unfolding be16
  same16 at a b = rw (a, b)

  same24 : (at : ℕ) → be16 t at ≡ be16 s at → byte_at t (at + 2) ≡ byte_at s (at + 2) → be24 t at ≡ be24 s at
  unfolding be24
  same24 at a b = rw (a, b)

  same32 : (at : ℕ) → be24 t at ≡ be24 s at → byte_at t (at + 3) ≡ byte_at s (at + 3) → be32 t at ≡ be32 s at
  unfolding be32
  same32 at a b = rw (a, b)

  same_rows : {A : Type 0} (read other : ℕ → A) (width at n : ℕ) → ((i : ℕ) → i < n → read (at + i * width) ≡ other (at + i * width)) → rows read width at n ≡ rows other width at n
  unfolding rows
  same_rows read other width at zero h = refl
  same_rows read other width at (suc n) h =
      let z : at + 0 * width ≡ at = omega arith in
      let head : read at ≡ other at = rw z at (h 0 (omega arith)) in
      let tail : (i : ℕ) → i < n → read (at + width + i * width) ≡ other (at + width + i * width) =
      (λ i k. let e : at + suc i * width ≡ at + width + i * width = omega arith in rw e at (h (suc i) (omega arith))) in
      rw (head, same_rows read other width (at + width) n tail)

  -- what stands behind a place
  module _ (k : ℕ) (e : drop k t ≡ drop k s) where
    drop-same : (at : ℕ) → k ≤ at → drop at t ≡ drop at s
    drop-same at h =
        let q : k + (at - k) ≡ at = omega arith in
        ap (λ (i : ℕ). drop i t) (sym q) ∙ sym (drop-drop (at - k) k t) ∙ ap (drop (at - k)) e ∙ drop-drop (at - k) k s ∙ ap (λ (i : ℕ). drop i s) q

    byte-same : (at : ℕ) → k ≤ at → byte_at t at ≡ byte_at s at
    byte-same at h =
        let q : k + (at - k) ≡ at = omega arith in
        ap (λ (i : ℕ). byte_at t i) (sym q) ∙ sym (get_or-drop k t (at - k) 0) ∙ ap (λ (l : List ℕ). get_or l (at - k) 0) e ∙ get_or-drop k s (at - k) 0 ∙ ap (λ (i : ℕ). byte_at s i) q

    size_same : (at : ℕ) → k ≤ at → be16 t at ≡ be16 s at
    size_same at h = same16 at (byte-same at h) (byte-same (at + 1) (omega arith))

    parts_same : (at n : ℕ) → k ≤ at → parts_from t at n ≡ parts_from s at n
    unfolding parts_from part_at
    parts_same at zero h = refl
    parts_same at (suc n) h = rw (size_same at h, drop-same at h, parts_same (at + 2 + be16 s at) n (omega arith))

    ends_same : (at n : ℕ) → k ≤ at → parts_end t at n ≡ parts_end s at n
    unfolding parts_end
    ends_same at zero h = refl
    ends_same at (suc n) h = rw (size_same at h, ends_same (at + 2 + be16 s at) n (omega arith))

-- ---- the room

-- a VM row with another place
at_place : ℕ → Vm → Vm
at_place place vm = record { memory = vm.memory; cpu = vm.cpu; current = place; target = vm.target }

rows-placed : (places : List ℕ) (read other : ℕ → Vm) (at v n : ℕ) →
    ((i : ℕ) → i < n → other (at + i * 7) ≡ at_place (get_or places (v + i) 0) (read (at + i * 7))) → rows other 7 at n ≡ placed_from places v (rows read 7 at n)
unfolding rows placed_from at_place
rows-placed places read other at v zero h = refl
rows-placed places read other at v (suc n) h =
    let z : at + 0 * 7 ≡ at = omega arith in
    let y : v + 0 ≡ v = omega arith in
    let head : other at ≡ at_place (get_or places v 0) (read at) = rw (z, y) at (h 0 (omega arith)) in
    let tail : (i : ℕ) → i < n → other (at + 7 + i * 7) ≡ at_place (get_or places (suc v + i) 0) (read (at + 7 + i * 7)) =
    (λ i k. let e : at + suc i * 7 ≡ at + 7 + i * 7 = omega arith in let f : v + suc i ≡ suc v + i = omega arith in rw (e, f) at (h (suc i) (omega arith))) in
    rw (head, rows-placed places read other (at + 7) (suc v) n tail)

module _ (s places : List ℕ) where
  abbrev t : List ℕ
  t = updated s places

  -- its header
  header-byte : (i : ℕ) → i < 11 → byte_at t i ≡ byte_at s i
  header-byte i h = updated-before s places i (omega arith)

  header16 : (i : ℕ) → i + 2 ≤ 11 → be16 t i ≡ be16 s i
  header16 i h = same16 s t i (header-byte i (omega arith)) (header-byte (i + 1) (omega arith))

  nodes-same : node_count t ≡ node_count s
  nodes-same = header16 5 (omega arith)

  vms-same : vm_count t ≡ vm_count s
  vms-same = header16 7 (omega arith)

  constraints-same : constraint_count t ≡ constraint_count s
  constraints-same = header16 9 (omega arith)

  stated-same : be32 t 1 ≡ be32 s 1
  stated-same = same32 s t 1 (same24 s t 1 (header16 1 (omega arith)) (header-byte 3 (omega arith))) (header-byte 4 (omega arith))

  -- its node rows
  node-row-same : (i : ℕ) → i < node_count s → node_row t (11 + i * 5) ≡ node_row s (11 + i * 5)
  unfolding node_row
  node-row-same i h =
      let at = 11 + i * 5 in
      let b : (k : ℕ) → k < 5 → byte_at t (at + k) ≡ byte_at s (at + k) = λ k l. updated-before s places (at + k) (omega arith) in
      let z : at + 0 ≡ at = omega arith in
      let y : at + 3 + 1 ≡ at + 4 = omega arith in
      let m : be24 t at ≡ be24 s at = same24 s t at (same16 s t at (rw z at (b 0 (omega arith))) (b 1 (omega arith))) (b 2 (omega arith)) in
      let c : be16 t (at + 3) ≡ be16 s (at + 3) = same16 s t (at + 3) (b 3 (omega arith)) (rw y (b 4 (omega arith))) in
      rw (m, c)

  node-rows-same : rows (node_row t) 5 11 (node_count t) ≡ rows (node_row s) 5 11 (node_count s)
  node-rows-same = ap (rows (node_row t) 5 11) nodes-same ∙ same_rows s t (node_row t) (node_row s) 5 11 (node_count s) node-row-same

  parts_stay : parts_of t ≡ parts_of s
  unfolding parts_of
  parts_stay =
      rw (nodes-same, vms-same, constraints-same)
      (parts_same s t (constraints_start s) (updated-behind s places) (constraints_start s) (constraint_count s) (omega arith))

  ends_stay : parts_end t (constraints_start t) (constraint_count t) ≡ parts_end s (constraints_start s) (constraint_count s)
  ends_stay =
      rw (nodes-same, vms-same, constraints-same)
      (ends_same s t (constraints_start s) (updated-behind s places) (constraints_start s) (constraint_count s) (omega arith))

  module _ (w : cluster_check s ≡ Ok tt) where
    -- its VM rows
    vm-row-placed : (i : ℕ) → i < vm_count s → vm_row t (vms_start s + i * 7) ≡ at_place (get_or places (0 + i) 0) (vm_row s (vms_start s + i * 7))
    unfolding vm_row at_place
    vm-row-placed i h =
        let at = vms_start s + i * 7 in
        let long = whole-rows s w in
        let b : (k : ℕ) → k < 5 → byte_at t (at + k) ≡ byte_at s (at + k) = λ k l. updated-other s places (at + k) (λ v u e. omega arith) in
        let g : byte_at t (at + 6) ≡ byte_at s (at + 6) = updated-other s places (at + 6) (λ v u e. omega arith) in
        let p : byte_at t (at + 5) ≡ get_or places i 0 = updated-place s places i h (omega arith) in
        let z : at + 0 ≡ at = omega arith in
        let y : at + 3 + 1 ≡ at + 4 = omega arith in
        let x : 0 + i ≡ i = omega arith in
        let m : be24 t at ≡ be24 s at = same24 s t at (same16 s t at (rw z at (b 0 (omega arith))) (b 1 (omega arith))) (b 2 (omega arith)) in
        let c : be16 t (at + 3) ≡ be16 s (at + 3) = same16 s t (at + 3) (b 3 (omega arith)) (rw y (b 4 (omega arith))) in
        rw (m, c, g, p, x)

    vm-rows-placed : rows (vm_row t) 7 (vms_start t) (vm_count t) ≡ placed_from places 0 (rows (vm_row s) 7 (vms_start s) (vm_count s))
    vm-rows-placed = rw (nodes-same, vms-same) (rows-placed places (vm_row s) (vm_row t) (vms_start s) 0 (vm_count s) vm-row-placed)

    pub updated-room : room_of (updated s places) ≡ at_places places (room_of s)
    unfolding room_of at_places
    updated-room = rw (node-rows-same, vm-rows-placed, parts_stay)

-- ---- it is undamaged

placed-ok : (known : Bool) (n : ℕ) (places : List ℕ) (v : ℕ) (vms : List Vm) → ((i : ℕ) → i < length vms → place_ok known n (get_or places (v + i) 0) ≡ true) →
    all (vm_ok known n) vms ≡ true → all (vm_ok known n) (placed_from places v vms) ≡ true
unfolding placed_from all vm_ok
placed-ok known n places v [] h e = refl
placed-ok known n places v (vm ∷ vms) h e =
    let z : v + 0 ≡ v = omega arith in
    let a = and_left (vm_ok known n vm) (all (vm_ok known n) vms) e in
    let b = and_right (leb 1 vm.memory) (place_ok known n vm.current && place_ok known n vm.target) a in
    and_both
    (and_both (and_left (leb 1 vm.memory) (place_ok known n vm.current && place_ok known n vm.target) a)
    (and_both (rw z at (h 0 (omega arith))) (and_right (place_ok known n vm.current) (place_ok known n vm.target) b)))
    (placed-ok known n places (suc v) vms (λ i k. let f : v + suc i ≡ suc v + i = omega arith in rw f at (h (suc i) (omega arith)))
    (and_right (vm_ok known n vm) (all (vm_ok known n) vms) e))

module _ (s places : List ℕ) (w : cluster_check s ≡ Ok tt) (ok : (v : ℕ) → v < vm_count s → place_ok (knows_nowhere s) (node_count s) (get_or places v 0) ≡ true) where
  rows_ok : all (vm_ok (knows_nowhere s) (node_count s)) (room_of (updated s places)).vms ≡ true
  unfolding at_places
  rows_ok =
      ap (λ (room : Room). all (vm_ok (knows_nowhere s) (node_count s)) room.vms) (updated-room s places w) ∙
      placed-ok (knows_nowhere s) (node_count s) places 0 (room_of s).vms (λ i h. let z : 0 + i ≡ i = omega arith in rw z (ok i (omega (arith, vms-count s)))) (undamaged s w).rows

  -- every test but that of the VM rows reads the same, and they pass
  pub updated-whole : cluster_check (updated s places) ≡ Ok tt
  unfolding cluster_check counts_ok knows_nowhere
  updated-whole =
      let version : version_of (updated s places) ≡ version_of s = header-byte s places 0 (omega arith) in
      rw (ends_stay s places, parts_stay s places, updated-length s places, version, stated-same s places, nodes-same s places, vms-same s places, constraints-same s places, rows_ok)
      (rw (undamaged s w).rows at w)
