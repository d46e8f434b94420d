-- Laws on a room with its VMs elsewhere: all but where they are is as it was.
use Prim.Native.Nat.{ℕ, zero, suc, ◌+◌, ◌<◌}
use mathlib.Core.List.{List, [], ◌∷◌, map}
use mathlib.Core.Path.{◌≡◌, refl, sym, ap, ◌∙◌}
use native.Mathlib.Omega.{arith}
use lib.ListN.{length, get_or, length-map}
use lib.Seq.{ext_get_or}
use Rattle.records.specs.Base.{pick, all}
use Rattle.records.specs.Room.{Vm, no_vm, Room, vm_of, node_of, placed_from, at_places, at_reserve}
use Rattle.records.specs.Plan.{Step}
use Rattle.rules.specs.Moments.{Placement, current_of, target_of, Moment, number_of, counts_on, with_vm, tally_at, first_moment, at_rest, within}
use Rattle.rules.specs.Rules.{from, fits_all, target_check}
use Rattle.rules.specs.declared.tally.Tally.{Tally}

-- ---- the VMs, one by one

module _ (places : List ℕ) where
  placed-length : (v : ℕ) (vms : List Vm) → length (placed_from places v vms) ≡ length vms
  unfolding placed_from
  placed-length v [] = refl
  placed-length v (vm ∷ vms) = ap suc (placed-length (suc v) vms)

  placed-memory : (v : ℕ) (vms : List Vm) (i : ℕ) → (get_or (placed_from places v vms) i no_vm).memory ≡ (get_or vms i no_vm).memory
  unfolding placed_from
  placed-memory v [] i = refl
  placed-memory v (vm ∷ vms) zero = refl
  placed-memory v (vm ∷ vms) (suc i) = placed-memory (suc v) vms i

  placed-cpu : (v : ℕ) (vms : List Vm) (i : ℕ) → (get_or (placed_from places v vms) i no_vm).cpu ≡ (get_or vms i no_vm).cpu
  unfolding placed_from
  placed-cpu v [] i = refl
  placed-cpu v (vm ∷ vms) zero = refl
  placed-cpu v (vm ∷ vms) (suc i) = placed-cpu (suc v) vms i

  placed-targets : (v : ℕ) (vms : List Vm) → map (λ vm. vm.target) (placed_from places v vms) ≡ map (λ vm. vm.target) vms
  unfolding placed_from
  placed-targets v [] = refl
  placed-targets v (vm ∷ vms) = ap (λ (l : List ℕ). vm.target ∷ l) (placed-targets (suc v) vms)

  placed-current : (v : ℕ) (vms : List Vm) (i : ℕ) → i < length vms → get_or (map (λ vm. vm.current) (placed_from places v vms)) i 0 ≡ get_or places (v + i) 0
  unfolding placed_from
  placed-current v [] i h = absurd (omega arith)
  placed-current v (vm ∷ vms) zero h = ap (λ (k : ℕ). get_or places k 0) (omega arith)
  placed-current v (vm ∷ vms) (suc i) h = placed-current (suc v) vms i (omega arith) ∙ ap (λ (k : ℕ). get_or places k 0) (omega arith)

-- ---- the room

module _ (places : Placement) (room : Room) where
  placed-vms : length (at_places places room).vms ≡ length room.vms
  unfolding at_places
  placed-vms = placed-length places 0 room.vms

  -- its VMs are at those places, and are wanted where they were
  pub placed-currents : length places ≡ length room.vms → current_of (at_places places room) ≡ places
  unfolding current_of at_places
  placed-currents l =
      let count = length-map (placed_from places 0 room.vms) (λ vm. vm.current) ∙ placed-length places 0 room.vms in
      ext_get_or 0 (map (λ vm. vm.current) (placed_from places 0 room.vms)) places (count ∙ sym l)
      (λ i h. placed-current places 0 room.vms i (omega arith) ∙ ap (λ (k : ℕ). get_or places k 0) (omega arith))

  placed-target : target_of (at_places places room) ≡ target_of room
  unfolding target_of at_places
  placed-target = placed-targets places 0 room.vms

  placed-with : (tally : Tally) (v : ℕ) → with_vm tally (vm_of (at_places places room) v) ≡ with_vm tally (vm_of room v)
  unfolding vm_of at_places
  placed-with tally v = rw (placed-memory places 0 room.vms v, placed-cpu places 0 room.vms v)

  -- moments and tallies are the same
  pub placed-moment : (start : Placement) (step : Step) → first_moment (at_places places room) start step ≡ first_moment room start step
  unfolding first_moment
  placed-moment start step = rw placed-vms

  pub placed-tally : (d : ℕ) (cs : Moment) → tally_at (at_places places room) d cs ≡ tally_at room d cs
  unfolding tally_at
  placed-tally d [] = refl
  placed-tally d (c ∷ cs) =
      rw (placed-tally d cs) (ap (λ (t : Tally). pick (counts_on d c) t (tally_at room d cs)) (placed-with (tally_at room d cs) (number_of c)))

  -- so is the target's fault
  all-within : (cs : Moment) (ds : List ℕ) →
      all (λ d. within (node_of (at_places places room) d) (tally_at (at_places places room) d cs)) ds ≡ all (λ d. within (node_of room d) (tally_at room d cs)) ds
  unfolding all node_of at_places
  all-within cs [] = refl
  all-within cs (d ∷ ds) = rw (placed-tally d cs, all-within cs ds)

  placed-fits : (start : Placement) → fits_all (at_places places room) start ≡ fits_all room start
  unfolding fits_all at_places
  placed-fits start = rw (placed-moment start []) (all-within (at_rest room start) (from 0 (length room.nodes)))

  pub placed-check : target_check (at_places places room) ≡ target_check room
  unfolding target_check at_places
  placed-check = rw (placed-target, placed-fits (target_of room))

  -- and a reserve is kept of the same nodes
  pub placed-reserve : (reserve : ℕ) → at_reserve reserve (at_places places room) ≡ at_places places (at_reserve reserve room)
  unfolding at_reserve at_places
  placed-reserve reserve = refl
