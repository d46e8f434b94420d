-- Laws on writing the record: a copy at the buffer's front, and the places put into it.
use Prim.Native.Nat.{ℕ, ◌+◌, ◌≤◌, ◌<◌}
use mathlib.Core.List.{List, ◌++◌}
use mathlib.Core.Path.{◌≡◌, sym, ap, ◌∙◌}
use native.Mathlib.Numerals.{add-one}
use native.Mathlib.Omega.{arith}
use lib.ListN.{length, get_or, set, take, drop, length-set, take-append-drop}
use lib.Seq.{take_all, set-append_left}
use Rattle.std.specs.Prelude.{Ok}
use Rattle.records.specs.Inner.{current_in}
use Rattle.records.specs.Room.{Room, room_at, vm_count, current_at, updated_to, updated, cluster_check}
use Rattle.records.specs.Plan.{written}
use Rattle.records.proofs.Laws.Cluster.{whole-rows}
use Rattle.records.proofs.Laws.Reading.{vms_of_view, current_of_view}
use Rattle.records.proofs.Laws.Updated.{updated-to-length}
use Rattle.records.proofs.Laws.Written.{written-zero, put_one}

-- ---- a copy at the front: the first i bytes are copied, the others as they were

pub copy_more : (bytes out old : List ℕ) (i x : ℕ) → x ≡ get_or bytes i 0 → take i out ≡ take i bytes → length out ≡ length old → length bytes ≤ length old → i < length bytes →
    take (i + 1) (set out i x) ≡ take (i + 1) bytes
copy_more bytes out old i x e inv l m h = put_one bytes out i x e inv (omega arith) h

pub copy-end : (bytes out old : List ℕ) (i : ℕ) → take i out ≡ take i bytes → drop i out ≡ drop i old → i ≤ length bytes → length bytes ≤ i → out ≡ written old 0 bytes
copy-end bytes out old i t d h k =
    let e : i ≡ length bytes = omega arith in
    sym (take-append-drop i out) ∙ ap (λ (l : List ℕ). l ++ drop i out) (t ∙ take_all i bytes k) ∙ ap (λ (l : List ℕ). bytes ++ l) (d ∙ ap (λ (j : ℕ). drop j old) e) ∙
    sym (written-zero old bytes)

-- ---- places put into it

module _ (cluster places old : List ℕ) where
  pub put-start : (out : List ℕ) → out ≡ written old 0 cluster → out ≡ written old 0 (updated_to cluster places 0)
  unfolding updated_to
  put-start out e = e

  -- where a place stands
  place-within : (v : ℕ) → cluster_check cluster ≡ Ok tt → v < vm_count cluster → current_at cluster v < length cluster
  place-within v w h = let l = whole-rows cluster w in omega arith

  pub put-more : (out next : List ℕ) (v at x : ℕ) → at ≡ current_at cluster v → x ≡ get_or places v 0 → next ≡ set out at x →
      out ≡ written old 0 (updated_to cluster places v) → cluster_check cluster ≡ Ok tt → v < vm_count cluster → next ≡ written old 0 (updated_to cluster places (v + 1))
  unfolding updated_to
  put-more out next v at x g e f inv w h =
      let l : current_at cluster v < length (updated_to cluster places v) = rw (updated-to-length cluster places v) (place-within v w h) in
      f ∙ ap (λ (i : ℕ). set out i x) g ∙ ap (λ (b : List ℕ). set b (current_at cluster v) x) (inv ∙ written-zero old (updated_to cluster places v)) ∙
      set-append_left (updated_to cluster places v) (drop (length (updated_to cluster places v)) old) (current_at cluster v) x l ∙
      rw (e, add-one v) (sym (written-zero old (set (updated_to cluster places v) (current_at cluster v) (get_or places v 0)) ∙
      ap (λ (n : ℕ). set (updated_to cluster places v) (current_at cluster v) (get_or places v 0) ++ drop n old) (length-set (updated_to cluster places v) (current_at cluster v) (get_or places v 0))))

  pub put-end : (out : List ℕ) (v n : ℕ) → n ≡ vm_count cluster → out ≡ written old 0 (updated_to cluster places v) → v ≡ n → out ≡ written old 0 (updated cluster places)
  unfolding updated
  put-end out v n q inv h = rw (← q, ← h) inv

-- the VMs and their places through a view of the record
module _ (cluster : List ℕ) (room : Room) (e : room ≡ room_at 0 cluster) where
  pub view-count : length room.vms ≡ vm_count cluster
  view-count = ap (λ (r : Room). length r.vms) e ∙ sym (vms_of_view 0 cluster)

  pub view-place : (v : ℕ) → current_in room v ≡ current_at cluster v
  view-place v = ap (λ (r : Room). current_in r v) e ∙ sym (current_of_view 0 cluster v)

  pub view-within : (v : ℕ) → cluster_check cluster ≡ Ok tt → v < vm_count cluster → current_in room v < length cluster
  view-within v w h = let l = whole-rows cluster w in rw (view-place v) (omega arith)
