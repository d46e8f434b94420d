-- Laws on rows of one width, and on the header and the VM rows of a cluster record.
use Prim.Native.Nat.{ℕ, zero, suc, ◌+◌, ◌-◌, ◌*◌, ◌/◌, ◌≤◌, ◌<◌}
use mathlib.Core.Bool.{Bool, true, false, not, ◌&&◌, ◌||◌, or-true, or-false}
use mathlib.Core.List.{List, [], ◌∷◌}
use mathlib.Core.Logic.{◌⊎◌, inl, inr, ⊎_elim, by_cases}
use mathlib.Core.Path.{◌≡◌, refl, sym, ap, ◌∙◌}
use native.Mathlib.Decide.{dec_lt}
use native.Mathlib.Omega.{arith}
use lib.ListN.{length, get_or, take, drop, length-drop}
use lib.Seq.{length-take-le}
use lib.Dec.{ltb, eqb}
use borrow.Author.Tests.{lt-ltb, le-ltb, eq-eqb, ne_eqb, ltb-true, eqb-true}
use Rattle.std.specs.Simd.{first_chunks}
use Rattle.std.proofs.lemmas.List.{get_or-take, get_or-drop, take-take, drop-take, drop-drop}
use Rattle.records.specs.Base.{all}
use Rattle.records.specs.Bytes.{byte_at, be16, be24}
use Rattle.records.specs.Room.{Vm, nowhere, on_node, rows, vm_row, vm_count, vms_start, constraints_start, room_of, place_ok}
use Rattle.records.specs.Inner.{row_vms}

-- ---- rows

pub rows-length : {A : Type 0} (read : ℕ → A) (width at n : ℕ) → length (rows read width at n) ≡ n
unfolding rows
rows-length read width at zero = refl
rows-length read width at (suc n) = ap suc (rows-length read width (at + width) n)

pub rows_at : {A : Type 0} (read : ℕ → A) (width at n i : ℕ) (d : A) → i < n → get_or (rows read width at n) i d ≡ read (at + i * width)
unfolding rows
rows_at read width at zero i d h = absurd (omega arith)
rows_at read width at (suc n) zero d h = ap read (omega arith)
rows_at read width at (suc n) (suc i) d h = rows_at read width (at + width) n i d (omega arith) ∙ ap read (omega arith)

-- ---- a VM row

-- one of its places
module _ (known : Bool) (nodes place : ℕ) where
  pub place-node : place < nodes → true ≡ place_ok known nodes place
  unfolding place_ok
  place-node h = rw (lt-ltb place nodes h)

-- what a place is, where `nowhere` is not known and where it is
pub place-below : (nodes place : ℕ) → place_ok false nodes place ≡ true → place < nodes
unfolding place_ok
place-below nodes place e = ltb-true place nodes (sym (or-false (ltb place nodes)) ∙ e)

pub place-either : (nodes place : ℕ) → place_ok true nodes place ≡ true → (place < nodes) ⊎ (place ≡ nowhere)
unfolding place_ok
place-either nodes place e = go (ltb place nodes) refl e
  where
    go : (b : Bool) → ltb place nodes ≡ b → (b || eqb place nowhere) ≡ true → (place < nodes) ⊎ (place ≡ nowhere)
    go true t h = inl (ltb-true place nodes t)
    go false t h = inr (eqb-true place nowhere h)

pub place-nowhere : (nodes : ℕ) → place_ok true nodes nowhere ≡ true
unfolding place_ok
place-nowhere nodes = or-true (ltb nowhere nodes)

-- a number below the nodes there can be is a node's
pub node-on : (n d : ℕ) → n ≤ 64 → d < n → on_node d ≡ true
unfolding on_node
node-on n d h k = ap not (ne_eqb d nowhere (λ e. omega arith))

pub place-more : (n m p : ℕ) → n ≤ m → place_ok true n p ≡ true → place_ok true m p ≡ true
place-more n m p h a = ⊎_elim (λ x. sym (place-node true m p (omega arith))) (λ x. rw x (place-nowhere m)) (place-either n p a)

-- of the numbers that a place can have, those below 64 are nodes
module _ (nodes p : ℕ) (m : nodes ≤ 64) (a : place_ok true nodes p ≡ true) where
  pub near-node : p < 64 → p < nodes
  near-node h = ⊎_elim (λ x. x) (λ x. let y : p ≡ 255 = x in absurd (omega arith)) (place-either nodes p a)

  pub near_on : p < 64 → on_node p ≡ true
  near_on h = node-on 64 p (omega arith) h

  pub far-off : 64 ≤ p → on_node p ≡ false
  unfolding on_node
  far-off h = ⊎_elim (λ x. absurd (omega arith)) (λ x. ap not (eq-eqb p nowhere x)) (place-either nodes p a)

  pub not-between : p ≡ 64 → ⊥
  not-between e = ⊎_elim (λ x. absurd (omega arith)) (λ x. let y : p ≡ 255 = x in absurd (omega arith)) (place-either nodes p a)

  pub near-is : on_node p ≡ ltb p 64
  near-is = by_cases (dec_lt p 64) (λ h. near_on h ∙ sym (lt-ltb p 64 h)) (λ h. let k : 64 ≤ p = omega arith in far-off k ∙ sym (le-ltb p 64 k))

-- ---- rows that are cut apart

-- a row by itself
pub row-alone : (s : List ℕ) (at : ℕ) → vm_row (take 7 (drop at s)) 0 ≡ vm_row s at
unfolding vm_row be24 be16
row-alone s at =
    let e : at + 0 ≡ at = omega arith in
    let f : at + 4 ≡ at + 3 + 1 = omega arith in
    rw (byte 0 (omega arith), byte 1 (omega arith), byte 2 (omega arith), byte 3 (omega arith), byte 4 (omega arith), byte 5 (omega arith), byte 6 (omega arith), e, f) refl
  where
    byte : (i : ℕ) → i < 7 → byte_at (take 7 (drop at s)) i ≡ byte_at s (at + i)
    byte i h = get_or-take 7 (drop at s) i 0 h ∙ get_or-drop at s i 0

rows-cut : (s : List ℕ) (at n : ℕ) → row_vms (first_chunks 7 n (drop at s)) ≡ rows (vm_row s) 7 at n
unfolding row_vms rows
rows-cut s at zero = refl
rows-cut s at (suc n) = rw (row-alone s at, drop-drop 7 at s, ← rows-cut s (at + 7) n) refl

-- only so many rows are cut
chunks-take : (k m : ℕ) (s : List ℕ) → m ≡ k * 7 → first_chunks 7 k (take m s) ≡ first_chunks 7 k s
chunks-take zero m s e = refl
chunks-take (suc k) m s e =
    let f : m ≡ 7 + k * 7 = omega arith in
    rw f (rw (take-take 7 (7 + k * 7) s (omega arith), drop-take 7 (k * 7) s, chunks-take k (k * 7) (drop 7 s) refl) refl)

rows-between : (s : List ℕ) (at end n : ℕ) → end ≡ at + n * 7 → end ≤ length s →
    row_vms (first_chunks 7 (length (take (end - at) (drop at s)) / 7) (take (end - at) (drop at s))) ≡ rows (vm_row s) 7 at n
rows-between s at end n e h =
    let l : length (take (end - at) (drop at s)) ≡ end - at = length-take-le (end - at) (drop at s) (let q = length-drop at s in omega arith) in
    let k : length (take (end - at) (drop at s)) / 7 ≡ n = omega arith in
    rw (k, chunks-take n (end - at) (drop at s) (omega arith)) (rows-cut s at n)

-- the VM rows of a record
pub rows-apart : (s b : List ℕ) (at end : ℕ) → b ≡ s → at ≡ vms_start s → end ≡ constraints_start s → constraints_start s ≤ length s →
    row_vms (first_chunks 7 (length (take (end - at) (drop at b)) / 7) (take (end - at) (drop at b))) ≡ (room_of s).vms
unfolding room_of
rows-apart s b at end e f g h = rw (e, f, g) (rows-between s (vms_start s) (constraints_start s) (vm_count s) refl h)

pub all-rows : (p : Vm → Bool) (xs : List (List ℕ)) → all (λ row. p (vm_row row 0)) xs ≡ all p (row_vms xs)
unfolding all row_vms
all-rows p [] = refl
all-rows p (x ∷ xs) = ap (λ (b : Bool). p (vm_row x 0) && b) (all-rows p xs)
