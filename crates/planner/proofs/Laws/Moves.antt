-- Laws on a step held as an array of destinations: its moves, the bytes they are written as, the placement it leaves.
use Prim.Native.Nat.{ℕ, zero, suc, ◌+◌, ◌-◌, ◌*◌, ◌≤◌, ◌<◌}
use mathlib.Core.List.{List, [], ◌∷◌, ◌++◌, append_assoc, append-nil}
use mathlib.Core.Path.{◌≡◌, refl, sym, ap, ap₂, ◌∙◌}
use native.Mathlib.Nat.{add-zero, zero-add}
use native.Mathlib.Numerals.{add-one}
use native.Mathlib.Omega.{arith}
use lib.ListN.{length, get_or, set, take, drop, length-append, take-append-drop}
use borrow.Author.Tests.{eq-eqb, ne_eqb}
use Rattle.records.specs.Plan.{Step, with_sources, move_bytes, moves_bytes, written, written_width}
use Rattle.records.specs.declared.plan.Source.TheVariants.{Named}
use Rattle.records.proofs.Laws.Written.{written_next, written-length}
use Rattle.rules.specs.Moments.{after}
use Rattle.planner.specs.Picks.{moving, from_places}
use Rattle.planner.specs.Inner.{move_in, moves_in}
use Rattle.planner.proofs.Laws.Naming.{from-size, from-append}

-- ---- the moves of one VM

pub move-none : (v d : ℕ) → d ≡ 64 → move_in v d ≡ []
unfolding move_in
move-none v d e = rw (eq-eqb d 64 e)

pub move-one : (v d : ℕ) → (d ≡ 64 → ⊥) → move_in v d ≡ moving v d ∷ []
unfolding move_in
move-one v d e = rw (ne_eqb d 64 e)

-- ---- what is left

left-suc : (n v : ℕ) → v < n → n - v ≡ suc (n - suc v)
left-suc n v h = omega arith

moves-left : (dests : List ℕ) (n v : ℕ) → v < n → moves_in dests v (n - v) ≡ move_in v (get_or dests v 0) ++ moves_in dests (suc v) (n - suc v)
unfolding moves_in
moves-left dests n v h = rw (left-suc n v h)

moves-done : (dests : List ℕ) (n v : ℕ) → n ≤ v → moves_in dests v (n - v) ≡ []
unfolding moves_in
moves-done dests n v h = let z : n - v ≡ 0 = omega arith in rw z

-- ---- the placement that is left

module _ (next dests result : List ℕ) (n v : ℕ) (inv : after next (moves_in dests v (n - v)) ≡ result) where
  pub moved-goes : v < n → (get_or dests v 0 ≡ 64 → ⊥) → after (set next v (get_or dests v 0)) (moves_in dests (v + 1) (n - (v + 1))) ≡ result
  unfolding after
  moved-goes h e =
      let m = moves-left dests n v h ∙ ap (λ (x : Step). x ++ moves_in dests (suc v) (n - suc v)) (move-one v (get_or dests v 0) e) in
      rw add-one (ap (after next) (sym m) ∙ inv)

  pub moved-stays : v < n → get_or dests v 0 ≡ 64 → after next (moves_in dests (v + 1) (n - (v + 1))) ≡ result
  moved-stays h e =
      let m = moves-left dests n v h ∙ ap (λ (x : Step). x ++ moves_in dests (suc v) (n - suc v)) (move-none v (get_or dests v 0) e) in
      rw add-one (ap (after next) (sym m) ∙ inv)

  pub moved-end : n ≤ v → next ≡ result
  unfolding after
  moved-end h = ap (after next) (sym (moves-done dests n v h)) ∙ inv

-- ---- the moves made so far

moves-split : (dests : List ℕ) (k a b : ℕ) → moves_in dests k (a + b) ≡ moves_in dests k a ++ moves_in dests (k + a) b
unfolding moves_in
moves-split dests k zero b = ap₂ (moves_in dests) (sym (add-zero k)) (zero-add b)
moves-split dests k (suc a) b =
    let s : suc k + a ≡ k + suc a = omega arith in
    let t : suc a + b ≡ suc (a + b) = omega arith in
    ap (moves_in dests k) t ∙ ap (λ (x : Step). move_in k (get_or dests k 0) ++ x) (moves-split dests (suc k) a b ∙ ap (λ (i : ℕ). moves_in dests (suc k) a ++ moves_in dests i b) s) ∙
    sym (append_assoc (move_in k (get_or dests k 0)) (moves_in dests (suc k) a) (moves_in dests (k + suc a) b))

pub moves-snoc : (dests : List ℕ) (v : ℕ) → moves_in dests 0 (v + 1) ≡ moves_in dests 0 v ++ move_in v (get_or dests v 0)
unfolding moves_in
moves-snoc dests v =
    moves-split dests 0 v 1 ∙
    ap (λ (x : Step). moves_in dests 0 v ++ x) (append-nil (move_in (0 + v) (get_or dests (0 + v) 0)) ∙ ap (λ (i : ℕ). move_in i (get_or dests i 0)) (omega arith))

pub moves-room : (dests : List ℕ) (n v : ℕ) → v < n → length (moves_in dests 0 v) + length (move_in v (get_or dests v 0)) ≤ length (moves_in dests 0 n)
moves-room dests n v h =
    let s : n ≡ (v + 1) + (n - (v + 1)) = omega arith in
    let a = ap (λ (i : ℕ). length (moves_in dests 0 i)) s ∙ ap length (moves-split dests 0 (v + 1) (n - (v + 1))) ∙
    length-append (moves_in dests 0 (v + 1)) (moves_in dests (0 + (v + 1)) (n - (v + 1))) in
    let b = ap length (moves-snoc dests v) ∙ length-append (moves_in dests 0 v) (move_in v (get_or dests v 0)) in
    omega arith

-- ---- their bytes

pub bytes-append : (a b : Step) → moves_bytes (a ++ b) ≡ moves_bytes a ++ moves_bytes b
unfolding moves_bytes
bytes-append [] b = refl
bytes-append (move ∷ moves) b = ap (λ (x : List ℕ). move_bytes move ++ x) (bytes-append moves b) ∙ sym (append_assoc (move_bytes move) (moves_bytes moves) (moves_bytes b))

-- nothing written
pub written_none : (l : List ℕ) (at : ℕ) → at ≤ length l → written l at [] ≡ l
unfolding written
written_none l at h = ap (λ (k : ℕ). take at l ++ drop k l) (add-zero at) ∙ take-append-drop at l

-- one VM's move, or none
module _ (places : List ℕ) (v d : ℕ) where
  bytes_one : (d ≡ 64 → ⊥) → moves_bytes (from_places places (move_in v d)) ≡ move_bytes (record { vm = v; source = Named (get_or places v 0); to = d })
  unfolding moves_bytes from_places with_sources
  bytes_one e =
      ap (λ (x : Step). moves_bytes (from_places places x)) (move-one v d e) ∙ append-nil (move_bytes (record { vm = v; source = Named (get_or places v 0); to = d }))

  bytes-none : d ≡ 64 → moves_bytes (from_places places (move_in v d)) ≡ []
  unfolding moves_bytes from_places with_sources
  bytes-none e = ap (λ (x : Step). moves_bytes (from_places places x)) (move-none v d e)

-- the moves of the VMs so far
module _ (before out places dests : List ℕ) (at n v vms : ℕ) (o : out ≡ written before (at + 2) (moves_bytes (from_places places (moves_in dests 0 v))))
    (c : n ≡ length (moves_in dests 0 v)) (room : at + 2 + length (moves_in dests 0 vms) * written_width ≤ length before) (h : v < vms) where
  put-fits : at + 2 + length (moves_bytes (from_places places (moves_in dests 0 v))) + length (moves_bytes (from_places places (move_in v (get_or dests v 0)))) ≤ length before
  put-fits =
      let a = from-size places (moves_in dests 0 v) in let b = from-size places (move_in v (get_or dests v 0)) in let m = moves-room dests vms v h in
      omega arith

  pub put-length : length out ≡ length before
  put-length = let f = put-fits in ap length o ∙ written-length before (at + 2) (moves_bytes (from_places places (moves_in dests 0 v))) (omega arith)

  more_bytes : moves_bytes (from_places places (moves_in dests 0 (v + 1))) ≡ moves_bytes (from_places places (moves_in dests 0 v)) ++ moves_bytes (from_places places (move_in v (get_or dests v 0)))
  more_bytes =
      ap (λ (x : Step). moves_bytes (from_places places x)) (moves-snoc dests v) ∙ ap moves_bytes (from-append places (moves_in dests 0 v) (move_in v (get_or dests v 0))) ∙
      bytes-append (from_places places (moves_in dests 0 v)) (from_places places (move_in v (get_or dests v 0)))

  -- with a move
  module _ (e : get_or dests v 0 ≡ 64 → ⊥) where
    one_more : length (moves_in dests 0 v) + 1 ≡ length (moves_in dests 0 (v + 1))
    one_more =
        let a = ap length (moves-snoc dests v) ∙ length-append (moves_in dests 0 v) (move_in v (get_or dests v 0)) in
        let b = ap length (move-one v (get_or dests v 0) e) in
        omega arith

    pub put-room : at + 2 + n * written_width + written_width ≤ length out
    put-room =
        let l = put-length in let m = moves-room dests vms v h in let b = ap length (move-one v (get_or dests v 0) e) in
        omega arith

    pub put-more : (next : List ℕ) → next ≡ written out (at + 2 + n * written_width) (move_bytes (record { vm = v; source = Named (get_or places v 0); to = get_or dests v 0 })) →
        next ≡ written before (at + 2) (moves_bytes (from_places places (moves_in dests 0 (v + 1))))
    put-more next f =
        let a = from-size places (moves_in dests 0 v) in
        let p : at + 2 + n * written_width ≡ at + 2 + length (moves_bytes (from_places places (moves_in dests 0 v))) = omega arith in
        f ∙ rw (p, o, ← bytes_one places v (get_or dests v 0) e)
        (written_next before (at + 2) (moves_bytes (from_places places (moves_in dests 0 v))) (moves_bytes (from_places places (move_in v (get_or dests v 0)))) put-fits ∙
        ap (written before (at + 2)) (sym more_bytes))

    pub put-count : n + 1 ≡ length (moves_in dests 0 (v + 1))
    put-count = let a = one_more in omega arith

  -- without
  module _ (e : get_or dests v 0 ≡ 64) where
    pub put-same : out ≡ written before (at + 2) (moves_bytes (from_places places (moves_in dests 0 (v + 1))))
    put-same =
        o ∙ ap (written before (at + 2))
        (sym (more_bytes ∙ ap (λ (x : List ℕ). moves_bytes (from_places places (moves_in dests 0 v)) ++ x) (bytes-none places v (get_or dests v 0) e) ∙
        append-nil (moves_bytes (from_places places (moves_in dests 0 v)))))

    pub put-still : n ≡ length (moves_in dests 0 (v + 1))
    put-still =
        let a = ap length (moves-snoc dests v) ∙ length-append (moves_in dests 0 v) (move_in v (get_or dests v 0)) in
        let b = ap length (move-none v (get_or dests v 0) e) in
        omega arith

pub put-start : (l places dests : List ℕ) (at k : ℕ) → at + 2 + k * written_width ≤ length l → l ≡ written l (at + 2) (moves_bytes (from_places places (moves_in dests 0 0)))
unfolding moves_in moves_bytes from_places with_sources
put-start l places dests at k h = sym (written_none l (at + 2) (omega arith))
