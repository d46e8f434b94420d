-- Laws on bytes written into a buffer.
use Prim.Native.Nat.{ℕ, suc, ◌+◌, ◌≤◌, ◌<◌}
use mathlib.Core.List.{List, [], ◌∷◌, ◌++◌, append_assoc}
use mathlib.Core.Path.{◌≡◌, refl, sym, ap, ◌∙◌}
use native.Mathlib.Nat.{add_assoc, zero-add}
use native.Mathlib.Numerals.{add-one}
use native.Mathlib.Omega.{arith}
use lib.ListN.{length, get_or, set, take, drop, length-append, length-drop}
use lib.Seq.{take-suc, take-suc-set, drop-set-lt, sets-eq, length-take-le, take_at, drop_at, drop-drop, take-take}
use Rattle.records.specs.Bytes.{bytes16, bytes32}
use Rattle.records.specs.Plan.{Move, source_bytes, move_bytes, moves_bytes, step_bytes, header_bytes, written}
use Rattle.records.specs.declared.plan.Source.TheVariants.{Unnamed, Named}

opened : (l : List ℕ) (at : ℕ) (bytes : List ℕ) → written l at bytes ≡ take at l ++ (bytes ++ drop (at + length bytes) l)
unfolding written
opened l at bytes = refl

-- ---- bytes written one behind the other, and one in front of the other

module _ (l : List ℕ) (at : ℕ) (bytes : List ℕ) (h : at + length bytes ≤ length l) where
  -- what stands before, and what stands behind
  front_length : length (take at l ++ bytes) ≡ at + length bytes
  front_length = length-append (take at l) bytes ∙ ap (λ (n : ℕ). n + length bytes) (length-take-le at l (omega arith))

  split : written l at bytes ≡ (take at l ++ bytes) ++ drop (at + length bytes) l
  unfolding written
  split = sym (append_assoc (take at l) bytes (drop (at + length bytes) l))

  pub written-before : take at (written l at bytes) ≡ take at l
  unfolding written
  written-before = take_at (take at l) (bytes ++ drop (at + length bytes) l) at (length-take-le at l (omega arith))

  pub written-front : take (at + length bytes) (written l at bytes) ≡ take at l ++ bytes
  written-front = ap (take (at + length bytes)) split ∙ take_at (take at l ++ bytes) (drop (at + length bytes) l) (at + length bytes) front_length

  pub written_behind : drop (at + length bytes) (written l at bytes) ≡ drop (at + length bytes) l
  written_behind = ap (drop (at + length bytes)) split ∙ drop_at (take at l ++ bytes) (drop (at + length bytes) l) (at + length bytes) front_length

  pub written-length : length (written l at bytes) ≡ length l
  written-length =
      let f = front_length in
      let e = length-drop (at + length bytes) l in
      let a = ap length split ∙ length-append (take at l ++ bytes) (drop (at + length bytes) l) in
      omega arith

module _ (l : List ℕ) (at : ℕ) (bs cs : List ℕ) (h : at + length bs + length cs ≤ length l) where
  joined : take at l ++ (bs ++ (cs ++ drop (at + length bs + length cs) l)) ≡ written l at (bs ++ cs)
  unfolding written
  joined =
      ap (λ (r : List ℕ). take at l ++ r)
      (sym (append_assoc bs cs (drop (at + length bs + length cs) l)) ∙
      ap (λ (n : ℕ). (bs ++ cs) ++ drop n l) (add_assoc at (length bs) (length cs) ∙ ap (λ (n : ℕ). at + n) (sym (length-append bs cs))))

  pub written_next : written (written l at bs) (at + length bs) cs ≡ written l at (bs ++ cs)
  written_next = opened (written l at bs) (at + length bs) cs ∙ second ∙ joined
    where
      fits : at + length bs ≤ length l
      fits = omega arith

      rest : drop (at + length bs + length cs) (written l at bs) ≡ drop (at + length bs + length cs) l
      rest =
          sym (drop-drop (length cs) (at + length bs) (written l at bs)) ∙ ap (drop (length cs)) (written_behind l at bs fits) ∙
          drop-drop (length cs) (at + length bs) l

      second : take (at + length bs) (written l at bs) ++ (cs ++ drop (at + length bs + length cs) (written l at bs)) ≡
          take at l ++ (bs ++ (cs ++ drop (at + length bs + length cs) l))
      second = rw (rest, written-front l at bs fits) (append_assoc (take at l) bs (cs ++ drop (at + length bs + length cs) l))

  -- the same after a call
  pub written_on : (m : List ℕ) (place : ℕ) → m ≡ written l at bs → place ≡ at + length bs → written m place cs ≡ written l at (bs ++ cs)
  written_on m place e p = rw (e, p) written_next

  pub written-earlier : written (written l (at + length bs) cs) at bs ≡ written l at (bs ++ cs)
  written-earlier = opened (written l (at + length bs) cs) at bs ∙ first ∙ joined
    where
      before : take at (written l (at + length bs) cs) ≡ take at l
      before =
          sym (take-take at (at + length bs) (written l (at + length bs) cs) (omega arith)) ∙
          ap (take at) (written-before l (at + length bs) cs h) ∙ take-take at (at + length bs) l (omega arith)

      behind : drop (at + length bs) (written l (at + length bs) cs) ≡ cs ++ drop (at + length bs + length cs) l
      behind =
          ap (drop (at + length bs)) (opened l (at + length bs) cs) ∙
          drop_at (take (at + length bs) l) (cs ++ drop (at + length bs + length cs) l) (at + length bs) (length-take-le (at + length bs) l (omega arith))

      first : take at (written l (at + length bs) cs) ++ (bs ++ drop (at + length bs) (written l (at + length bs) cs)) ≡
          take at l ++ (bs ++ (cs ++ drop (at + length bs + length cs) l))
      first = rw (before, behind)

-- at the front of a buffer: the bytes, then what stood behind them
pub written-zero : (l bytes : List ℕ) → written l 0 bytes ≡ bytes ++ drop (length bytes) l
unfolding written
written-zero l bytes = ap (λ (n : ℕ). bytes ++ drop n l) (zero-add (length bytes))

-- the header, written from its end
pub header-written : (l m n : List ℕ) (version end steps : ℕ) → m ≡ written l 5 (bytes16 steps) → n ≡ written m 1 (bytes32 end) → 7 ≤ length l →
    set n 0 version ≡ written l 0 (header_bytes version end steps)
unfolding header_bytes bytes16 bytes32
header-written l m n version end steps e f h =
    first ∙ ap (λ (x : List ℕ). written x 0 (version ∷ [])) nm ∙ written-earlier l 0 (version ∷ []) (bytes32 end ++ bytes16 steps) h
  where
    ml : length m ≡ length l
    ml = ap length e ∙ written-length l 5 (bytes16 steps) h

    nl : length n ≡ length l
    nl = ap length f ∙ written-length m 1 (bytes32 end) (rw ml (omega arith)) ∙ ml

    nm : n ≡ written l 1 (bytes32 end ++ bytes16 steps)
    nm = f ∙ ap (λ (x : List ℕ). written x 1 (bytes32 end)) e ∙ written-earlier l 1 (bytes32 end) (bytes16 steps) h

    -- the store of the version
    first : set n 0 version ≡ written n 0 (version ∷ [])
    first = sets-eq (version ∷ []) n 0 (rw nl (omega arith)) ∙ append_assoc (take 0 n) (version ∷ []) (drop 1 n) ∙ sym (opened n 0 (version ∷ []))

-- the header, and a step of one move, put part by part
module _ (l m : List ℕ) (place : ℕ) where
  pub header_written : (n : List ℕ) (next version end steps : ℕ) → 7 ≤ length l → m ≡ written l 0 (version ∷ []) → place ≡ 1 → n ≡ written m place (bytes32 end) → next ≡ place + 4 →
      written n next (bytes16 steps) ≡ written l 0 (header_bytes version end steps)
  unfolding header_bytes bytes16 bytes32
  header_written n next version end steps h e p f q =
      written_on l 0 (version ∷ bytes32 end) (bytes16 steps) h n next (f ∙ written_on l 0 (version ∷ []) (bytes32 end) (omega arith) m place e p) (omega arith)

  module _ (at : ℕ) (move : Move) (h : at + 5 ≤ length l) (e : m ≡ written l at (bytes16 1)) (p : place ≡ at + 2) where
    pub plain-written : (n : List ℕ) (end : ℕ) → move.source ≡ Unnamed → n ≡ written m place (move.vm ∷ move.to ∷ []) → end ≡ place + 2 →
        (end ≡ at + length (step_bytes (move ∷ []))) × (n ≡ written l at (step_bytes (move ∷ [])))
    unfolding step_bytes moves_bytes move_bytes source_bytes bytes16
    plain-written n end s f q = rw s (omega arith, f ∙ written_on l at (bytes16 1) (move.vm ∷ move.to ∷ []) (omega arith) m place e p)

    pub naming-written : (n : List ℕ) (end from : ℕ) → move.source ≡ Named from → n ≡ written m place (move.vm ∷ from ∷ move.to ∷ []) → end ≡ place + 3 →
        (end ≡ at + length (step_bytes (move ∷ []))) × (n ≡ written l at (step_bytes (move ∷ [])))
    unfolding step_bytes moves_bytes move_bytes source_bytes bytes16
    naming-written n end from s f q = rw s (omega arith, f ∙ written_on l at (bytes16 1) (move.vm ∷ from ∷ move.to ∷ []) (omega arith) m place e p)

pub ruleset single_written = (plain-written, naming-written)

-- ---- a list put into a buffer element by element: the first i are those of the list, the others as they were

pub put_one : (l out : List ℕ) (i x : ℕ) → x ≡ get_or l i 0 → take i out ≡ take i l → i < length out → i < length l → take (i + 1) (set out i x) ≡ take (i + 1) l
put_one l out i x e inv h k =
    rw add-one (take-suc-set out i x h ∙ ap (λ (y : List ℕ). y ++ (x ∷ [])) inv ∙ ap (λ (y : ℕ). take i l ++ (y ∷ [])) e ∙ sym (take-suc l i 0 k))

pub put_rest : (out old : List ℕ) (i x : ℕ) → drop i out ≡ drop i old → drop (i + 1) (set out i x) ≡ drop (i + 1) old
put_rest out old i x inv =
    let l : i < suc i = omega arith in
    let m : i + 1 ≡ suc i = omega arith in
    rw add-one (drop-set-lt (suc i) out i x l ∙ ap (λ (j : ℕ). drop j out) (sym m) ∙ sym (drop-drop 1 i out) ∙ ap (drop 1) inv ∙ drop-drop 1 i old ∙ ap (λ (j : ℕ). drop j old) m)
