-- Laws on the table of the VMs that one spread names: the passes that fill it, that it says what the definition says, and how mates are found in it.
use Prim.Native.Nat.{ℕ, zero, suc, ◌+◌, ◌-◌, ◌≤◌, ◌<◌}
use mathlib.Core.Bool.{Bool, true, false, ◌&&◌, ◌||◌, or-false}
use mathlib.Core.List.{List, [], ◌∷◌}
use mathlib.Core.Logic.{by_cases}
use mathlib.Core.Path.{◌≡◌, refl, sym, ap, ◌∙◌}
use native.Mathlib.Decide.{ℕ_discrete}
use native.Mathlib.Numerals.{add-one}
use native.Mathlib.Omega.{arith}
use lib.ListN.{length, get_or, set, replicate, length-set, length-replicate, get_or-replicate}
use lib.Seq.{get_or-set_same, get_or-set_other}
use lib.Dec.{eqb}
use borrow.Author.Tests.{eq-eqb, ne_eqb}
use Rattle.records.specs.Room.{Constraint, ban, fence, spread, latency, before, kind_of, vms_of, on_node, has, Room, IsSound}
use Rattle.records.specs.declared.constraints.Kind.{Kind}
use Rattle.records.specs.declared.constraints.Kind.TheVariants.{Spread}
use Rattle.records.proofs.Laws.Rows.{node-on}
use Rattle.records.proofs.Laws.Bools.{pick_same}
use Rattle.rules.specs.Orders.{spreads, some, mates, meets_mate}
use Rattle.rules.specs.Inner.{busy_from}
use Rattle.rules.proofs.Laws.Loads.{counts-is}
use Rattle.planner.specs.Inner.{pair_row, pair_rows, paired, paired_all, Pairs}

-- ---- a constraint, by its kind
pub part-spread : (table after : List (List Bool)) (vms : List ℕ) (k : Constraint) (kind : Kind) → kind ≡ kind_of k → after ≡ pair_rows table vms vms → vms ≡ vms_of k → kind ≡ Spread → after ≡ paired table k
unfolding paired kind_of vms_of
part-spread table after vms (ban xs nodes) kind a t e b = let z : ◌≡◌ {A = ℕ} 0 1 = cc in absurd (omega arith)
part-spread table after vms (fence xs nodes) kind a t e b = let z : ◌≡◌ {A = ℕ} 0 1 = cc in absurd (omega arith)
part-spread table after vms (spread xs) kind a t e b = t ∙ ap (λ (l : List ℕ). pair_rows table l l) e
part-spread table after vms (latency xs groups) kind a t e b = let z : ◌≡◌ {A = ℕ} 0 1 = cc in absurd (omega arith)
part-spread table after vms (before first second) kind a t e b = let z : ◌≡◌ {A = ℕ} 0 1 = cc in absurd (omega arith)

pub part-other : (table : List (List Bool)) (k : Constraint) (kind : Kind) → kind ≡ kind_of k → (kind ≡ Spread → ⊥) → table ≡ paired table k
unfolding paired kind_of
part-other table (ban xs nodes) kind a n = refl
part-other table (fence xs nodes) kind a n = refl
part-other table (spread xs) kind a n = absurd (n a)
part-other table (latency xs groups) kind a n = refl
part-other table (before first second) kind a n = refl

-- ---- the table says what the definition says

-- one mark after another: made by either
pub or-turn : (p q x : Bool) → (q || (p || x)) ≡ ((p || q) || x)
or-turn true true x = refl
or-turn true false x = refl
or-turn false q x = refl

or-and : (p q s : Bool) → ((p && s) || (q && s)) ≡ ((p || q) && s)
or-and true true true = refl
or-and true true false = refl
or-and true false true = refl
or-and true false false = refl
or-and false q s = refl

-- a mark that is made is there
made : (row : List Bool) (i : ℕ) (b : Bool) → i < length row → (b || get_or (set row i true) i false) ≡ true
made row i true h = refl
made row i false h = get_or-set_same row i true false h

row-length : (row : List Bool) (ws : List ℕ) → length (pair_row row ws) ≡ length row
row-length row [] = refl
row-length row (w ∷ ws) = row-length (set row w true) ws ∙ length-set row w true

module _ (a b : ℕ) (ha : a < 256) (hb : b < 256) where
  row_at : (row : List Bool) (ws : List ℕ) → length row ≡ 256 → get_or (pair_row row ws) b false ≡ (has ws b || get_or row b false)
  unfolding has
  row_at row [] z = refl
  row_at row (w ∷ ws) z =
      row_at (set row w true) ws (length-set row w true ∙ z) ∙
      by_cases (ℕ_discrete w b)
      (λ q. let l : b < length row = rw z hb in simp (eq-eqb w b q) (rw q (made row b (has ws b) l)))
      (λ q. simp (ne_eqb w b q) (rw (get_or-set_other row w b true false (λ x. q (sym x))) refl))

  -- a table of 256 rows, of which row a is of 256 marks
  abbrev Wide : List (List Bool) → Type 0
  Wide table = (length table ≡ 256) × (length (get_or table a []) ≡ 256)

  -- one row more
  one-wide : (table : List (List Bool)) (v : ℕ) (vms : List ℕ) → Wide table → Wide (set table v (pair_row (get_or table v []) vms))
  one-wide table v vms z = (
    length-set table v (pair_row (get_or table v []) vms) ∙ z.0,
    by_cases (ℕ_discrete v a)
        (λ q. let l : a < length table = rw z.0 ha in
        rw q (ap length (get_or-set_same table a (pair_row (get_or table a []) vms) [] l) ∙ row-length (get_or table a []) vms ∙ z.1))
        (λ q. ap length (get_or-set_other table v a (pair_row (get_or table v []) vms) [] (λ x. q (sym x))) ∙ z.1),
  )

  one_at : (table : List (List Bool)) (v : ℕ) (vms : List ℕ) → Wide table →
      get_or (get_or (set table v (pair_row (get_or table v []) vms)) a []) b false ≡ ((eqb v a && has vms b) || get_or (get_or table a []) b false)
  one_at table v vms z =
      by_cases (ℕ_discrete v a)
      (λ q. let l : a < length table = rw z.0 ha in
      simp (eq-eqb v a q)
      (rw q (ap (λ (row : List Bool). get_or row b false) (get_or-set_same table a (pair_row (get_or table a []) vms) [] l) ∙ row_at (get_or table a []) vms z.1)))
      (λ q. simp (ne_eqb v a q) (ap (λ (row : List Bool). get_or row b false) (get_or-set_other table v a (pair_row (get_or table v []) vms) [] (λ x. q (sym x)))))

  rows-wide : (table : List (List Bool)) (vms vs : List ℕ) → Wide table → Wide (pair_rows table vms vs)
  rows-wide table vms [] z = z
  rows-wide table vms (v ∷ vs) z = rows-wide (set table v (pair_row (get_or table v []) vms)) vms vs (one-wide table v vms z)

  rows_at : (table : List (List Bool)) (vms vs : List ℕ) → Wide table →
      get_or (get_or (pair_rows table vms vs) a []) b false ≡ ((has vs a && has vms b) || get_or (get_or table a []) b false)
  unfolding has
  rows_at table vms [] z = refl
  rows_at table vms (v ∷ vs) z =
      rows_at (set table v (pair_row (get_or table v []) vms)) vms vs (one-wide table v vms z) ∙
      rw (one_at table v vms z)
      (or-turn (eqb v a && has vms b) (has vs a && has vms b) (get_or (get_or table a []) b false) ∙
      ap (λ (c : Bool). c || get_or (get_or table a []) b false) (or-and (eqb v a) (has vs a) (has vms b)))

  paired-wide : (table : List (List Bool)) (c : Constraint) → Wide table → Wide (paired table c)
  unfolding paired
  paired-wide table (ban vms nodes) z = z
  paired-wide table (fence vms nodes) z = z
  paired-wide table (spread vms) z = rows-wide table vms vms z
  paired-wide table (latency vms groups) z = z
  paired-wide table (before first second) z = z

  paired_at : (table : List (List Bool)) (c : Constraint) → Wide table → get_or (get_or (paired table c) a []) b false ≡ (spreads a b c || get_or (get_or table a []) b false)
  unfolding paired spreads
  paired_at table (ban vms nodes) z = refl
  paired_at table (fence vms nodes) z = refl
  paired_at table (spread vms) z = rows_at table vms vms z
  paired_at table (latency vms groups) z = refl
  paired_at table (before first second) z = refl

  all-paired-at : (table : List (List Bool)) (ks : List Constraint) → Wide table →
      get_or (get_or (paired_all table ks) a []) b false ≡ (some (spreads a b) ks || get_or (get_or table a []) b false)
  unfolding paired_all some
  all-paired-at table [] z = refl
  all-paired-at table (k ∷ ks) z =
      all-paired-at (paired table k) ks (paired-wide table k z) ∙
      rw (paired_at table k z)
      (or-turn (spreads a b k) (some (spreads a b) ks) (get_or (get_or table a []) b false))

-- ---- the walk over the constraints

pub pairs-more : (table after result : List (List Bool)) (k : Constraint) (ks rest : List Constraint) → ks ≡ k ∷ rest → after ≡ paired table k → paired_all table ks ≡ result → paired_all after rest ≡ result
unfolding paired_all
pairs-more table after result k ks rest e f inv = rw f (ap (paired_all table) (sym e) ∙ inv)

pub pairs_end : (room : Room) (start table : List (List Bool)) (ks : List Constraint) → IsSound room → start ≡ replicate 256 (replicate 256 false) →
    paired_all table ks ≡ paired_all start room.constraints → ks ≡ [] → Pairs room table
unfolding paired_all
pairs_end room start table ks w blank inv z = record { each = each }
  where
    none : List (List Bool)
    none = replicate 256 (replicate 256 false)

    same : table ≡ paired_all none room.constraints
    same = (rw z at inv) ∙ ap (λ (t : List (List Bool)). paired_all t room.constraints) blank

    row : (v : ℕ) → v < 256 → get_or none v [] ≡ replicate 256 false
    row v l = get_or-replicate 256 v (replicate 256 false) [] l

    each : (v u : ℕ) → v < length room.vms → u < length room.vms → get_or (get_or table v []) u false ≡ some (spreads v u) room.constraints
    each v u h k =
        let m = w.vms-most in
        let hv : v < 256 = omega arith in
        let hu : u < 256 = omega arith in
        let z : (length none ≡ 256) × (length (get_or none v []) ≡ 256) = (length-replicate 256 (replicate 256 false), ap length (row v hv) ∙ length-replicate {A = Bool} 256 false) in
        ap (λ (t : List (List Bool)). get_or (get_or t v []) u false) same ∙
        all-paired-at v u hv hu none room.constraints z ∙
        rw (row v hv, get_or-replicate {A = Bool} 256 u false false hu) (or-false (some (spreads v u) room.constraints))

-- ---- finding a mate

meets-suc : (room : Room) (places dests : List ℕ) (w n v d : ℕ) → d < 64 →
    meets_mate room (busy_from places dests w (suc n)) v d ≡
    ((mates room v w && (eqb (get_or places w 0) d || eqb (get_or dests w 0) d)) || meets_mate room (busy_from places dests (suc w) n) v d)
unfolding meets_mate busy_from some
meets-suc room places dests w n v d h = rw (node-on 64 d (omega arith) h, counts-is dests w (get_or places w 0) d h)

pub meets-end : (room : Room) (places dests : List ℕ) (v d w : ℕ) (met result : Bool) → (met || meets_mate room (busy_from places dests w (length room.vms - w)) v d) ≡ result → length room.vms ≤ w → met ≡ result
unfolding meets_mate busy_from some
meets-end room places dests v d w met result inv h =
    let z : length room.vms - w ≡ 0 = omega arith in
    sym (or-false met) ∙ ap (λ (b : Bool). met || b) (sym (pick_same (on_node d) false)) ∙ rw z at inv

-- a VM's row without its own mark
unset : (row : List Bool) (v : ℕ) → get_or (set row v false) v false ≡ false
unset [] v = refl
unset (x ∷ xs) zero = refl
unset (x ∷ xs) (suc v) = unset xs v

module _ (room : Room) (pairs : List (List Bool)) (places dests : List ℕ) (v d w : ℕ) (met result : Bool) (row : List Bool)
    (inv : (met || meets_mate room (busy_from places dests w (length room.vms - w)) v d) ≡ result)
    (p : Pairs room pairs) (e : row ≡ set (get_or pairs v []) v false) (hv : v < length room.vms) (hd : d < 64) (hw : w < length room.vms) where
  is-mate : get_or row w false ≡ mates room v w
  unfolding mates
  is-mate =
      by_cases (ℕ_discrete v w)
      (λ q. rw (e, ← q) (unset (get_or pairs v []) v ∙ simp (eq-eqb v v refl) refl))
      (λ q. rw e (get_or-set_other (get_or pairs v []) v w false false (λ x. q (sym x)) ∙ p.each v w hv hw ∙ simp (ne_eqb v w q) refl))

  or-more : (p q r : Bool) → (p || (q || r)) ≡ ((p || q) || r)
  or-more true q r = refl
  or-more false q r = refl

  pub meets-turn : (mark : Bool) → mark ≡ (get_or row w false && (eqb (get_or places w 0) d || eqb (get_or dests w 0) d)) →
      ((met || mark) || meets_mate room (busy_from places dests (w + 1) (length room.vms - (w + 1))) v d) ≡ result
  meets-turn mark m =
      let z : length room.vms - w ≡ suc (length room.vms - (w + 1)) = omega arith in
      sym (or-more met mark (meets_mate room (busy_from places dests (w + 1) (length room.vms - (w + 1))) v d)) ∙
      ap (λ (b : Bool). met || b) (rw (m, is-mate, add-one w) (sym (meets-suc room places dests w (length room.vms - suc w) v d hd))) ∙
      (rw (z, add-one w) at inv)
