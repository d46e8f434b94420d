-- Laws on the table of where each VM may go: the passes that fill it, and that it says what the definition says.
use Prim.Native.Nat.{ℕ, zero, suc, ◌+◌, ◌≤◌, ◌<◌}
use mathlib.Core.Bool.{Bool, true, false, not, ◌&&◌, ◌||◌, and-true, and-false}
use mathlib.Core.List.{List, [], ◌∷◌, map}
use mathlib.Core.Logic.{by_cases}
use mathlib.Core.Path.{◌≡◌, refl, sym, ap, ◌∙◌}
use native.Mathlib.Decide.{ℕ_discrete, dec_lt}
use native.Mathlib.Numerals.{add-one}
use native.Mathlib.Nat.{le_refl}
use native.Mathlib.Omega.{arith}
use lib.ListN.{length, get_or, set, replicate, length-set, length-replicate, get_or-replicate}
use lib.Seq.{get_or-set_same, get_or-set_other, ext_get_or}
use lib.Dec.{ltb, eqb}
use borrow.Author.Tests.{lt-ltb, le-ltb, eq-eqb, ne_eqb}
use Rattle.records.specs.Base.{pick, all}
use Rattle.records.specs.Room.{Constraint, ban, fence, spread, latency, before, Room, kind_of, vms_of, nodes_of, has, IsSound}
use Rattle.records.specs.declared.constraints.Kind.TheVariants.{Ban, Fence}
use Rattle.records.proofs.Laws.Bools.{pick_same}
use Rattle.records.proofs.Laws.Rows.{node-on}
use Rattle.rules.proofs.Laws.Tables.{table-length, counted_at}
use Rattle.rules.specs.Rules.{from, keeps_from, allowed}
use Rattle.rules.specs.Inner.{row_kept, list_kept, stopped, only, all_but, applied, applied_all, allow_table, Allows}

-- ---- a row, mark by mark

pub row_start : (row stop : List Bool) → row ≡ row_kept row stop 0
unfolding row_kept
row_start row stop = refl

pub row_next : (start row stop : List Bool) (d : ℕ) (x : Bool) → x ≡ (get_or row d false && not (get_or stop d false)) → row ≡ row_kept start stop d → set row d x ≡ row_kept start stop (d + 1)
unfolding row_kept
row_next start row stop d x e inv = rw (add-one d, e, inv)

-- ---- a constraint, by its kind

pub applied-ban : (table : List (List Bool)) (k : Constraint) → kind_of k ≡ Ban → list_kept table (only (nodes_of k)) (vms_of k) ≡ applied table k
unfolding applied kind_of vms_of nodes_of
applied-ban table (ban vms nodes) e = refl
applied-ban table (fence vms nodes) e = cc
applied-ban table (spread vms) e = cc
applied-ban table (latency vms groups) e = cc
applied-ban table (before first second) e = cc

pub applied-fence : (table : List (List Bool)) (k : Constraint) → kind_of k ≡ Fence → list_kept table (all_but (nodes_of k)) (vms_of k) ≡ applied table k
unfolding applied kind_of vms_of nodes_of
applied-fence table (ban vms nodes) e = cc
applied-fence table (fence vms nodes) e = refl
applied-fence table (spread vms) e = cc
applied-fence table (latency vms groups) e = cc
applied-fence table (before first second) e = cc

pub applied-none : (table : List (List Bool)) (k : Constraint) → (kind_of k ≡ Ban → ⊥) → (kind_of k ≡ Fence → ⊥) → table ≡ applied table k
unfolding applied kind_of
applied-none table (ban vms nodes) n m = absurd (n refl)
applied-none table (fence vms nodes) n m = absurd (m refl)
applied-none table (spread vms) n m = refl
applied-none table (latency vms groups) n m = refl
applied-none table (before first second) n m = refl

-- ---- the table says what the definition says

-- a mark that is written in its own place, if there is one
cut_same : (row : List Bool) (d : ℕ) (b : Bool) → get_or (set row d (get_or row d false && b)) d false ≡ (get_or row d false && b)
cut_same [] d b = refl
cut_same (x ∷ row) zero b = refl
cut_same (x ∷ row) (suc d) b = cut_same row d b

module _ (row stop : List Bool) where
  row-length : (d : ℕ) → length (row_kept row stop d) ≡ length row
  unfolding row_kept
  row-length zero = refl
  row-length (suc d) = length-set (row_kept row stop d) d _ ∙ row-length d

  row_at : (d e : ℕ) → get_or (row_kept row stop d) e false ≡ (get_or row e false && not (ltb e d && get_or stop e false))
  unfolding row_kept
  row_at zero e = simp (le-ltb e 0 (omega arith), and-true)
  row_at (suc d) e =
      by_cases (ℕ_discrete e d)
      (λ q. let h : d < suc d = omega arith in
      rw q
      (cut_same (row_kept row stop d) d (not (get_or stop d false)) ∙
      rw (row_at d d) (simp (le-ltb d d (le_refl d), lt-ltb d (suc d) h, and-true))))
      (λ q. get_or-set_other (row_kept row stop d) d e _ false q ∙ row_at d e ∙
      ap (λ (b : Bool). get_or row e false && not (b && get_or stop e false)) (below-next e d q))
    where
      below-next : (e d : ℕ) → (e ≡ d → ⊥) → ltb e d ≡ ltb e (suc d)
      below-next e d q =
          by_cases (dec_lt e d)
          (λ b. let c : e < suc d = omega arith in lt-ltb e d b ∙ sym (lt-ltb e (suc d) c))
          (λ b. let c : suc d ≤ e = omega arith in let f : d ≤ e = omega arith in le-ltb e d f ∙ sym (le-ltb e (suc d) c))

-- one row of a table
module _ (stop : List Bool) where
  abbrev one : List (List Bool) → ℕ → List (List Bool)
  one table v = set table v (row_kept (get_or table v []) stop 64)

  one-length : (table : List (List Bool)) (v u : ℕ) → length (get_or (one table v) u []) ≡ length (get_or table u [])
  one-length [] v u = refl
  one-length (row ∷ rows) zero zero = row-length row stop 64
  one-length (row ∷ rows) zero (suc u) = refl
  one-length (row ∷ rows) (suc v) zero = refl
  one-length (row ∷ rows) (suc v) (suc u) = one-length rows v u

  one_here : (table : List (List Bool)) (v e : ℕ) → e < 64 → get_or (get_or (one table v) v []) e false ≡ (get_or (get_or table v []) e false && not (get_or stop e false))
  one_here [] v e k = refl
  one_here (row ∷ rows) zero e k = row_at row stop 64 e ∙ simp (lt-ltb e 64 k)
  one_here (row ∷ rows) (suc v) e k = one_here rows v e k

  one_at : (table : List (List Bool)) (v u e : ℕ) → e < 64 → get_or (get_or (one table v) u []) e false ≡ (get_or (get_or table u []) e false && not (eqb v u && get_or stop e false))
  one_at table v u e k =
      by_cases (ℕ_discrete v u)
      (λ q. simp (eq-eqb v u q) (rw (← q) (one_here table v e k)))
      (λ q. simp (ne_eqb v u q, and-true) (there q))
    where
      there : (v ≡ u → ⊥) → get_or (get_or (one table v) u []) e false ≡ get_or (get_or table u []) e false
      there q = ap (λ (row : List Bool). get_or row e false) (get_or-set_other table v u _ [] (λ x. q (sym x)))

-- one mark after another: taken away by either
taken-twice : (x a b s : Bool) → ((x && not (a && s)) && not (b && s)) ≡ (x && not ((a || b) && s))
taken-twice false a b s = refl
taken-twice true true true true = refl
taken-twice true true true false = refl
taken-twice true true false true = refl
taken-twice true true false false = refl
taken-twice true false b s = refl

list_length : (table : List (List Bool)) (stop : List Bool) (vms : List ℕ) → length (list_kept table stop vms) ≡ length table
list_length table stop [] = refl
list_length table stop (v ∷ vs) = list_length (one stop table v) stop vs ∙ length-set table v _

list-rows : (table : List (List Bool)) (stop : List Bool) (vms : List ℕ) (u : ℕ) → length (get_or (list_kept table stop vms) u []) ≡ length (get_or table u [])
list-rows table stop [] u = refl
list-rows table stop (v ∷ vs) u = list-rows (one stop table v) stop vs u ∙ one-length stop table v u

list_at : (table : List (List Bool)) (stop : List Bool) (vms : List ℕ) (u e : ℕ) → e < 64 →
    get_or (get_or (list_kept table stop vms) u []) e false ≡ (get_or (get_or table u []) e false && not (has vms u && get_or stop e false))
unfolding has
list_at table stop [] u e k = simp and-true
list_at table stop (v ∷ vs) u e k =
    list_at (one stop table v) stop vs u e k ∙ rw (one_at stop table v u e k) (taken-twice (get_or (get_or table u []) e false) (eqb v u) (has vs u) (get_or stop e false))

pub stopped-at : (marks : List Bool) (nodes : List ℕ) (mark : Bool) (e : ℕ) → length marks ≡ 64 → e < 64 → get_or (stopped marks mark nodes) e false ≡ pick (has nodes e) mark (get_or marks e false)
unfolding has
stopped-at marks [] mark e z k = refl
stopped-at marks (d ∷ ds) mark e z k =
    stopped-at (set marks d mark) ds mark e (length-set marks d mark ∙ z) k ∙
    by_cases (ℕ_discrete d e)
    (λ q. let l : e < length marks = rw z k in
    simp (eq-eqb d e q) (rw (ap (λ (x : ℕ). get_or (set marks x mark) e false) q ∙ get_or-set_same marks e mark false l) (pick_same (has ds e) mark)))
    (λ q. simp (ne_eqb d e q) (rw (get_or-set_other marks d e mark false (λ x. q (sym x)))))

-- a constraint takes away what it keeps its VMs from
flag_one : (b : Bool) → pick b true false ≡ b
flag_one true = refl
flag_one false = refl

flag-zero : (b : Bool) → pick b false true ≡ not b
flag-zero true = refl
flag-zero false = refl

pub only_at : (nodes : List ℕ) (e : ℕ) → e < 64 → get_or (only nodes) e false ≡ has nodes e
only_at nodes e k =
    stopped-at (replicate 64 false) nodes true e (length-replicate {A = Bool} 64 false) k ∙ rw (get_or-replicate {A = Bool} 64 e false false k) (flag_one (has nodes e))

pub all_but_at : (nodes : List ℕ) (e : ℕ) → e < 64 → get_or (all_but nodes) e false ≡ not (has nodes e)
all_but_at nodes e k =
    stopped-at (replicate 64 true) nodes false e (length-replicate {A = Bool} 64 true) k ∙ rw (get_or-replicate {A = Bool} 64 e true false k) (flag-zero (has nodes e))

module _ (table : List (List Bool)) where
  applied-at : (u e : ℕ) → e < 64 → (c : Constraint) → get_or (get_or (applied table c) u []) e false ≡ (get_or (get_or table u []) e false && not (has (vms_of c) u && keeps_from c e))
  unfolding applied vms_of keeps_from
  applied-at u e k (ban vms nodes) = list_at table (only nodes) vms u e k ∙ rw (only_at nodes e k) refl
  applied-at u e k (fence vms nodes) = list_at table (all_but nodes) vms u e k ∙ rw (all_but_at nodes e k) refl
  applied-at u e k (spread vms) = simp (and-false, and-true)
  applied-at u e k (latency vms groups) = simp (and-false, and-true)
  applied-at u e k (before first second) = simp (and-false, and-true)

  applied-length : (c : Constraint) → length (applied table c) ≡ length table
  unfolding applied
  applied-length (ban vms nodes) = list_length table (only nodes) vms
  applied-length (fence vms nodes) = list_length table (all_but nodes) vms
  applied-length (spread vms) = refl
  applied-length (latency vms groups) = refl
  applied-length (before first second) = refl

  applied-rows : (u : ℕ) (c : Constraint) → length (get_or (applied table c) u []) ≡ length (get_or table u [])
  unfolding applied
  applied-rows u (ban vms nodes) = list-rows table (only nodes) vms u
  applied-rows u (fence vms nodes) = list-rows table (all_but nodes) vms u
  applied-rows u (spread vms) = refl
  applied-rows u (latency vms groups) = refl
  applied-rows u (before first second) = refl

all-applied-length : (table : List (List Bool)) (ks : List Constraint) → length (applied_all table ks) ≡ length table
all-applied-length table [] = refl
all-applied-length table (c ∷ cs) = all-applied-length (applied table c) cs ∙ applied-length table c

all-applied-rows : (table : List (List Bool)) (ks : List Constraint) (u : ℕ) → length (get_or (applied_all table ks) u []) ≡ length (get_or table u [])
all-applied-rows table [] u = refl
all-applied-rows table (c ∷ cs) u = all-applied-rows (applied table c) cs u ∙ applied-rows table u c

all-applied-at : (table : List (List Bool)) (ks : List Constraint) (u e : ℕ) → e < 64 →
    get_or (get_or (applied_all table ks) u []) e false ≡ (get_or (get_or table u []) e false && all (λ c. not (has (vms_of c) u && keeps_from c e)) ks)
unfolding all
all-applied-at table [] u e k = simp and-true
all-applied-at table (c ∷ cs) u e k =
    all-applied-at (applied table c) cs u e k ∙
    rw (applied-at table u e k c)
    (and-turn (get_or (get_or table u []) e false) (not (has (vms_of c) u && keeps_from c e)) (all (λ c. not (has (vms_of c) u && keeps_from c e)) cs))
  where
    and-turn : (a b c : Bool) → ((a && b) && c) ≡ (a && (b && c))
    and-turn true b c = refl
    and-turn false b c = refl

-- ---- the walk over the constraints

pub allow-end : (room : Room) (table : List (List Bool)) (left : List Constraint) → IsSound room →
    applied_all table left ≡ applied_all (replicate 256 (replicate 64 true)) room.constraints → left ≡ [] → table ≡ allow_table room
unfolding allowed allow_table
allow-end room table left w inv z = ext_get_or [] table (map row (from 0 256)) (size ∙ sym (table-length row 0 256)) each
  where
    start : List (List Bool)
    start = replicate 256 (replicate 64 true)

    row : ℕ → List Bool
    row v = map (allowed room v) (from 0 64)

    whole : table ≡ applied_all start room.constraints
    whole = rw z at inv

    size : length table ≡ 256
    size = ap length whole ∙ all-applied-length start room.constraints ∙ length-replicate 256 (replicate 64 true)

    -- to a node
    allowed-is : (u e : ℕ) → e < 64 → all (λ k. not (has (vms_of k) u && keeps_from k e)) room.constraints ≡ allowed room u e
    allowed-is u e k = rw (node-on 64 e (omega arith) k)

    start-row : (v : ℕ) → v < 256 → get_or start v [] ≡ replicate 64 true
    start-row v l = get_or-replicate 256 v (replicate 64 true) [] l

    row_size : (v : ℕ) → v < 256 → length (get_or table v []) ≡ 64
    row_size v l =
        ap (λ (t : List (List Bool)). length (get_or t v [])) whole ∙ all-applied-rows start room.constraints v ∙ ap length (start-row v l) ∙ length-replicate {A = Bool} 64 true

    mark : (v d : ℕ) → v < 256 → d < 64 → get_or (get_or table v []) d false ≡ allowed room v d
    mark v d l k =
        ap (λ (t : List (List Bool)). get_or (get_or t v []) d false) whole ∙ all-applied-at start room.constraints v d k ∙
        rw (start-row v l, get_or-replicate {A = Bool} 64 d true false k) (allowed-is v d k)

    marks : (v : ℕ) → v < 256 → get_or table v [] ≡ row v
    marks v l =
        ext_get_or false (get_or table v []) (row v) (row_size v l ∙ sym (table-length (allowed room v) 0 64))
        (λ d h. let k : d < 64 = omega (arith, h, row_size v l) in mark v d l k ∙ sym (counted_at (allowed room v) false 64 d k))

    each : (v : ℕ) → v < length table → get_or table v [] ≡ get_or (map row (from 0 256)) v []
    each v h = let l : v < 256 = omega (arith, h, size) in marks v l ∙ sym (counted_at row [] 256 v l)

-- what a walk over the VMs reads in the table
pub table-allows : (room : Room) (table : List (List Bool)) → table ≡ allow_table room → IsSound room → Allows room table
unfolding allow_table
table-allows room table e w = record { each = each }
  where
    each : (v d : ℕ) → v < length room.vms → d < 64 → get_or (get_or table v []) d false ≡ allowed room v d
    each v d h k =
        let m = w.vms-most in
        let l : v < 256 = omega arith in
        ap (λ (t : List (List Bool)). get_or (get_or t v []) d false) e ∙
        ap (λ (row : List Bool). get_or row d false) (counted_at (λ u. map (allowed room u) (from 0 64)) [] 256 v l) ∙ counted_at (allowed room v) false 64 d k
