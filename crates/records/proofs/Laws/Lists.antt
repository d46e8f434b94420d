-- Laws on lists of a constraint: one pass over a list tells its order and range, and a list ends within its part.
use Prim.Native.Nat.{ℕ, zero, suc, ◌+◌, ◌-◌, ◌≤◌, ◌<◌}
use mathlib.Core.Bool.{Bool, true, false, ◌&&◌, and-false}
use mathlib.Core.List.{List, [], ◌∷◌}
use mathlib.Core.Logic.{◌⊎◌, inl, inr, by_cases}
use mathlib.Core.Path.{◌≡◌, refl, sym, ap, ◌∙◌}
use native.Mathlib.Decide.{dec_lt, ℕ_discrete}
use native.Mathlib.Numerals.{add-one}
use native.Mathlib.Omega.{arith}
use lib.ListN.{length, get_or, take, drop, drop_of_length-le, get_or-eq_default}
use lib.Seq.{drop-cons}
use Rattle.std.proofs.lemmas.List.{length-drop, get_or-drop, drop-drop}
use lib.Dec.{ltb, leb, eqb}
use borrow.Author.Tests.{eq-eqb, ne_eqb, lt-ltb, le-ltb, le-leb, lt-leb, ltb-true, ltb-false, leb-true}
use Rattle.std.specs.Prelude.{Option, Some, None}
use Rattle.records.specs.Base.{pick, all}
use Rattle.records.specs.Bytes.{byte_at}
use Rattle.records.specs.Room.{above, rises, list_ok, nodes_at, nodes_end, groups_from, groups_end}
use Rattle.records.specs.Inner.{Below, rises_from, listed}
use Rattle.records.proofs.Laws.Bools.{and_left, and_right, all-at}

-- ---- rises_from is list_ok

not-below : {a b : ℕ} → (a < b → ⊥) → b ≤ a
not-below h = omega arith

above_step : (limit low y : ℕ) (rest ab al : Bool) → rest ≡ (ab && al) →
    pick (ltb y (suc low)) false (pick (leb limit y) false rest) ≡ ((ltb low y && ab) && (ltb y limit && al))
above_step limit low y rest ab al e =
    by_cases (dec_lt low y)
    (λ p. by_cases (dec_lt y limit)
    (λ q. simp (le-ltb y (suc low) p, lt-leb limit y q, lt-ltb low y p, lt-ltb y limit q) e)
    (λ q. simp (le-ltb y (suc low) p, le-leb limit y (not-below q), lt-ltb low y p, le-ltb y limit (not-below q), and-false)))
    (λ p. let h : y < suc low = omega arith in simp (lt-ltb y (suc low) h, le-ltb low y (not-below p)))

above_from : (limit low : ℕ) (xs : List ℕ) → rises_from limit (suc low) xs ≡ (above low xs && all (λ x. ltb x limit) xs)
unfolding rises_from above all
above_from limit low [] = refl
above_from limit low (y ∷ ys) =
    above_step limit low y (rises_from limit (suc y) ys) (above y ys) (all (λ x. ltb x limit) ys) (above_from limit y ys)

pub rises-start : (limit : ℕ) (l : List ℕ) → rises_from limit 0 l ≡ list_ok limit l
unfolding rises_from list_ok rises all
rises-start limit [] = refl
rises-start limit (x ∷ xs) = let z : 0 ≤ x = omega arith in simp (le-ltb x 0 z) (first (ltb x limit) refl)
  where
    first : (b : Bool) → ltb x limit ≡ b →
        pick (leb limit x) false (rises_from limit (suc x) xs) ≡ (above x xs && (ltb x limit && all (λ y. ltb y limit) xs))
    first true e = let q : x < limit = ltb-true x limit e in simp (lt-leb limit x q, e) (above_from limit x xs)
    first false e = let q : limit ≤ x = ltb-false x limit e in simp (le-leb limit x q, e, and-false)

-- ---- the turns of the pass, at element i of l

pub at_i : (l : List ℕ) (i x : ℕ) → x ≡ get_or l i 0 → i < length l → drop i l ≡ x ∷ drop (suc i) l
at_i l i x e h = rw e (drop-cons l i 0 h)

module _ (limit low i x : ℕ) (l : List ℕ) (result : Bool) (e : x ≡ get_or l i 0) (inv : rises_from limit low (drop i l) ≡ result) (h : i < length l) where
  pub rises-out : (x < low) ⊎ ((low ≤ x) × (limit ≤ x)) → false ≡ result
  unfolding rises_from
  rises-out (inl p) = simp (at_i l i x e h, lt-ltb x low p) at inv
  rises-out (inr (p, q)) = simp (at_i l i x e h, le-ltb x low p, le-leb limit x q) at inv

  pub rises-more : low ≤ x → x < limit → rises_from limit (x + 1) (drop (i + 1) l) ≡ result
  unfolding rises_from
  rises-more p q = rw (add-one, add-one) (simp (at_i l i x e h, le-ltb x low p, lt-leb limit x q) at inv)

pub rises-end : (limit low i : ℕ) (l : List ℕ) (result : Bool) → rises_from limit low (drop i l) ≡ result → length l ≤ i → true ≡ result
unfolding rises_from
rises-end limit low i l result inv h = rw (drop_of_length-le l h) at inv

-- ---- lists behind a place are those of what is left from there

module _ (p : List ℕ) (at : ℕ) where
  -- j is the place in the whole of place i in what is left
  module _ (i j : ℕ) (e : j ≡ at + i) where
    pub byte-behind : byte_at (drop at p) i ≡ byte_at p j
    byte-behind = rw e (get_or-drop at p i 0)

    pub nodes-behind : nodes_at (drop at p) i ≡ nodes_at p j
    unfolding nodes_at
    nodes-behind = let f : at + (i + 1) ≡ at + i + 1 = omega arith in rw (byte-behind, e, drop-drop (i + 1) at p, f)

    pub next-behind : nodes_end p j ≡ at + nodes_end (drop at p) i
    next-behind = rw (byte-behind, e) (omega arith)

  pub groups-behind : (i j : ℕ) → j ≡ at + i → (n : ℕ) → groups_from (drop at p) i n ≡ groups_from p j n
  unfolding groups_from
  groups-behind i j e zero = refl
  groups-behind i j e (suc n) = rw (nodes-behind i j e, groups-behind (nodes_end (drop at p) i) (nodes_end p j) (next-behind i j e) n)

  pub end-behind : (i j : ℕ) → j ≡ at + i → (n : ℕ) → at + groups_end (drop at p) i n ≡ groups_end p j n
  unfolding groups_end
  end-behind i j e zero = sym e
  end-behind i j e (suc n) = end-behind (nodes_end (drop at p) i) (nodes_end p j) (next-behind i j e) n

  -- they lie within the whole if they do so in it, and end where it does
  pub within-behind : (e f : ℕ) → f ≡ at + e → at ≤ length p → leb e (length (drop at p)) ≡ leb f (length p)
  within-behind e f h w =
      by_cases (dec_lt (length p) f)
      (λ q. let r : length p - at < e = omega arith in simp (length-drop, lt-leb e (length p - at) r, lt-leb f (length p) q))
      (λ q. let r : e ≤ length p - at = omega arith in simp (length-drop, le-leb e (length p - at) r, le-leb f (length p) (not-below q)))

  pub fills-behind : (e f : ℕ) → f ≡ at + e → at ≤ length p → eqb e (length (drop at p)) ≡ eqb f (length p)
  fills-behind e f h w =
      by_cases (ℕ_discrete f (length p))
      (λ q. let r : e ≡ length p - at = omega arith in simp (length-drop, eq-eqb e (length p - at) r, eq-eqb f (length p) q))
      (λ q. simp (length-drop, ne_eqb e (length p - at) (λ r. q (omega arith)), ne_eqb f (length p) q))

-- a list behind two bytes is that at the front of what is behind them
pub listed-behind : (limit n : ℕ) (rest behind : List ℕ) → behind ≡ drop 2 rest → length behind + 2 ≡ length rest → listed limit behind 0 n ≡ listed limit rest 2 n
unfolding listed
listed-behind limit n rest behind e h =
    let z : 0 + n ≡ n = omega arith in
    rw (e, z, within-behind rest 2 n (2 + n) refl (omega arith), drop-drop n 2 rest) refl

-- ---- what a list that was found tells, and one that was not

pub record Found (limit first n : ℕ) (rest list behind : List ℕ) : Type 0 where
  pub fits : first + n ≤ length rest
  pub is : list ≡ take n (drop first rest)
  pub behind-is : behind ≡ drop (first + n) rest
  pub sound : list_ok limit (take n (drop first rest)) ≡ true

abbrev value_or : Option (List ℕ × List ℕ) → List ℕ × List ℕ
value_or None = ([], [])
value_or (Some found) = found

module _ (limit first n : ℕ) (rest : List ℕ) (r : Option (List ℕ × List ℕ)) (f : r ≡ listed limit rest first n) where
  test : Bool
  test = leb (first + n) (length rest) && list_ok limit (take n (drop first rest))

  picked : (b : Bool) → test ≡ b → r ≡ pick b (Some (take n (drop first rest), drop (first + n) rest)) None
  unfolding listed test
  picked b e = f ∙ simp e

  pub found : (list behind : List ℕ) → r ≡ Some (list, behind) → Found limit first n rest list behind
  unfolding test
  found list behind g = go test refl
    where
      go : (b : Bool) → test ≡ b → Found limit first n rest list behind
      go true e =
          let w : Some (list, behind) ≡ Some (take n (drop first rest), drop (first + n) rest) = sym g ∙ picked true e in
          record {
            fits = leb-true (first + n) (length rest) (and_left (leb (first + n) (length rest)) _ e);
            is = ap (λ (o : Option (List ℕ × List ℕ)). (value_or o).0) w;
            behind-is = ap (λ (o : Option (List ℕ × List ℕ)). (value_or o).1) w;
            sound = and_right (leb (first + n) (length rest)) _ e;
          }
      go false e = let w : ◌≡◌ {A = Option (List ℕ × List ℕ)} (Some (list, behind)) None = sym g ∙ picked false e in let z : ◌≡◌ {A = ℕ} 0 1 = cc in absurd (omega arith)

  pub not-found : r ≡ None → (leb (first + n) (length rest) && list_ok limit (take n (drop first rest))) ≡ false
  unfolding test
  not-found g = go test refl
    where
      go : (b : Bool) → test ≡ b → test ≡ false
      go true e = let w : ◌≡◌ {A = Option (List ℕ × List ℕ)} None (Some (take n (drop first rest), drop (first + n) rest)) = sym g ∙ picked true e in let z : ◌≡◌ {A = ℕ} 0 1 = cc in absurd (omega arith)
      go false e = e

-- the elements of a sound list are below its limit, and any higher one
pub list-below : (limit most : ℕ) (l : List ℕ) → list_ok limit l ≡ true → limit ≤ most → 0 < most → Below most l
unfolding list_ok
list-below limit most l e m z = record { each = below (and_right (rises l) (all (λ x. ltb x limit) l) e) }
  where
    below : all (λ x. ltb x limit) l ≡ true → (i : ℕ) → get_or l i 0 < most
    below h i =
        by_cases (dec_lt i (length l))
        (λ p. let w = ltb-true (get_or l i 0) limit (all-at (λ x. ltb x limit) l i 0 h p) in omega arith)
        (λ p. rw (get_or-eq_default l 0 (not-below p)) z)
