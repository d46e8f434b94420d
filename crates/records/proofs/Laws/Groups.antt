-- Laws on the groups of a latency constraint: marking the nodes passed finds exactly the node that stands in two groups.
use Prim.Native.Nat.{ℕ, zero, suc, ◌+◌, ◌-◌, ◌≤◌, ◌<◌}
use mathlib.Core.Bool.{Bool, true, false, not, ◌&&◌, ◌||◌, and-false, and_assoc, or-true}
use mathlib.Core.List.{List, [], ◌∷◌}
use mathlib.Core.Logic.{by_cases}
use mathlib.Core.Path.{◌≡◌, refl, sym, ap, ◌∙◌}
use native.Mathlib.Decide.{dec_lt, ℕ_discrete}
use native.Mathlib.Numerals.{add-one}
use native.Mathlib.Omega.{arith}
use lib.ListN.{length, get_or, set, drop, drop_of_length-le, length-set, length-replicate, get_or-replicate, get_or-eq_default}
use lib.Seq.{get_or-set_same, get_or-set_other}
use Rattle.std.proofs.lemmas.List.{drop-drop}
use lib.Dec.{leb, eqb}
use borrow.Author.Tests.{eq-eqb, ne_eqb, le-leb, lt-leb, leb-true, leb-false}
use Rattle.std.specs.Prelude.{Option, Some, None}
use Rattle.records.specs.Base.{pick, all}
use Rattle.records.specs.Bytes.{byte_at}
use Rattle.records.specs.Room.{list_ok, nodes_at, nodes_end, groups_from, groups_end, has, disjoint, apart}
use Rattle.records.specs.Inner.{Below, unmarked, listed, unseen_in, marked_in, group_at, Grouped, groups_read}
use Rattle.records.proofs.Laws.Bools.{all_same, all-and, all_true}
use Rattle.records.proofs.Laws.Lists.{at_i, groups-behind, end-behind, within-behind, found, not-found, list-below}

-- ---- the turns of the pass that marks, at element i of l

pub mark-more : (i d : ℕ) (seen : List Bool) (l : List ℕ) (result : List Bool) → d ≡ get_or l i 0 → marked_in seen (drop i l) ≡ result → i < length l →
    marked_in (set seen d true) (drop (i + 1) l) ≡ result
unfolding marked_in
mark-more i d seen l result e inv h = rw add-one (simp (at_i l i d e h) at inv)

pub mark-end : (i : ℕ) (seen : List Bool) (l : List ℕ) (result : List Bool) → marked_in seen (drop i l) ≡ result → length l ≤ i → seen ≡ result
unfolding marked_in
mark-end i seen l result inv h = rw (drop_of_length-le l h) at inv

-- ---- one group

pub found_below : (limit first n : ℕ) (rest : List ℕ) (r : Option (List ℕ × List ℕ)) → r ≡ listed limit rest first n →
    (list behind : List ℕ) → r ≡ Some (list, behind) → limit ≤ 64 → Below 64 list
found_below limit first n rest r f list behind g h =
    let w = found limit first n rest r f list behind g in
    list-below limit 64 list (ap (list_ok limit) w.is ∙ w.sound) h (omega arith)

module _ (limit : ℕ) (seen : List Bool) (rest : List ℕ) where
  -- the test by which it is taken
  test : Bool
  test = leb (nodes_end rest 0) (length rest) && (list_ok limit (nodes_at rest 0) && unseen_in seen (nodes_at rest 0))

  left-out : (after : List Bool) → test ≡ false → Grouped limit seen rest None after
  unfolding group_at test
  left-out after e =
      record {
        is = sym (ap (λ (b : Bool). pick b (Some (drop (nodes_end rest 0) rest)) None) e);
        marks = λ f. let z : ◌≡◌ {A = ℕ} 0 1 = cc in absurd (omega arith);
      }

  module _ (r : Option (List ℕ × List ℕ)) (f : r ≡ listed limit rest 1 (byte_at rest 0)) where
    pub group-bad : (after : List Bool) → r ≡ None → Grouped limit seen rest None after
    unfolding test nodes_at
    group-bad after g =
        left-out after
        (sym (and_assoc (leb (nodes_end rest 0) (length rest)) (list_ok limit (nodes_at rest 0)) (unseen_in seen (nodes_at rest 0))) ∙ ap (λ (b : Bool). b && unseen_in seen (nodes_at rest 0)) (not-found limit 1 (byte_at rest 0) rest r f g))

    module _ (list behind : List ℕ) (g : r ≡ Some (list, behind)) (ok : Bool) (u : ok ≡ unseen_in seen list) where
      tested : test ≡ ok
      unfolding test nodes_at
      tested =
          let w = found limit 1 (byte_at rest 0) rest r f list behind g in
          simp (le-leb (1 + byte_at rest 0) (length rest) w.fits, w.sound) (sym (u ∙ ap (unseen_in seen) w.is))

      pub group-old : (after : List Bool) → ok ≡ false → Grouped limit seen rest None after
      group-old after o = left-out after (tested ∙ o)

      pub group-new : (after : List Bool) → after ≡ marked_in seen list → ok ≡ true → Grouped limit seen rest (Some behind) after
      unfolding group_at test nodes_at
      group-new after m o =
          let w = found limit 1 (byte_at rest 0) rest r f list behind g in
          record {
            is = ap Some w.behind-is ∙ sym (ap (λ (b : Bool). pick b (Some (drop (nodes_end rest 0) rest)) None) (tested ∙ o));
            marks = λ e. m ∙ ap (marked_in seen) w.is;
          }

-- ---- the turns of the pass over the groups

module _ (limit : ℕ) (seen : List Bool) (rest : List ℕ) (after : List Bool) (r : Option (List ℕ)) (d : Grouped limit seen rest r after)
    (left : ℕ) (result : Option (List ℕ)) (inv : groups_read limit rest seen left ≡ result) (z : 0 < left) where
  turned-is : (b : Bool) → test limit seen rest ≡ b →
      (r ≡ pick b (Some (drop (nodes_end rest 0) rest)) None) ×
      (pick b (groups_read limit (drop (nodes_end rest 0) rest) (marked_in seen (nodes_at rest 0)) (left - 1)) None ≡ result)
  unfolding group_at test groups_read
  turned-is b e =
      let q : left ≡ suc (left - 1) = omega arith in (
        d.is ∙ ap (λ (t : Bool). pick t (Some (drop (nodes_end rest 0) rest)) None) e,
        sym (ap (λ (t : Bool). pick t (groups_read limit (drop (nodes_end rest 0) rest) (marked_in seen (nodes_at rest 0)) (left - 1)) None) e) ∙ (rw q at inv),
      )

  pub groups-bad : r ≡ None → None ≡ result
  groups-bad g = go (test limit seen rest) refl
    where
      go : (b : Bool) → test limit seen rest ≡ b → None ≡ result
      go false e = (turned-is false e).1
      go true e = let w : ◌≡◌ {A = Option (List ℕ)} None (Some (drop (nodes_end rest 0) rest)) = sym g ∙ (turned-is true e).0 in let y : ◌≡◌ {A = ℕ} 0 1 = cc in absurd (omega arith)

  pub groups-more : (behind : List ℕ) → r ≡ Some behind → groups_read limit behind after (left - 1) ≡ result
  groups-more behind g = go (test limit seen rest) refl
    where
      go : (b : Bool) → test limit seen rest ≡ b → groups_read limit behind after (left - 1) ≡ result
      go false e = let w : ◌≡◌ {A = Option (List ℕ)} (Some behind) None = sym g ∙ (turned-is false e).0 in let y : ◌≡◌ {A = ℕ} 0 1 = cc in absurd (omega arith)
      go true e =
          let w : Some behind ≡ Some (drop (nodes_end rest 0) rest) = sym g ∙ (turned-is true e).0 in
          let b : behind ≡ drop (nodes_end rest 0) rest = cc in
          rw (b, d.marks (turned-is true e).0) (turned-is true e).1

pub groups-end : (limit left : ℕ) (seen : List Bool) (rest : List ℕ) (result : Option (List ℕ)) → groups_read limit rest seen left ≡ result → left ≤ 0 → Some rest ≡ result
unfolding groups_read
groups-end limit left seen rest result inv h = let z : left ≡ 0 = omega arith in rw z at inv

-- ---- the pass over the groups is the definition: every list sound, and no two share a node

-- the marks stand where f holds
record Marks (seen : List Bool) (f : ℕ → Bool) : Type 0 where
  size : length seen ≡ 64
  each : (x : ℕ) → get_or seen x false ≡ f x

marks-none : Marks unmarked (λ x. false)
marks-none = record { size = simp length-replicate; each = none }
  where
    none : (x : ℕ) → get_or unmarked x false ≡ false
    none x = by_cases (dec_lt x 64) (λ p. get_or-replicate 64 x false false p) (λ p. let w : length unmarked ≤ x = simp length-replicate (omega arith) in get_or-eq_default unmarked false w)

marks-one : (seen : List Bool) (f : ℕ → Bool) (d : ℕ) → Marks seen f → d < 64 → Marks (set seen d true) (λ x. eqb d x || f x)
marks-one seen f d m h = record { size = length-set seen d true ∙ m.size; each = each }
  where
    each : (x : ℕ) → get_or (set seen d true) x false ≡ (eqb d x || f x)
    each x =
        by_cases (ℕ_discrete d x)
        (λ p. simp (eq-eqb d x p) (rw (← p) (get_or-set_same seen d true false (rw m.size h))))
        (λ p. simp (ne_eqb d x p) (get_or-set_other seen d x true false (λ q. p (sym q)) ∙ m.each x))

or_turned : (a b c : Bool) → (b || (a || c)) ≡ ((a || b) || c)
or_turned true b c = or-true b
or_turned false b c = refl

marks-more : (g : List ℕ) (seen : List Bool) (f : ℕ → Bool) → Marks seen f → Below 64 g → Marks (marked_in seen g) (λ x. has g x || f x)
unfolding marked_in has
marks-more [] seen f m b = m
marks-more (d ∷ ds) seen f m b =
    let w = marks-more ds (set seen d true) (λ x. eqb d x || f x) (marks-one seen f d m (b.each 0)) (record { each = λ i. b.each (suc i) }) in
    record { size = w.size; each = λ x. w.each x ∙ or_turned (eqb d x) (has ds x) (f x) }

-- none of the nodes of h is one where f holds
avoids : (ℕ → Bool) → List ℕ → Bool
avoids f h = all (λ x. not (f x)) h

unseen-is : (seen : List Bool) (f : ℕ → Bool) (h : List ℕ) → Marks seen f → unseen_in seen h ≡ avoids f h
unfolding unseen_in avoids
unseen-is seen f h m = all_same (λ d. not (get_or seen d false)) (λ x. not (f x)) (λ x. ap not (m.each x)) h

avoids-both : (g : List ℕ) (f : ℕ → Bool) (gs : List (List ℕ)) →
    all (avoids (λ x. has g x || f x)) gs ≡ (all (λ h. disjoint h g) gs && all (avoids f) gs)
unfolding avoids disjoint
avoids-both g f gs = all_same (avoids (λ x. has g x || f x)) (λ h. disjoint h g && avoids f h) one gs ∙ all-and (λ h. disjoint h g) (avoids f) gs
  where
    none : (a b : Bool) → not (a || b) ≡ (not a && not b)
    none true b = refl
    none false b = refl

    one : (h : List ℕ) → avoids (λ x. has g x || f x) h ≡ (disjoint h g && avoids f h)
    one h =
        all_same (λ x. not (has g x || f x)) (λ x. not (has g x) && not (f x)) (λ x. none (has g x) (f x)) h ∙
        all-and (λ x. not (has g x)) (λ x. not (f x)) h

pub groups-on : (p : List ℕ) (at n : ℕ) → at ≤ groups_end p at n
unfolding groups_end
groups-on p at zero = omega arith
groups-on p at (suc n) = let w = groups-on p (at + 1 + byte_at p at) n in omega arith

turned : (e l d f q : Bool) → (e && (l && ((d && f) && q))) ≡ (e && (l && (f && (d && q))))
turned e l true f q = refl
turned e l false f q = ap (λ (b : Bool). e && (l && b)) (sym (and-false f))

-- one turn, in its tests: a, b, c of the group at hand, e, l, f, q of the groups behind it, d of both
turn : (a b c e l d f q : Bool) (end : List ℕ) (rest : Option (List ℕ)) → (a ≡ false → e ≡ false) →
    (a ≡ true → b ≡ true → rest ≡ pick (e && (l && ((d && f) && q))) (Some end) None) →
    pick (a && (b && c)) rest None ≡ pick (e && ((b && l) && ((c && f) && (d && q)))) (Some end) None
turn false b c e l d f q end rest past more = simp (past refl)
turn true false c e l d f q end rest past more = simp and-false
turn true true false e l d f q end rest past more = simp and-false
turn true true true e l d f q end rest past more = more refl refl ∙ ap (λ (b : Bool). pick b (Some end) None) (turned e l d f q)

-- the groups behind the first end where they do in what is left behind it
module _ (rest : List ℕ) (at n : ℕ) where
  drop-behind : drop (groups_end (drop at rest) 0 n) (drop at rest) ≡ drop (groups_end rest at n) rest
  drop-behind = rw (drop-drop, end-behind rest at 0 at (omega arith) n)

-- what n groups at the front have to be, f holding of the nodes before them
sound-from : ℕ → List ℕ → (ℕ → Bool) → ℕ → Bool
sound-from limit rest f n = all (list_ok limit) (groups_from rest 0 n) && (all (avoids f) (groups_from rest 0 n) && apart (groups_from rest 0 n))

moved : (limit : ℕ) (f : ℕ → Bool) (rest : List ℕ) (at n : ℕ) → at ≤ length rest →
    pick (leb (groups_end (drop at rest) 0 n) (length (drop at rest)) && sound-from limit (drop at rest) f n) (Some (drop (groups_end (drop at rest) 0 n) (drop at rest))) None ≡
    pick (leb (groups_end rest at n) (length rest) &&
    (all (list_ok limit) (groups_from rest at n) && (all (avoids f) (groups_from rest at n) && apart (groups_from rest at n))))
    (Some (drop (groups_end rest at n) rest)) None
unfolding sound-from
moved limit f rest at n h = rw (within-behind rest at (groups_end (drop at rest) 0 n) (groups_end rest at n) (sym (end-behind rest at 0 at (omega arith) n)) h, drop-behind rest at n, groups-behind rest at 0 at (omega arith) n)

groups-is : (limit : ℕ) (rest : List ℕ) (seen : List Bool) (f : ℕ → Bool) (n : ℕ) → limit ≤ 64 → Marks seen f →
    groups_read limit rest seen n ≡ pick (leb (groups_end rest 0 n) (length rest) && sound-from limit rest f n) (Some (drop (groups_end rest 0 n) rest)) None
unfolding groups_read groups_end groups_from sound-from all apart
groups-is limit rest seen f zero h m = simp (le-leb 0 (length rest) (omega arith))
groups-is limit rest seen f (suc n) h m =
    rw (← unseen-is seen f (nodes_at rest 0) m)
    (turn (leb (nodes_end rest 0) (length rest)) (list_ok limit (nodes_at rest 0)) (unseen_in seen (nodes_at rest 0))
    (leb (groups_end rest (nodes_end rest 0) n) (length rest)) (all (list_ok limit) (groups_from rest (nodes_end rest 0) n))
    (all (λ g. disjoint g (nodes_at rest 0)) (groups_from rest (nodes_end rest 0) n)) (all (avoids f) (groups_from rest (nodes_end rest 0) n))
    (apart (groups_from rest (nodes_end rest 0) n)) (drop (groups_end rest (nodes_end rest 0) n) rest)
    (groups_read limit (drop (nodes_end rest 0) rest) (marked_in seen (nodes_at rest 0)) n)
    (λ x. past (leb-false (nodes_end rest 0) (length rest) x))
    (λ x y. rw (avoids-both (nodes_at rest 0) f (groups_from rest (nodes_end rest 0) n)) at
    (groups-is limit (drop (nodes_end rest 0) rest) (marked_in seen (nodes_at rest 0)) (λ d. has (nodes_at rest 0) d || f d) n h
    (marks-more (nodes_at rest 0) seen f m (list-below limit 64 (nodes_at rest 0) y h (omega arith))) ∙
    moved limit (λ d. has (nodes_at rest 0) d || f d) rest (nodes_end rest 0) n (leb-true (nodes_end rest 0) (length rest) x))))
  where
    past : length rest < nodes_end rest 0 → leb (groups_end rest (nodes_end rest 0) n) (length rest) ≡ false
    past x =
        let o = groups-on rest (nodes_end rest 0) n in
        let u : length rest < groups_end rest (nodes_end rest 0) n = omega arith in
        lt-leb (groups_end rest (nodes_end rest 0) n) (length rest) u

-- the whole pass: what is behind the groups, if they lie within, the lists are sound and no two share a node
pub groups-are : (limit : ℕ) (rest : List ℕ) (n : ℕ) → limit ≤ 64 →
    groups_read limit rest unmarked n ≡
    pick (leb (groups_end rest 0 n) (length rest) && (all (list_ok limit) (groups_from rest 0 n) && apart (groups_from rest 0 n))) (Some (drop (groups_end rest 0 n) rest)) None
unfolding sound-from avoids
groups-are limit rest n h =
    groups-is limit rest unmarked (λ x. false) n h marks-none ∙
    ap (λ (b : Bool). pick (leb (groups_end rest 0 n) (length rest) && (all (list_ok limit) (groups_from rest 0 n) && (b && apart (groups_from rest 0 n)))) (Some (drop (groups_end rest 0 n) rest)) None)
    (all_same (λ h. all (λ x. true) h) (λ h. true) (λ h. all_true h) (groups_from rest 0 n) ∙ all_true (groups_from rest 0 n))
