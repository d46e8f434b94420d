-- Laws on one constraint: reading its lists one behind the other tells whether it is well formed.
use Prim.Native.Nat.{ℕ, zero, suc, ◌+◌, ◌-◌, ◌≤◌, ◌<◌}
use mathlib.Core.Bool.{Bool, true, false, not, ◌&&◌, and-false, and-true}
use mathlib.Core.List.{List}
use mathlib.Core.Logic.{◌⊎◌, inl, inr, ⊎_elim, by_cases}
use mathlib.Core.Path.{◌≡◌, refl, sym, ap, ◌∙◌}
use native.Mathlib.Decide.{dec_lt, ℕ_discrete}
use native.Mathlib.Omega.{arith}
use lib.ListN.{length, get_or-eq_default, take, drop, length-drop}
use Rattle.std.proofs.lemmas.List.{take_rest, drop-drop, length-take-le}
use lib.Dec.{ltb, leb, eqb}
use borrow.Author.Tests.{eq-eqb, ne_eqb, le-leb, lt-leb, leb-true, eqb-true}
use Rattle.std.specs.Prelude.{Option, Some, None, ◌≢◌}
use Rattle.std.specs.Borrow.{Bor}
use Rattle.records.specs.Base.{pick, all}
use Rattle.records.specs.Bytes.{byte_at, be16}
use Rattle.records.specs.Room.{kind_of, vms_of, nodes_of, groups_of, first_of, second_of, list_ok, apart, vms_at, nodes_at, nodes_end, groups_from, groups_end, kind_at, others_at, pair_end, constraint_of, lists_end, constraint_ok, filled, well_formed}
use Rattle.records.specs.Inner.{unmarked, shown, shown_rest, listed, groups_read, kind_number, nodes_ok, groups_ok, others_ok, pair_ok}
use Rattle.records.specs.declared.constraints.Kind.{Kind}
use Rattle.records.specs.declared.constraints.Kind.TheVariants.{Ban, Fence, Spread, Latency, Before}
use Rattle.records.proofs.Laws.Bools.{and_left, and_right, and_both}
use Rattle.records.proofs.Laws.Lists.{byte-behind, nodes-behind, next-behind, groups-behind, end-behind, within-behind, fills-behind, found, not-found}
use Rattle.records.proofs.Laws.Groups.{groups-on, groups-are}

-- ---- lists that end at e, with their test, are all that is left if nothing is behind them

module _ (e : ℕ) (rest : List ℕ) (ok : Bool) (r : Option (List ℕ)) (f : r ≡ pick (leb e (length rest) && ok) (Some (drop e rest)) None) where
  picked : (b : Bool) → (leb e (length rest) && ok) ≡ b → r ≡ pick b (Some (drop e rest)) None
  picked b g = f ∙ ap (λ (t : Bool). pick t (Some (drop e rest)) None) g

  module _ (behind : List ℕ) (g : r ≡ Some behind) where
    read : ((leb e (length rest) && ok) ≡ true) × (behind ≡ drop e rest)
    read = go (leb e (length rest) && ok) refl
      where
        go : (b : Bool) → (leb e (length rest) && ok) ≡ b → ((leb e (length rest) && ok) ≡ true) × (behind ≡ drop e rest)
        go true x = let w : Some behind ≡ Some (drop e rest) = sym g ∙ picked true x in (x, cc)
        go false x = let w : ◌≡◌ {A = Option (List ℕ)} (Some behind) None = sym g ∙ picked false x in let z : ◌≡◌ {A = ℕ} 0 1 = cc in absurd (omega arith)

    long : length behind ≡ length rest - e
    long = ap length read.1 ∙ length-drop e rest

    reaches : e ≤ length rest
    reaches = leb-true e (length rest) (and_left (leb e (length rest)) ok read.0)

    all-read : (eqb (length behind) 0) ≡ (eqb e (length rest) && ok)
    all-read =
        let l = long in
        let m = reaches in
        by_cases (ℕ_discrete e (length rest))
        (λ q. let z : length behind ≡ 0 = omega arith in simp (eq-eqb e (length rest) q, eq-eqb (length behind) 0 z, and_right (leb e (length rest)) ok read.0))
        (λ q. simp (ne_eqb e (length rest) q, ne_eqb (length behind) 0 (λ z. q (omega arith))))

  unread : r ≡ None → false ≡ (eqb e (length rest) && ok)
  unread g = go (leb e (length rest) && ok) refl
    where
      fails : (leb e (length rest) && ok) ≡ false → false ≡ (eqb e (length rest) && ok)
      fails x =
          by_cases (ℕ_discrete e (length rest))
          (λ q. let m : e ≤ length rest = omega arith in let y : ok ≡ false = simp (le-leb e (length rest) m) at x in rw y (sym (and-false (eqb e (length rest)))))
          (λ q. simp (ne_eqb e (length rest) q))

      go : (b : Bool) → (leb e (length rest) && ok) ≡ b → false ≡ (eqb e (length rest) && ok)
      go true x = let w : ◌≡◌ {A = Option (List ℕ)} None (Some (drop e rest)) = sym g ∙ picked true x in let z : ◌≡◌ {A = ℕ} 0 1 = cc in absurd (omega arith)
      go false x = fails x

-- ---- a node list and nothing behind it

abbrev behind-of : Option (List ℕ × List ℕ) → Option (List ℕ)
behind-of None = None
behind-of (Some found) = Some found.1

module _ (limit : ℕ) (rest : List ℕ) (r : Option (Bor (List ℕ) × Bor (List ℕ))) (f : shown r ≡ listed limit rest 1 (byte_at rest 0)) where
  nodes-read : behind-of (shown r) ≡ pick (leb (nodes_end rest 0) (length rest) && list_ok limit (nodes_at rest 0)) (Some (drop (nodes_end rest 0) rest)) None
  unfolding listed nodes_at
  nodes-read = ap behind-of f ∙ go (leb (nodes_end rest 0) (length rest) && list_ok limit (nodes_at rest 0))
    where
      go : (b : Bool) → behind-of (pick b (Some (nodes_at rest 0, drop (nodes_end rest 0) rest)) None) ≡ pick b (Some (drop (nodes_end rest 0) rest)) None
      go true = refl
      go false = refl

  pub nodes-bad : r ≡ None → false ≡ nodes_ok limit rest
  unfolding nodes_ok
  nodes-bad g = unread (nodes_end rest 0) rest (list_ok limit (nodes_at rest 0)) (behind-of (shown r)) nodes-read (ap (λ (o : Option (Bor (List ℕ) × Bor (List ℕ))). behind-of (shown o)) g)

  pub nodes-fill : (found : Bor (List ℕ) × Bor (List ℕ)) (ok : Bool) → ok ≡ eqb (length found.1.now) 0 → r ≡ Some found → ok ≡ nodes_ok limit rest
  unfolding nodes_ok
  nodes-fill found ok h g = h ∙ all-read (nodes_end rest 0) rest (list_ok limit (nodes_at rest 0)) (behind-of (shown r)) nodes-read found.1.now (ap (λ (o : Option (Bor (List ℕ) × Bor (List ℕ))). behind-of (shown o)) g)

-- ---- a group count, its groups and nothing behind them

module _ (limit : ℕ) (rest : List ℕ) where
  pub groups-short : length rest < 1 → false ≡ groups_ok limit rest
  unfolding groups_ok
  groups-short h =
      let w = groups-on rest 1 (byte_at rest 0) in
      let v : eqb (groups_end rest 1 (byte_at rest 0)) (length rest) ≡ false = ne_eqb (groups_end rest 1 (byte_at rest 0)) (length rest) (λ q. omega arith) in
      rw v

  pub groups-many : 64 < byte_at rest 0 → leb (byte_at rest 0) 64 ≡ groups_ok limit rest
  unfolding groups_ok
  groups-many h = simp (lt-leb (byte_at rest 0) 64 h, and-false)

  module _ (behind : List ℕ) (b : behind ≡ take (length rest - 1) (drop 1 rest)) (n : ℕ) (e : n ≡ byte_at rest 0) (w : 1 ≤ length rest) (c : n ≤ 64) where
    groups-moved : (at : ℕ) → at ≤ length rest → (l : List ℕ) → l ≡ drop at rest →
        (eqb (groups_end l 0 n) (length l) && (all (list_ok limit) (groups_from l 0 n) && apart (groups_from l 0 n))) ≡
        (eqb (groups_end rest at n) (length rest) && (all (list_ok limit) (groups_from rest at n) && apart (groups_from rest at n)))
    groups-moved at h l q =
        rw (q, groups-behind rest at 0 at (omega arith) n, fills-behind rest at (groups_end (drop at rest) 0 n) (groups_end rest at n) (sym (end-behind rest at 0 at (omega arith) n)) h) refl

    groups-full :
        (eqb (groups_end behind 0 n) (length behind) && (all (list_ok limit) (groups_from behind 0 n) && apart (groups_from behind 0 n))) ≡ groups_ok limit rest
    unfolding groups_ok
    groups-full = groups-moved 1 w behind (b ∙ take_rest rest 1) ∙ rw (e, le-leb (byte_at rest 0) 64 (rw e at c)) refl

    module _ (r : Option (Bor (List ℕ))) (f : shown_rest r ≡ groups_read limit behind unmarked n) (h : limit ≤ 64) where
      pub groups-bad : r ≡ None → false ≡ groups_ok limit rest
      groups-bad g = unread (groups_end behind 0 n) behind _ (shown_rest r) (f ∙ groups-are limit behind n h) (ap shown_rest g) ∙ groups-full

      pub groups-fill : (found : Bor (List ℕ)) (ok : Bool) → ok ≡ eqb (length found.now) 0 → r ≡ Some found → ok ≡ groups_ok limit rest
      groups-fill found ok o g = o ∙ all-read (groups_end behind 0 n) behind _ (shown_rest r) (f ∙ groups-are limit behind n h) found.now (ap shown_rest g) ∙ groups-full

-- ---- the whole constraint

pub groups-length : (p : List ℕ) (at n : ℕ) → length (groups_from p at n) ≡ n
unfolding groups_from
groups-length p at zero = refl
groups-length p at (suc n) = ap suc (groups-length p (nodes_end p at) n)

nodes-ok-is : (n : ℕ) (p : List ℕ) (o : ℕ) → nodes_ok n (drop o p) ≡ (eqb (nodes_end (drop o p) 0) (length (drop o p)) && list_ok n (nodes_at p o))
unfolding nodes_ok
nodes-ok-is n p o = ap (λ (l : List ℕ). eqb (nodes_end (drop o p) 0) (length (drop o p)) && list_ok n l) (nodes-behind p o 0 o (omega arith))

groups-ok-is : (n : ℕ) (p : List ℕ) (o : ℕ) → groups_ok n (drop o p) ≡
    (eqb (groups_end (drop o p) 1 (byte_at p o)) (length (drop o p)) &&
    (leb (byte_at p o) 64 && (all (list_ok n) (groups_from p (o + 1) (byte_at p o)) && apart (groups_from p (o + 1) (byte_at p o)))))
unfolding groups_ok
groups-ok-is n p o = rw (byte-behind p o 0 o (omega arith), groups-behind p o 1 (o + 1) refl (byte_at p o)) refl

-- what is behind the VM list ends where the part does
others-end : (p : List ℕ) (o end e : ℕ) (v w : Bool) → end ≡ o + e →
    (eqb end (length p) && (v && w)) ≡ ((leb o (length p) && v) && (eqb e (length (drop o p)) && w))
others-end p o end e v w h =
    by_cases (dec_lt (length p) o)
    (λ q. simp (lt-leb o (length p) q, ne_eqb end (length p) (λ r. omega arith)))
    (λ q. let l : o ≤ length p = omega arith in simp (le-leb o (length p) l, fills-behind p o e end h l) (turned v (eqb end (length p)) w))
  where
    turned : (a b c : Bool) → (b && (a && c)) ≡ (a && (b && c))
    turned true b c = refl
    turned false b c = and-false b

-- ---- kinds that have no two VMs

pub ban-or-fence : (k : Kind) → (k ≡ Ban) ⊎ (k ≡ Fence) → k ≢ Before
ban-or-fence k (inl e) b = let z : ◌≡◌ {A = ℕ} 1 5 = ap kind_number (sym e ∙ b) in omega arith
ban-or-fence k (inr e) b = let z : ◌≡◌ {A = ℕ} 2 5 = ap kind_number (sym e ∙ b) in omega arith

pub of-latency : (k : Kind) → k ≡ Latency → k ≢ Before
of-latency k e b = let z : ◌≡◌ {A = ℕ} 4 5 = ap kind_number (sym e ∙ b) in omega arith

of-spread : (k : Kind) → k ≡ Spread → k ≢ Before
of-spread k e b = let z : ◌≡◌ {A = ℕ} 3 5 = ap kind_number (sym e ∙ b) in omega arith

eqb-turned : (m : ℕ) → eqb m 0 ≡ eqb 0 m
eqb-turned m = by_cases (ℕ_discrete m 0) (λ q. simp (eq-eqb m 0 q, eq-eqb 0 m (sym q))) (λ q. simp (ne_eqb m 0 q, ne_eqb 0 m (λ z. q (sym z))))

-- ---- well formed, by kind

module _ (v n : ℕ) (p : List ℕ) where
  vm-list-ok : Bool
  vm-list-ok = leb (others_at p) (length p) && list_ok v (vms_at p 3)

  formed : Kind → Type 0
  formed kind = well_formed v n p ≡ (vm-list-ok && others_ok n kind (drop (others_at p) p))

  formed-spread : kind_at p ≡ 3 → formed Spread
  unfolding formed well_formed filled lists_end constraint_of constraint_ok others_ok vm-list-ok
  formed-spread k =
      simp k
      (simp and-true at (others-end p (others_at p) (others_at p) 0 (list_ok v (vms_at p 3)) true (omega arith)))

  formed-latency : kind_at p ≡ 4 → formed Latency
  unfolding formed well_formed filled lists_end constraint_of constraint_ok others_ok vm-list-ok
  formed-latency k =
      simp (k, groups-length, groups-ok-is n p (others_at p))
      (others-end p (others_at p) (groups_end p (others_at p + 1) (byte_at p (others_at p)))
      (groups_end (drop (others_at p) p) 1 (byte_at p (others_at p))) (list_ok v (vms_at p 3)) _
      (sym (end-behind p (others_at p) 1 (others_at p + 1) refl (byte_at p (others_at p)))))

  nodes-end : (eqb (nodes_end p (others_at p)) (length p) && (list_ok v (vms_at p 3) && list_ok n (nodes_at p (others_at p)))) ≡
      (vm-list-ok && nodes_ok n (drop (others_at p) p))
  unfolding vm-list-ok
  nodes-end =
      rw (nodes-ok-is n p (others_at p))
      (others-end p (others_at p) (nodes_end p (others_at p)) (nodes_end (drop (others_at p) p) 0) (list_ok v (vms_at p 3)) (list_ok n (nodes_at p (others_at p)))
      (next-behind p (others_at p) 0 (others_at p) (omega arith)))

  formed-ban : kind_at p ≡ 1 → formed Ban
  unfolding formed well_formed filled lists_end constraint_of constraint_ok others_ok
  formed-ban k = simp k nodes-end

  formed-fence : kind_at p ≡ 2 → formed Fence
  unfolding formed well_formed filled lists_end constraint_of constraint_ok others_ok
  formed-fence k = simp k nodes-end

  well-formed-is : (kind : Kind) → kind_number kind ≡ kind_at p → kind ≢ Before → well_formed v n p ≡ (vm-list-ok && others_ok n kind (drop (others_at p) p))
  unfolding formed
  well-formed-is Ban e f = formed-ban (sym e)
  well-formed-is Fence e f = formed-fence (sym e)
  well-formed-is Spread e f = formed-spread (sym e)
  well-formed-is Latency e f = formed-latency (sym e)
  well-formed-is Before e f = absurd (f refl)

  -- a number that is of no kind
  pub constraint-unknown : (kind_at p < 1) ⊎ (5 < kind_at p) → false ≡ well_formed v n p
  unfolding well_formed filled
  constraint-unknown k =
      ⊎_elim (λ (q : kind_at p < 1). simp (lt-leb 1 (kind_at p) q)) (λ (q : 5 < kind_at p). simp (lt-leb (kind_at p) 5 q, and-false)) k

  -- of two VMs, and of lists
  pair-is : kind_at p ≡ 5 → well_formed v n p ≡ (eqb 5 (length p) && (ltb (byte_at p 3) v && (ltb (byte_at p 4) v && not (eqb (byte_at p 3) (byte_at p 4)))))
  unfolding well_formed filled lists_end constraint_of constraint_ok
  pair-is k = simp k

  pub constraint-short : length p < 3 → false ≡ well_formed v n p
  constraint-short h = let z : kind_at p ≡ 0 = get_or-eq_default p 0 (omega arith) in constraint-unknown (inl (omega arith))

  module _ (rest : List ℕ) (b : rest ≡ take (length p - 3) (drop 3 p)) (l : 3 ≤ length p) where
    pair-moved : (at : ℕ) → at ≡ 3 → rest ≡ drop at p →
        pair_ok v rest ≡ (eqb 5 (length p) && (ltb (byte_at p 3) v && (ltb (byte_at p 4) v && not (eqb (byte_at p 3) (byte_at p 4)))))
    unfolding pair_ok
    pair-moved at h q =
        let f : 5 ≡ at + 2 = omega arith in
        let w : at ≤ length p = omega arith in
        rw (q, fills-behind p at 2 5 f w, byte-behind p at 0 3 (omega arith), byte-behind p at 1 4 (omega arith)) refl

    pub constraint-pair : (ok : Bool) → ok ≡ pair_ok v rest → byte_at p 2 ≡ 5 → ok ≡ well_formed v n p
    constraint-pair ok o k = o ∙ pair-moved 3 refl (b ∙ take_rest p 3) ∙ sym (pair-is k)

    be16-moved : (at : ℕ) → at ≡ 3 → rest ≡ drop at p → be16 rest 0 ≡ be16 p 3
    unfolding be16
    be16-moved at h q = rw (q, byte-behind p at 0 3 (omega arith), byte-behind p at 1 4 (omega arith)) refl

    vms-moved : (at : ℕ) → at ≡ 3 → rest ≡ drop at p → take (be16 rest 0) (drop 2 rest) ≡ vms_at p 3
    unfolding vms_at
    vms-moved at h q =
        let e : at + 2 ≡ 5 = omega arith in
        ap (λ (i : ℕ). take i (drop 2 rest)) (be16-moved at h q) ∙ ap (take (be16 p 3)) (ap (drop 2) q ∙ drop-drop 2 at p ∙ ap (λ (i : ℕ). drop i p) e)

    others-moved : (at : ℕ) → at ≡ 3 → rest ≡ drop at p → drop (2 + be16 rest 0) rest ≡ drop (others_at p) p
    others-moved at h q =
        let e : at + (2 + be16 p 3) ≡ others_at p = omega arith in
        ap (λ (i : ℕ). drop (2 + i) rest) (be16-moved at h q) ∙ ap (drop (2 + be16 p 3)) q ∙ drop-drop (2 + be16 p 3) at p ∙ ap (λ (i : ℕ). drop i p) e

    test-moved : (at : ℕ) → at ≡ 3 → rest ≡ drop at p →
        (leb (2 + be16 rest 0) (length rest) && list_ok v (take (be16 rest 0) (drop 2 rest))) ≡ vm-list-ok
    unfolding vm-list-ok
    test-moved at h q =
        let e : others_at p ≡ at + (2 + be16 p 3) = omega arith in
        let w : at ≤ length p = omega arith in
        let x : leb (2 + be16 p 3) (length rest) ≡ leb (others_at p) (length p) = ap (λ (l : List ℕ). leb (2 + be16 p 3) (length l)) q ∙ within-behind p at (2 + be16 p 3) (others_at p) e w in
        ap (λ (s : List ℕ). leb (2 + be16 rest 0) (length rest) && list_ok v s) (vms-moved at h q) ∙
        ap (λ (i : ℕ). leb (2 + i) (length rest) && list_ok v (vms_at p 3)) (be16-moved at h q) ∙
        ap (λ (t : Bool). t && list_ok v (vms_at p 3)) x

    module _ (r : Option (Bor (List ℕ) × Bor (List ℕ))) (kind : Kind) (named : kind_number kind ≡ kind_at p) (lists : kind ≢ Before) (f : shown r ≡ listed v rest 2 (be16 rest 0)) where
      pub constraint-bad : r ≡ None → false ≡ well_formed v n p
      constraint-bad g =
          let t = sym (test-moved 3 refl (b ∙ take_rest p 3)) ∙ not-found v 2 (be16 rest 0) rest (shown r) f (ap shown g) in
          sym (well-formed-is kind named lists ∙ ap (λ (t : Bool). t && others_ok n kind (drop (others_at p) p)) t)

      pub constraint-others : (found : Bor (List ℕ) × Bor (List ℕ)) (ok : Bool) → ok ≡ others_ok n kind found.1.now → r ≡ Some found → ok ≡ well_formed v n p
      constraint-others l ok o g =
          let w = found v 2 (be16 rest 0) rest (shown r) f l.0.now l.1.now (ap shown g) in
          let t = sym (test-moved 3 refl (b ∙ take_rest p 3)) ∙ and_both (le-leb (2 + be16 rest 0) (length rest) w.fits) w.sound in
          o ∙ ap (others_ok n kind) (w.behind-is ∙ others-moved 3 refl (b ∙ take_rest p 3)) ∙
          sym (well-formed-is kind named lists ∙ ap (λ (t : Bool). t && others_ok n kind (drop (others_at p) p)) t)

    -- the same of each kind that has a VM list
    module _ (r : Option (Bor (List ℕ) × Bor (List ℕ))) (kind : Kind) (named : kind_number kind ≡ byte_at p 2) (f : shown r ≡ listed v rest 2 (be16 rest 0)) where
      module _ (k : (kind ≡ Ban) ⊎ (kind ≡ Fence)) where
        pub nodes-missing : r ≡ None → false ≡ well_formed v n p
        nodes-missing = constraint-bad r kind named (ban-or-fence kind k) f

        pub nodes-behind-vms : (found : Bor (List ℕ) × Bor (List ℕ)) (ok : Bool) → ok ≡ nodes_ok n found.1.now → r ≡ Some found → ok ≡ well_formed v n p
        unfolding others_ok
        nodes-behind-vms l ok o =
            constraint-others r kind named (ban-or-fence kind k) f l ok
            (o ∙ ⊎_elim (λ (q : kind ≡ Ban). sym (ap (λ (t : Kind). others_ok n t l.1.now) q)) (λ (q : kind ≡ Fence). sym (ap (λ (t : Kind). others_ok n t l.1.now) q)) k)

      module _ (k : kind ≡ Spread) where
        pub spread-missing : r ≡ None → false ≡ well_formed v n p
        spread-missing = constraint-bad r kind named (of-spread kind k) f

        pub nothing-behind-vms : (found : Bor (List ℕ) × Bor (List ℕ)) (ok : Bool) → ok ≡ eqb (length found.1.now) 0 → r ≡ Some found → ok ≡ well_formed v n p
        unfolding others_ok
        nothing-behind-vms l ok o =
            constraint-others r kind named (of-spread kind k) f l ok
            (o ∙ eqb-turned (length l.1.now) ∙ sym (ap (λ (t : Kind). others_ok n t l.1.now) k))

      module _ (k : kind ≡ Latency) where
        pub latency-missing : r ≡ None → false ≡ well_formed v n p
        latency-missing = constraint-bad r kind named (of-latency kind k) f

        pub groups-behind-vms : (found : Bor (List ℕ) × Bor (List ℕ)) (ok : Bool) → ok ≡ groups_ok n found.1.now → r ≡ Some found → ok ≡ well_formed v n p
        unfolding others_ok
        groups-behind-vms l ok o =
            constraint-others r kind named (of-latency kind k) f l ok (o ∙ sym (ap (λ (t : Kind). others_ok n t l.1.now) k))

-- ---- reading a constraint whose lists fill it

module _ (p : List ℕ) (w : filled p ≡ true) where
  fills : lists_end p ≡ length p
  unfolding filled
  fills =
      eqb-true (lists_end p) (length p)
      (and_right (leb (kind_at p) 5) _ (and_right (leb 1 (kind_at p)) _ w))

  kind-least : 1 ≤ kind_at p
  unfolding filled
  kind-least = leb-true 1 (kind_at p) (and_left (leb 1 (kind_at p)) _ w)

  kind-most : kind_at p ≤ 5
  unfolding filled
  kind-most = leb-true (kind_at p) 5 (and_left (leb (kind_at p) 5) _ (and_right (leb 1 (kind_at p)) _ w))

  -- its kind byte lies within it, and so does its VM list or its two VMs
  others-within : kind_at p < 5 → others_at p ≤ length p
  unfolding lists_end
  others-within m =
      let e = fills in
      by_cases (ℕ_discrete (kind_at p) 3) (λ k. let f : others_at p ≡ length p = simp k at e in omega arith) λ a.
      by_cases (ℕ_discrete (kind_at p) 4)
      (λ k. let f : groups_end p (others_at p + 1) (byte_at p (others_at p)) ≡ length p = simp k at e in
      let o = groups-on p (others_at p + 1) (byte_at p (others_at p)) in omega arith) λ b.
      let f : nodes_end p (others_at p) ≡ length p = simp (ne_eqb (kind_at p) 3 a, ne_eqb (kind_at p) 4 b, ne_eqb (kind_at p) 5 (λ q. omega arith)) at e in omega arith

  pair-within : kind_at p ≡ 5 → length p ≡ 5
  unfolding lists_end
  pair-within k = let f : pair_end ≡ length p = simp k at fills in omega arith

  pub kind_within : 5 ≤ length p
  kind_within =
      by_cases (dec_lt (kind_at p) 5)
      (λ m. let o = others-within m in omega arith)
      (λ m. let l = kind-most in let o = pair-within (omega arith) in omega arith)

  kind-number : kind_at p ≡ kind_number (kind_of (constraint_of p))
  unfolding constraint_of kind_of
  kind-number =
      let l = kind-least in
      let m = kind-most in
      by_cases (ℕ_discrete (kind_at p) 1) (λ q. simp q) λ a.
      by_cases (ℕ_discrete (kind_at p) 2) (λ q. simp q) λ b.
      by_cases (ℕ_discrete (kind_at p) 3) (λ q. simp q) λ c.
      by_cases (ℕ_discrete (kind_at p) 4) (λ q. simp q) λ d.
      let q : kind_at p ≡ 5 = omega arith in simp q

  -- a constraint that has no two VMs in their place has its VM list in front of the others
  module _ (k : kind_of (constraint_of p) ≢ Before) where
    of-lists : kind_at p < 5
    unfolding constraint_of kind_of
    of-lists =
        let m = kind-most in
        by_cases (dec_lt (kind_at p) 5) (λ q. q) (λ q. let e : kind_at p ≡ 5 = omega arith in absurd (k (simp e)))

    vms-read : vms_of (constraint_of p) ≡ vms_at p 3
    unfolding constraint_of vms_of
    vms-read =
        let l = kind-least in
        let m = of-lists in
        by_cases (ℕ_discrete (kind_at p) 1) (λ q. simp q) λ a.
        by_cases (ℕ_discrete (kind_at p) 2) (λ q. simp q) λ b.
        by_cases (ℕ_discrete (kind_at p) 3) (λ q. simp q) λ c.
        let q : kind_at p ≡ 4 = omega arith in simp q

    module _ (n : ℕ) (e : n ≡ be16 p 3) where
      pub vms-fit : n ≤ length (take (length p - 5) (drop 5 p))
      vms-fit = let o = others-within of-lists in rw take_rest (simp length-drop (omega arith))

      pub vms-are : take n (take (length p - 5) (drop 5 p)) ≡ vms_of (constraint_of p)
      unfolding vms_at
      vms-are = rw (e, take_rest, vms-read) refl

      pub others-are : drop n (take (length p - 5) (drop 5 p)) ≡ drop (others_at p) p
      others-are = ap (drop n) (take_rest p 5) ∙ drop-drop n 5 p ∙ ap (λ (i : ℕ). drop (5 + i) p) e

    pub vms-length : (l : List ℕ) → l ≡ vms_of (constraint_of p) → length l ≡ be16 p 3
    unfolding vms_at
    vms-length l e =
        let o = others-within of-lists in
        ap length (e ∙ vms-read) ∙ length-take-le (be16 p 3) (drop 5 p) (simp length-drop (omega arith))

  -- a ban or a fence ends with its node list
  module _ (kind : Kind) (e : kind_of (constraint_of p) ≡ kind) (k : (kind ≡ Ban) ⊎ (kind ≡ Fence)) (others : List ℕ) (o : others ≡ drop (others_at p) p) where
    two : (kind_at p ≡ 1) ⊎ (kind_at p ≡ 2)
    two = ⊎_elim (λ (q : kind ≡ Ban). inl (kind-number ∙ ap kind_number (e ∙ q))) (λ (q : kind ≡ Fence). inr (kind-number ∙ ap kind_number (e ∙ q))) k

    node-list-end : nodes_end p (others_at p) ≡ length p
    unfolding lists_end
    node-list-end = ⊎_elim (λ (q : kind_at p ≡ 1). simp q at fills) (λ (q : kind_at p ≡ 2). simp q at fills) two

    node-list-is : nodes_of (constraint_of p) ≡ nodes_at p (others_at p)
    unfolding constraint_of nodes_of
    node-list-is = ⊎_elim (λ (q : kind_at p ≡ 1). simp q) (λ (q : kind_at p ≡ 2). simp q) two

    pub nodes-there : 1 ≤ length others
    nodes-there = let n = node-list-end in rw o (simp length-drop (omega arith))

    pub nodes-are : take (length others - 1) (drop 1 others) ≡ nodes_of (constraint_of p)
    unfolding nodes_at
    nodes-are =
        let n = node-list-end in
        let g : length p - others_at p - 1 ≡ byte_at p (others_at p) = omega arith in
        ap (λ (l : List ℕ). take (length l - 1) (drop 1 l)) o ∙
        rw (length-drop, drop-drop, g) (sym node-list-is)

  -- a constraint of two VMs ends with them
  module _ (k : kind_of (constraint_of p) ≡ Before) where
    fifth : kind_at p ≡ 5
    fifth = kind-number ∙ ap kind_number k

    pub first_read : (r : ℕ) → r ≡ byte_at p 3 → r ≡ first_of (constraint_of p)
    unfolding constraint_of first_of
    first_read r e = let q = fifth in simp q e

    pub second-read : (r : ℕ) → r ≡ byte_at p 4 → r ≡ second_of (constraint_of p)
    unfolding constraint_of second_of
    second-read r e = let q = fifth in simp q e

  -- a latency constraint ends with its groups
  module _ (k : kind_of (constraint_of p) ≡ Latency) (others : List ℕ) (o : others ≡ drop (others_at p) p) where
    fourth : kind_at p ≡ 4
    fourth = kind-number ∙ ap kind_number k

    groups-last : groups_end p (others_at p + 1) (byte_at p (others_at p)) ≡ length p
    unfolding lists_end
    groups-last = simp fourth at fills

    groups-read : groups_of (constraint_of p) ≡ groups_from p (others_at p + 1) (byte_at p (others_at p))
    unfolding constraint_of groups_of
    groups-read = simp fourth

    pub groups-there : 1 ≤ length others
    groups-there =
        let g = groups-last in
        let h = groups-on p (others_at p + 1) (byte_at p (others_at p)) in
        rw o (simp length-drop (omega arith))

    module _ (n : ℕ) (e : n ≡ byte_at others 0) where
      pub groups-count : n ≡ length (groups_of (constraint_of p))
      groups-count =
          e ∙ ap (λ (l : List ℕ). byte_at l 0) o ∙ byte-behind p (others_at p) 0 (others_at p) (omega arith) ∙
          sym (ap length groups-read ∙ groups-length p (others_at p + 1) (byte_at p (others_at p)))

      behind : take (length others - 1) (drop 1 others) ≡ drop (others_at p + 1) p
      behind = take_rest others 1 ∙ ap (drop 1) o ∙ drop-drop 1 (others_at p) p

      count : n ≡ byte_at p (others_at p)
      count = e ∙ ap (λ (l : List ℕ). byte_at l 0) o ∙ byte-behind p (others_at p) 0 (others_at p) (omega arith)

      pub groups-start : groups_end (take (length others - 1) (drop 1 others)) 0 n ≡ length (take (length others - 1) (drop 1 others))
      groups-start =
          let g = groups-last in
          let h = end-behind p (others_at p + 1) 0 (others_at p + 1) (omega arith) (byte_at p (others_at p)) in
          rw (behind, count) (simp length-drop (omega arith))

      pub groups-all : groups_from (take (length others - 1) (drop 1 others)) 0 n ≡ groups_of (constraint_of p)
      groups-all = rw (behind, count, groups-read, groups-behind p (others_at p + 1) 0 (others_at p + 1) (omega arith) (byte_at p (others_at p))) refl
