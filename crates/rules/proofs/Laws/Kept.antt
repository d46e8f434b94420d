-- The passes over the constraints decide what it means that a placement keeps them.
use Prim.Native.Nat.{ℕ, ◌<◌}
use mathlib.Core.Bool.{Bool, true, false, not, ◌&&◌, ◌||◌, and-false, or-true, false≢true}
use mathlib.Core.List.{List, [], ◌∷◌}
use mathlib.Core.Path.{◌≡◌, refl, sym, ap, ap₂, ◌∙◌}
use native.Mathlib.Omega.{arith}
use lib.ListN.{length, get_or, replicate}
use lib.Dec.{ltb, leb, eqb}
use borrow.Author.Tests.{eq-eqb, ne_eqb, eqb-true, ltb-true, ltb-false, le-leb, lt-leb}
use Rattle.std.specs.List.{list_all}
use Rattle.records.specs.Base.{pick, all}
use Rattle.records.specs.Room.{Constraint, ban, fence, spread, latency, before, Room, on_node, has, rises, list_ok, constraint_ok, IsSound}
use Rattle.records.proofs.Laws.Bools.{and_left, and_right, all_same, all-and, all_true}
use Rattle.records.proofs.Laws.Rows.{near-is}
use Rattle.rules.specs.Moments.{Placement, place_of, target_of}
use Rattle.rules.specs.Orders.{some}
use Rattle.rules.specs.Rules.{fits_all, spread_out, on_nodes, keeps}
use Rattle.rules.specs.Inner.{held, Placed, array_of, only, all_but, go_unmet, clear_of, all_down, group_holds, keeps_in}
use Rattle.rules.proofs.Laws.Allow.{only_at, all_but_at}
use Rattle.rules.proofs.Laws.Places.{target-holds, target-placed}
use Rattle.rules.proofs.Laws.Fit.{held_at}
use Rattle.rules.proofs.Laws.Meet.{arrives, go-arrives, marks-none, has-below}

-- ---- a constraint

-- tests that agree on the elements of a list
all_in : (p q : ℕ → Bool) (xs : List ℕ) → ((x : ℕ) → has xs x ≡ true → p x ≡ q x) → all p xs ≡ all q xs
unfolding all has
all_in p q [] e = refl
all_in p q (x ∷ xs) e = rw (e x (simp (eq-eqb x x refl)), all_in p q xs (λ y h. e y (simp (h, or-true))))

list-all_in : (p q : ℕ → Bool) (xs : List ℕ) → ((x : ℕ) → has xs x ≡ true → p x ≡ q x) → list_all p xs ≡ all q xs
unfolding all has
list-all_in p q [] e = refl
list-all_in p q (x ∷ xs) e = rw (e x (simp (eq-eqb x x refl)), list-all_in p q xs (λ y h. e y (simp (h, or-true))))

pub some_same : {A : Type 0} (p q : A → Bool) → ((x : A) → p x ≡ q x) → (xs : List A) → some p xs ≡ some q xs
unfolding some
some_same p q e [] = refl
some_same p q e (x ∷ xs) = rw (e x, some_same p q e xs)

not-not : (b : Bool) → not (not b) ≡ b
not-not true = refl
not-not false = refl

-- a test of the VMs on nodes
all_up : (places : Placement) (q : ℕ → Bool) (vms : List ℕ) → all q (on_nodes places vms) ≡ all (λ v. pick (on_node (place_of places v)) (q v) true) vms
unfolding all on_nodes
all_up places q [] = refl
all_up places q (v ∷ vs) = go (on_node (place_of places v)) (all_up places q vs)
  where
    go : (b : Bool) → all q (on_nodes places vs) ≡ all (λ w. pick (on_node (place_of places w)) (q w) true) vs → all q (pick b (v ∷ on_nodes places vs) (on_nodes places vs)) ≡ (pick b (q v) true && all (λ w. pick (on_node (place_of places w)) (q w) true) vs)
    go true h = rw h
    go false h = h

none-up : (places : Placement) (vms : List ℕ) → eqb (length (on_nodes places vms)) 0 ≡ all (λ v. pick (on_node (place_of places v)) false true) vms
unfolding all
none-up places vms = empty (on_nodes places vms) ∙ all_up places (λ v. false) vms
  where
    empty : (vs : List ℕ) → eqb (length vs) 0 ≡ all (λ v. false) vs
    empty [] = refl
    empty (v ∷ vs) = ne_eqb (length (v ∷ vs)) 0 (λ e. omega arith)

module _ (room : Room) (places : List ℕ) (w : IsSound room) (p : Placed room places) where
  in_list : (vms : List ℕ) → list_ok (length room.vms) vms ≡ true → (v : ℕ) → has vms v ≡ true → place_of (held room places) v ≡ get_or places v 0
  unfolding list_ok
  in_list vms o v h = held_at room places v (has-below (length room.vms) v vms (and_right (rises vms) _ o) h)

  -- a VM of the list is on a node if its place in the array is one
  up_is : (vms : List ℕ) → list_ok (length room.vms) vms ≡ true → (v : ℕ) → has vms v ≡ true → on_node (place_of (held room places) v) ≡ ltb (get_or places v 0) 64
  up_is vms o v h = ap on_node (in_list vms o v h) ∙ near-is (length room.nodes) (get_or places v 0) (w.nodes-most) (p.each v)

  -- marks on the nodes as a test of them
  clear-is : (stop : List Bool) (q : ℕ → Bool) → ((d : ℕ) → d < 64 → not (get_or stop d false) ≡ q d) → (vms : List ℕ) → list_ok (length room.vms) vms ≡ true →
      clear_of stop places vms ≡ all (λ v. pick (on_node (place_of (held room places) v)) (q (place_of (held room places) v)) true) vms
  clear-is stop q e vms o =
      list-all_in (λ v. leb 64 (get_or places v 0) || not (get_or stop (get_or places v 0) false))
      (λ v. pick (on_node (place_of (held room places) v)) (q (place_of (held room places) v)) true) vms
      (λ v h. rw (up_is vms o v h, in_list vms o v h) (go (get_or places v 0) (ltb (get_or places v 0) 64) refl))
    where
      go : (d : ℕ) (b : Bool) → ltb d 64 ≡ b → (leb 64 d || not (get_or stop d false)) ≡ pick b (q d) true
      go d true t = let l = ltb-true d 64 t in rw (lt-leb 64 d l) (e d l)
      go d false t = let l = ltb-false d 64 t in rw (le-leb 64 d l)

  module _ (vms : List ℕ) (o : list_ok (length room.vms) vms ≡ true) where
    clear-ban : (nodes : List ℕ) → clear_of (only nodes) places vms ≡ all (λ v. not (has nodes (place_of (held room places) v))) (on_nodes (held room places) vms)
    clear-ban nodes =
        clear-is (only nodes) (λ d. not (has nodes d)) (λ d b. ap not (only_at nodes d b)) vms o ∙
        sym (all_up (held room places) (λ v. not (has nodes (place_of (held room places) v))) vms)

    clear-fence : (nodes : List ℕ) → clear_of (all_but nodes) places vms ≡ all (λ v. has nodes (place_of (held room places) v)) (on_nodes (held room places) vms)
    clear-fence nodes =
        clear-is (all_but nodes) (λ d. has nodes d) (λ d b. ap not (all_but_at nodes d b) ∙ not-not (has nodes d)) vms o ∙
        sym (all_up (held room places) (λ v. has nodes (place_of (held room places) v)) vms)

    clear-down : all_down places vms ≡ eqb (length (on_nodes (held room places) vms)) 0
    clear-down =
        list-all_in (λ v. leb 64 (get_or places v 0)) (λ v. pick (on_node (place_of (held room places) v)) false true) vms
        (λ v h. rw (up_is vms o v h) (flip (get_or places v 0) (ltb (get_or places v 0) 64) refl)) ∙
        sym (none-up (held room places) vms)
      where
        flip : (d : ℕ) (b : Bool) → ltb d 64 ≡ b → leb 64 d ≡ pick b false true
        flip d true t = lt-leb 64 d (ltb-true d 64 t)
        flip d false t = le-leb 64 d (ltb-false d 64 t)

-- VMs arrive apart from nothing: no two of those on nodes share one
module _ (E : ℕ → ℕ) where
  out : List ℕ → Bool
  out [] = true
  out (v ∷ vs) = all (λ w. not (eqb (E v) (E w))) vs && out vs

  -- the VMs on nodes
  ups : List ℕ → List ℕ
  ups [] = []
  ups (v ∷ vs) = pick (ltb (E v) 64) (v ∷ ups vs) (ups vs)

  shuffle : (a b c o : Bool) → (a && ((b && c) && o)) ≡ ((a && c) && (b && o))
  shuffle false b c o = refl
  shuffle true true c o = refl
  shuffle true false c o = sym (and-false c)

  neither : (a b : Bool) → not ((a && true) || b) ≡ (not a && not b)
  neither true b = refl
  neither false b = refl

  not_there : (a b : Bool) → not ((a && false) || b) ≡ not b
  not_there true b = refl
  not_there false b = refl

  arrives-out : (f : ℕ → Bool) (vs : List ℕ) → ((v : ℕ) → ltb (E v) 64 ≡ false → f (E v) ≡ false) → arrives E f vs ≡ (all (λ v. not (f (E v))) (ups vs) && out (ups vs))
  unfolding arrives out ups all
  arrives-out f [] z = refl
  arrives-out f (v ∷ vs) z = go (ltb (E v) 64) refl (arrives-out (λ d. (eqb (E v) d && ltb (E v) 64) || f d) vs free)
    where
      free : (w : ℕ) → ltb (E w) 64 ≡ false → ((eqb (E v) (E w) && ltb (E v) 64) || f (E w)) ≡ false
      free w h = rw (z w h) (off (eqb (E v) (E w)) refl (ltb (E v) 64) refl)
        where
          off : (a : Bool) → eqb (E v) (E w) ≡ a → (b : Bool) → ltb (E v) 64 ≡ b → ((a && b) || false) ≡ false
          off true x true y = absurd (false≢true (sym h ∙ ap (λ (d : ℕ). ltb d 64) (sym (eqb-true (E v) (E w) x)) ∙ y))
          off true x false y = refl
          off false x b y = refl

      go : (b : Bool) → ltb (E v) 64 ≡ b → arrives E (λ d. (eqb (E v) d && ltb (E v) 64) || f d) vs ≡ (all (λ w. not ((eqb (E v) (E w) && ltb (E v) 64) || f (E w))) (ups vs) && out (ups vs)) →
          (not (f (E v)) && arrives E (λ d. (eqb (E v) d && ltb (E v) 64) || f d) vs) ≡ (all (λ w. not (f (E w))) (pick b (v ∷ ups vs) (ups vs)) && out (pick b (v ∷ ups vs) (ups vs)))
      go true t h =
          ap (λ (x : Bool). not (f (E v)) && x) (h ∙ rw (
            t,
            all_same (λ w. not ((eqb (E v) (E w) && true) || f (E w))) (λ w. not (eqb (E v) (E w)) && not (f (E w))) (λ w. neither (eqb (E v) (E w)) (f (E w))) (ups vs),
            all-and (λ w. not (eqb (E v) (E w))) (λ w. not (f (E w))) (ups vs),
          )) ∙
          shuffle (not (f (E v))) (all (λ w. not (eqb (E v) (E w))) (ups vs)) (all (λ w. not (f (E w))) (ups vs)) (out (ups vs))
      go false t h =
          ap (λ (x : Bool). not x && arrives E (λ d. (eqb (E v) d && ltb (E v) 64) || f d) vs) (z v t) ∙ h ∙
          ap (λ (x : Bool). x && out (ups vs)) (ap (λ (b : Bool). all (λ w. not ((eqb (E v) (E w) && b) || f (E w))) (ups vs)) t ∙
          all_same (λ w. not ((eqb (E v) (E w) && false) || f (E w))) (λ w. not (f (E w))) (λ w. not_there (eqb (E v) (E w)) (f (E w))) (ups vs))

module _ (room : Room) (places : List ℕ) (w : IsSound room) (p : Placed room places) where
  -- the VMs on nodes, of an array and of the placement that it holds
  ups-are : (all-vms vms : List ℕ) → list_ok (length room.vms) all-vms ≡ true → ((v : ℕ) → has vms v ≡ true → has all-vms v ≡ true) →
      ups (λ v. get_or places v 0) vms ≡ on_nodes (held room places) vms
  unfolding ups on_nodes has
  ups-are vs [] o sub = refl
  ups-are vs (v ∷ rest) o sub =
      rw (up_is room places w p vs o v (sub v (simp (eq-eqb v v refl))), ups-are vs rest o (λ u h. sub u (simp (h, or-true))))

  out-is : (all-vms vms : List ℕ) → list_ok (length room.vms) all-vms ≡ true → ((v : ℕ) → has vms v ≡ true → has all-vms v ≡ true) →
      out (λ v. get_or places v 0) vms ≡ spread_out (held room places) vms
  unfolding out spread_out has
  out-is vs [] o sub = refl
  out-is vs (v ∷ rest) o sub =
      let place : (u : ℕ) → has vs u ≡ true → get_or places u 0 ≡ place_of (held room places) u = λ u h. sym (in_list room places w p vs o u h) in
      rw (out-is vs rest o (λ u h. sub u (simp (h, or-true))), place v (sub v (simp (eq-eqb v v refl))))
      (ap (λ (b : Bool). b && spread_out (held room places) rest)
      (all_in (λ u. not (eqb (place_of (held room places) v) (get_or places u 0))) (λ u. not (eqb (place_of (held room places) v) (place_of (held room places) u))) rest
      (λ u h. rw (place u (sub u (simp (h, or-true)))))))

  -- those on nodes are of the list
  ups-in : (vms : List ℕ) (v : ℕ) → has (ups (λ v. get_or places v 0) vms) v ≡ true → has vms v ≡ true
  unfolding ups has
  ups-in [] v h = h
  ups-in (u ∷ us) v h = go (λ g. ups-in us v g) (ltb (get_or places u 0) 64) h
    where
      first : (b : Bool) → (has (ups (λ v. get_or places v 0) us) v ≡ true → has us v ≡ true) → (b || has (ups (λ v. get_or places v 0) us) v) ≡ true → (b || has us v) ≡ true
      first true more g = refl
      first false more g = more g

      go : (has (ups (λ v. get_or places v 0) us) v ≡ true → has us v ≡ true) → (b : Bool) → has (pick b (u ∷ ups (λ v. get_or places v 0) us) (ups (λ v. get_or places v 0) us)) v ≡ true → (eqb u v || has us v) ≡ true
      go more true g = first (eqb u v) more g
      go more false g = rw (more g) (or-true (eqb u v))

  spread-is : (vms : List ℕ) → list_ok (length room.vms) vms ≡ true → go_unmet (replicate 256 false) places vms ≡ spread_out (held room places) (on_nodes (held room places) vms)
  spread-is vms o =
      let u = ups (λ v. get_or places v 0) vms in
      go-arrives (replicate 256 false) places vms (λ d. false) marks-none (λ d h. refl) ∙
      arrives-out (λ v. get_or places v 0) (λ d. false) vms (λ v h. refl) ∙ rw (all_true u)
      (out-is vms u o (ups-in vms) ∙ ap (spread_out (held room places)) (ups-are vms vms o (λ v h. h)))

  kept-is : (k : Constraint) → constraint_ok (length room.vms) (length room.nodes) k ≡ true → keeps_in places k ≡ keeps (held room places) k
  unfolding keeps_in keeps constraint_ok
  kept-is (ban vms nodes) c = clear-ban room places w p vms (and_left (list_ok (length room.vms) vms) _ c) nodes
  kept-is (fence vms nodes) c = clear-fence room places w p vms (and_left (list_ok (length room.vms) vms) _ c) nodes
  kept-is (spread vms) c = spread-is vms c
  kept-is (latency vms groups) c =
      let o = and_left (list_ok (length room.vms) vms) _ c in
      ap₂ (λ (a b : Bool). a || b) (clear-down room places w p vms o)
      (some_same (group_holds places vms) (λ g. all (λ v. has g (place_of (held room places) v)) (on_nodes (held room places) vms)) (λ g. clear-fence room places w p vms o g) groups)
  kept-is (before first second) c = refl

  all-kept-is : (ks : List Constraint) → all (constraint_ok (length room.vms) (length room.nodes)) ks ≡ true → all (keeps_in places) ks ≡ all (keeps (held room places)) ks
  unfolding all
  all-kept-is [] c = refl
  all-kept-is (k ∷ ks) c =
      rw (kept-is k (and_left (constraint_ok (length room.vms) (length room.nodes) k) _ c), all-kept-is ks (and_right (constraint_ok (length room.vms) (length room.nodes) k) _ c))

-- ---- the target

module _ (room : Room) (places : List ℕ) (q : places ≡ array_of (target_of room)) (w : IsSound room) where
  pub target-fits : fits_all room (held room places) ≡ fits_all room (target_of room)
  target-fits = ap (fits_all room) (target-holds room places q w).is

  pub target-kept : all (keeps_in places) room.constraints ≡ all (keeps (target_of room)) room.constraints
  target-kept =
      all-kept-is room places w (target-placed room places q w) room.constraints w.well-formed ∙
      ap (λ (x : Placement). all (keeps x) room.constraints) (target-holds room places q w).is
