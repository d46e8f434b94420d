-- Laws on divided steps (02, Job 9). A sound step is sound whatever order its moves are listed in, but for their rising; cut in two, both parts are sound, the
-- second behind the first. So its pieces are sound one behind the other, leave what the step leaves, and cost no less.
use Prim.Native.Nat.{ℕ, zero, suc, ◌+◌, ◌≤◌, ◌<◌, max}
use mathlib.Core.Bool.{Bool, true, false, not, ◌&&◌, ◌||◌, false≢true}
use mathlib.Core.List.{List, [], ◌∷◌, ◌++◌, flatten, Permᴰ}
use mathlib.Core.Path.{◌≡◌, refl, sym, ap, ap₂, ◌∙◌}
use native.Mathlib.Omega.{arith}
use lib.ListN.{length, get_or, set, length-append, length-set}
use lib.Seq.{get_or-set_same, set_comm}
use lib.Dec.{ltb, leb, eqb}
use borrow.Author.Tests.{eq-eqb, ne_eqb, eqb-true, eqb-false, ltb-true, lt-ltb, leb-true, le-leb, not-true}
use Rattle.std.specs.Prelude.{Ok}
use Rattle.records.specs.Base.{pick, all, sum_of}
use Rattle.records.specs.Room.{Constraint, ban, fence, spread, latency, before, Room, vm_of, room_at, above, rises}
use Rattle.records.specs.Plan.{Move, Step, names_sources, steps_of, move_total, sized, most_steps, shaped, plan_check, record_bytes, kept_version}
use Rattle.records.specs.Inner.{suits, suits_source}
use Rattle.records.proofs.Laws.Bools.{and_left, and_right, and_both, all_append, all_more, all_same}
use Rattle.records.proofs.Laws.Cluster.{or-none}
use Rattle.records.proofs.Laws.Steps.{plan-shaped, total-cons, total-append}
use Rattle.records.proofs.Laws.RoundTrip.{record-whole, steps-of-record, kept-known, kept-suits}
use Rattle.rules.specs.Moments.{Placement, place_of, after, Phase, waiting, cell, counts_on, bears_at, tally_at, phase_of, cells_from, first_moment, begun, all_running, current_of}
use Rattle.rules.specs.Orders.{some, meets_mate}
use Rattle.rules.specs.Rules.{allowed, aims, named, is_place, sourced, permitted, fitting, unmet, has_move, respects, in_turn, sound_step}
use Rattle.rules.specs.Cost.{memory_of, step_cost, cost_from, cost_of}
use Rattle.rules.specs.Verdict.{home, verdict_of, plan_verdict}
use Rattle.rules.specs.Divides.{vms_in, is_piece, Divides, none, divide}
use Rattle.rules.specs.Promises.{after_all, sourced_all, sound_all, AcceptedDivided}
use Rattle.rules.specs.declared.faults.Verdict.{Verdict}
use Rattle.rules.proofs.Laws.Orders.{or-second, Under, empty, both, named-least, named-vm, named-sends, named-off, named-rest, named-cons, after-length}
use Rattle.rules.proofs.Laws.Turn.{still-place, still-phase, turn-less}
use Rattle.rules.proofs.Laws.Sound.{sound-named, sound-permitted, sound-fitting, sound-unmet, sound-turn, sound-tests, counts-place, fitting-under, unmet-under}
use Rattle.rules.proofs.Laws.Adding.{eqb-sym}
use Rattle.rules.proofs.Laws.Verdicts.{steps-good, shaped-verdict, current-length, accepted-steps, only-holds}

-- ---- the same elements in another order

swap_and : (x y z : Bool) → (x && (y && z)) ≡ (y && (x && z))
swap_and true true z = refl
swap_and true false z = refl
swap_and false true z = refl
swap_and false false z = refl

swap_or : (x y z : Bool) → (x || (y || z)) ≡ (y || (x || z))
swap_or true true z = refl
swap_or true false z = refl
swap_or false true z = refl
swap_or false false z = refl

swap_add : (x y z : ℕ) → x + (y + z) ≡ y + (x + z)
swap_add x y z = omega arith

swap-max : (x y z : ℕ) → max x (max y z) ≡ max y (max x z)
swap-max x y z = omega arith

module _ {A : Type 0} where
  all-perm : (q : A → Bool) {xs ys : List A} → Permᴰ xs ys → all q xs ≡ all q ys
  unfolding all
  all-perm q Permᴰ.nil = refl
  all-perm q (Permᴰ.cons e p) = ap₂ (λ (x y : Bool). x && y) (ap q e) (all-perm q p)
  all-perm q (Permᴰ.swap {a = a} {b = b} {l = l} e f) = swap_and (q a) (q b) (all q l) ∙ ap₂ (λ (x y : A). q x && (q y && all q l)) f e
  all-perm q (Permᴰ.trans p r) = all-perm q p ∙ all-perm q r

  some-perm : (q : A → Bool) {xs ys : List A} → Permᴰ xs ys → some q xs ≡ some q ys
  unfolding some
  some-perm q Permᴰ.nil = refl
  some-perm q (Permᴰ.cons e p) = ap₂ (λ (x y : Bool). x || y) (ap q e) (some-perm q p)
  some-perm q (Permᴰ.swap {a = a} {b = b} {l = l} e f) = swap_or (q a) (q b) (some q l) ∙ ap₂ (λ (x y : A). q x || (q y || some q l)) f e
  some-perm q (Permᴰ.trans p r) = some-perm q p ∙ some-perm q r

  sum-perm : (f : A → ℕ) {xs ys : List A} → Permᴰ xs ys → sum_of f xs ≡ sum_of f ys
  unfolding sum_of
  sum-perm f Permᴰ.nil = refl
  sum-perm f (Permᴰ.cons e p) = ap₂ (λ (x y : ℕ). x + y) (ap f e) (sum-perm f p)
  sum-perm f (Permᴰ.swap {a = a} {b = b} {l = l} e g) = swap_add (f a) (f b) (sum_of f l) ∙ ap₂ (λ (x y : A). f x + (f y + sum_of f l)) g e
  sum-perm f (Permᴰ.trans p r) = sum-perm f p ∙ sum-perm f r

  length-perm : {xs ys : List A} → Permᴰ xs ys → length xs ≡ length ys
  length-perm Permᴰ.nil = refl
  length-perm (Permᴰ.cons e p) = ap suc (length-perm p)
  length-perm (Permᴰ.swap e f) = refl
  length-perm (Permᴰ.trans p r) = length-perm p ∙ length-perm r

-- ---- moves of different VMs

unfoldable distinct : Step → Bool
distinct [] = true
distinct (move ∷ moves) = not (has_move moves move.vm) && distinct moves

has-perm : {xs ys : Step} → Permᴰ xs ys → (v : ℕ) → has_move xs v ≡ has_move ys v
unfolding has_move
has-perm p v = some-perm (λ move. eqb move.vm v) p

swapped : (e x y z : Bool) → (not (e || x) && (not y && z)) ≡ (not (e || y) && (not x && z))
swapped true x y z = refl
swapped false true true z = refl
swapped false true false z = refl
swapped false false true z = refl
swapped false false false z = refl

distinct-perm : {xs ys : Step} → Permᴰ xs ys → distinct xs ≡ distinct ys
unfolding distinct has_move some
distinct-perm Permᴰ.nil = refl
distinct-perm (Permᴰ.cons {a = a} {b = b} {l₁ = xs} {l₂ = ys} e p) =
    ap₂ (λ (x y : Bool). not x && y) (ap (λ (m : Move). has_move xs m.vm) e ∙ has-perm p b.vm) (distinct-perm p)
distinct-perm (Permᴰ.swap {a = a} {b = b} {l = l} e f) =
    swapped (eqb b.vm a.vm) (has_move l a.vm) (has_move l b.vm) (distinct l) ∙
    ap (λ (x : Bool). not (x || has_move l b.vm) && (not (has_move l a.vm) && distinct l)) (eqb-sym b.vm a.vm) ∙
    ap₂ (λ (x y : Move). not (eqb y.vm x.vm || has_move l x.vm) && (not (has_move l y.vm) && distinct l)) f e
distinct-perm (Permᴰ.trans p r) = distinct-perm p ∙ distinct-perm r

-- the first two of distinct moves are of different VMs
two-vms : (a b : Move) (l : Step) → distinct (a ∷ b ∷ l) ≡ true → a.vm ≡ b.vm → ⊥
unfolding distinct has_move some
two-vms a b l d e =
    eqb-false b.vm a.vm (or-none (eqb b.vm a.vm) (has_move l a.vm) (not-true (eqb b.vm a.vm || has_move l a.vm)
    (and_left (not (eqb b.vm a.vm || has_move l a.vm)) (not (has_move l b.vm) && distinct l) d))).0 (sym e)

distinct_tail : (a : Move) (l : Step) → distinct (a ∷ l) ≡ true → distinct l ≡ true
unfolding distinct
distinct_tail a l d = and_right (not (has_move l a.vm)) (distinct l) d

distinct_head : (a : Move) (l : Step) → distinct (a ∷ l) ≡ true → has_move l a.vm ≡ false
unfolding distinct
distinct_head a l d = not-true (has_move l a.vm) (and_left (not (has_move l a.vm)) (distinct l) d)

-- in whatever order they are listed, they give each VM the same phase, and leave the same placement
phase-swap : (a b : Move) (l : Step) (v : ℕ) → (a.vm ≡ b.vm → ⊥) → phase_of (a ∷ b ∷ l) v ≡ phase_of (b ∷ a ∷ l) v
unfolding phase_of
phase-swap a b l v h = go (eqb a.vm v) (eqb b.vm v) refl refl
  where
    go : (x y : Bool) → eqb a.vm v ≡ x → eqb b.vm v ≡ y →
        pick x (waiting a.to) (pick y (waiting b.to) (phase_of l v)) ≡ pick y (waiting b.to) (pick x (waiting a.to) (phase_of l v))
    go true true p q = absurd (h (eqb-true a.vm v p ∙ sym (eqb-true b.vm v q)))
    go true false p q = refl
    go false true p q = refl
    go false false p q = refl

phase-perm : {xs ys : Step} → Permᴰ xs ys → distinct xs ≡ true → (v : ℕ) → phase_of xs v ≡ phase_of ys v
unfolding phase_of
phase-perm Permᴰ.nil d v = refl
phase-perm (Permᴰ.cons {a = a} {l₁ = xs} e p) d v =
    ap₂ (λ (m : Move) (x : Phase). pick (eqb m.vm v) (waiting m.to) x) e (phase-perm p (distinct_tail a xs d) v)
phase-perm (Permᴰ.swap {a = a} {b = b} {l = l} e f) d v =
    phase-swap a b l v (two-vms a b l d) ∙ ap₂ (λ (x y : Move). phase_of (x ∷ y ∷ l) v) f e
phase-perm (Permᴰ.trans p r) d v = phase-perm p d v ∙ phase-perm r (sym (distinct-perm p) ∙ d) v

after-perm : {xs ys : Step} → Permᴰ xs ys → distinct xs ≡ true → (places : Placement) → after places xs ≡ after places ys
unfolding after
after-perm Permᴰ.nil d places = refl
after-perm (Permᴰ.cons {a = a} {l₁ = xs} {l₂ = ys} e p) d places =
    after-perm p (distinct_tail a xs d) (set places a.vm a.to) ∙ ap (λ (m : Move). after (set places m.vm m.to) ys) e
after-perm (Permᴰ.swap {a = a} {b = b} {l = l} e f) d places =
    ap (λ (p : Placement). after p l) (set_comm places a.vm b.vm a.to b.to (two-vms a b l d)) ∙
    ap₂ (λ (x y : Move). after (set (set places x.vm x.to) y.vm y.to) l) f e
after-perm (Permᴰ.trans p r) d places = after-perm p d places ∙ after-perm r (sym (distinct-perm p) ∙ d) places

cells-perm : {xs ys : Step} → Permᴰ xs ys → distinct xs ≡ true → (places : Placement) (v n : ℕ) → cells_from places xs v n ≡ cells_from places ys v n
unfolding cells_from
cells-perm p d places v zero = refl
cells-perm p d places v (suc n) = rw (phase-perm p d v, cells-perm p d places (suc v) n)

-- ---- one part behind another

has-append : (p q : Step) (v : ℕ) → has_move (p ++ q) v ≡ (has_move p v || has_move q v)
unfolding has_move some
has-append [] q v = refl
has-append (move ∷ moves) q v = go (eqb move.vm v) (has-append moves q v)
  where
    go : (b : Bool) → has_move (moves ++ q) v ≡ (has_move moves v || has_move q v) → (b || has_move (moves ++ q) v) ≡ ((b || has_move moves v) || has_move q v)
    go true e = refl
    go false e = e

distinct-left : (p q : Step) → distinct (p ++ q) ≡ true → distinct p ≡ true
unfolding distinct
distinct-left [] q d = refl
distinct-left (move ∷ moves) q d =
    let h = distinct_head move (moves ++ q) d in
    let f = (or-none (has_move moves move.vm) (has_move q move.vm) (sym (has-append moves q move.vm) ∙ h)).0 in
    and_both {a = not (has_move moves move.vm)} (ap not f) (distinct-left moves q (distinct_tail move (moves ++ q) d))

distinct-right : (p q : Step) → distinct (p ++ q) ≡ true → distinct q ≡ true
distinct-right [] q d = d
distinct-right (move ∷ moves) q d = distinct-right moves q (distinct_tail move (moves ++ q) d)

-- nobody moves in both
once : (p q : Step) → distinct (p ++ q) ≡ true → (v : ℕ) → has_move q v ≡ true → has_move p v ≡ false
unfolding has_move some
once [] q d v h = refl
once (move ∷ moves) q d v h = go (eqb move.vm v) refl (once moves q (distinct_tail move (moves ++ q) d) v h)
  where
    go : (b : Bool) → eqb move.vm v ≡ b → has_move moves v ≡ false → (b || has_move moves v) ≡ false
    go true e f =
        let x = (or-none (has_move moves move.vm) (has_move q move.vm) (sym (has-append moves q move.vm) ∙ distinct_head move (moves ++ q) d)).1 in
        absurd (false≢true (sym x ∙ ap (has_move q) (eqb-true move.vm v e) ∙ h))
    go false e f = f

phase-append : (p q : Step) (v : ℕ) → phase_of (p ++ q) v ≡ pick (has_move p v) (phase_of p v) (phase_of q v)
unfolding phase_of has_move some
phase-append [] q v = refl
phase-append (move ∷ moves) q v = go (eqb move.vm v) (phase-append moves q v)
  where
    go : (b : Bool) → phase_of (moves ++ q) v ≡ pick (has_move moves v) (phase_of moves v) (phase_of q v) →
        pick b (waiting move.to) (phase_of (moves ++ q) v) ≡ pick (b || has_move moves v) (pick b (waiting move.to) (phase_of moves v)) (phase_of q v)
    go true e = refl
    go false e = e

after-append : (places : Placement) (p q : Step) → after places (p ++ q) ≡ after (after places p) q
unfolding after
after-append places [] q = refl
after-append places (move ∷ moves) q = after-append (set places move.vm move.to) moves q

-- whoever a part moves is behind it where its move leads
arrives : (places : Placement) (p : Step) (v : ℕ) → distinct p ≡ true → v < length places → has_move p v ≡ true → phase_of p v ≡ waiting (place_of (after places p) v)
unfolding has_move some phase_of after
arrives places [] v d l h = absurd (false≢true h)
arrives places (move ∷ moves) v d l h =
    go (eqb move.vm v) refl h (λ k. arrives (set places move.vm move.to) moves v (distinct_tail move moves d) (rw (length-set places move.vm move.to) l) k)
  where
    go : (b : Bool) → eqb move.vm v ≡ b → (b || has_move moves v) ≡ true →
        (has_move moves v ≡ true → phase_of moves v ≡ waiting (place_of (after (set places move.vm move.to) moves) v)) →
        pick b (waiting move.to) (phase_of moves v) ≡ waiting (place_of (after (set places move.vm move.to) moves) v)
    go true e k more =
        let x = eqb-true move.vm v e in
        let f : has_move moves v ≡ false = ap (has_move moves) (sym x) ∙ distinct_head move moves d in
        ap waiting (sym (still-place (set places move.vm move.to) moves v f ∙ ap (λ (u : ℕ). get_or (set places u move.to) v 0) x ∙ get_or-set_same places v move.to 0 l))
    go false e k more = more k

-- ---- moves that could run side by side, in whatever order they are listed

-- a move is of a VM that there is, to where it can be sent
abbrev known : Room → Move → Bool
known room move = ltb move.vm (length room.vms) && aims room move.vm move.to

-- it leaves a place, and names no other
abbrev leaves : Move → ℕ → Bool
leaves move place = not (eqb move.to place) && is_place move.source place

record Loose (room : Room) (places : Placement) (moves : Step) : Type 0 where
  different : distinct moves ≡ true
  each-known : all (known room) moves ≡ true
  each-leaves : all (λ move. leaves move (place_of places move.vm)) moves ≡ true
  allows : permitted room moves ≡ true
  fit : fitting room places moves ≡ true
  apart : unmet room places moves ≡ true
  turn : in_turn room places moves ≡ true

-- a sound step without 27 is of this kind
has-below : (room : Room) (places : Placement) (least : ℕ) (step : Step) (v : ℕ) → named room places least step ≡ true → v < least → has_move step v ≡ false
unfolding has_move some
has-below room places least [] v n h = refl
has-below room places least (move ∷ moves) v n h =
    let l = named-least room places least move moves n in
    let m : move.vm ≡ v → ⊥ = λ q. omega arith in
    rw (ne_eqb move.vm v m) (has-below room places (suc move.vm) moves v (named-rest room places least move moves n) (omega arith))

named-distinct : (room : Room) (places : Placement) (least : ℕ) (step : Step) → named room places least step ≡ true → distinct step ≡ true
unfolding distinct
named-distinct room places least [] n = refl
named-distinct room places least (move ∷ moves) n =
    let r = named-rest room places least move moves n in
    and_both {a = not (has_move moves move.vm)} (ap not (has-below room places (suc move.vm) moves move.vm r (omega arith))) (named-distinct room places (suc move.vm) moves r)

named-known : (room : Room) (places : Placement) (least : ℕ) (step : Step) → named room places least step ≡ true → all (known room) step ≡ true
unfolding all
named-known room places least [] n = refl
named-known room places least (move ∷ moves) n =
    and_both {a = known room move}
    (and_both (lt-ltb move.vm (length room.vms) (named-vm room places least move moves n)) (named-sends room places least move moves n))
    (named-known room places (suc move.vm) moves (named-rest room places least move moves n))

named-leaves : (room : Room) (places : Placement) (least : ℕ) (step : Step) → named room places least step ≡ true → sourced places step ≡ true →
    all (λ move. leaves move (place_of places move.vm)) step ≡ true
unfolding all sourced
named-leaves room places least [] n s = refl
named-leaves room places least (move ∷ moves) n s =
    let here = is_place move.source (place_of places move.vm) in
    let others = all (λ m. is_place m.source (place_of places m.vm)) moves in
    and_both {a = leaves move (place_of places move.vm)}
    (and_both (named-off room places least move moves n) (and_left here others s))
    (named-leaves room places (suc move.vm) moves (named-rest room places least move moves n) (and_right here others s))

module _ (room : Room) (places : Placement) where
  sound-loose : (step : Step) → sound_step room places step ≡ true → sourced places step ≡ true → Loose room places step
  sound-loose step e s =
      let n = sound-named room places step e in
      record {
        different = named-distinct room places 0 step n;
        each-known = named-known room places 0 step n;
        each-leaves = named-leaves room places 0 step n s;
        allows = sound-permitted room places step e;
        fit = sound-fitting room places step e;
        apart = sound-unmet room places step e;
        turn = sound-turn room places step e;
      }

  -- and so are its moves in another order
  respects-perm : {xs ys : Step} → Permᴰ xs ys → (k : Constraint) → respects room places xs k ≡ respects room places ys k
  unfolding respects
  respects-perm p (ban vms nodes) = refl
  respects-perm p (fence vms nodes) = refl
  respects-perm p (spread vms) = refl
  respects-perm p (latency vms groups) = refl
  respects-perm p (before first second) = rw (has-perm p first, has-perm p second)

  moment-perm : {xs ys : Step} → Permᴰ xs ys → distinct xs ≡ true → first_moment room places xs ≡ first_moment room places ys
  unfolding first_moment
  moment-perm p d = cells-perm p d places 0 (length room.vms)

  loose-perm : {xs ys : Step} → Permᴰ xs ys → Loose room places xs → Loose room places ys
  unfolding permitted fitting unmet in_turn
  loose-perm {xs} {ys} p l =
      let m = moment-perm p l.different in
      record {
        different = sym (distinct-perm p) ∙ l.different;
        each-known = sym (all-perm (known room) p) ∙ l.each-known;
        each-leaves = sym (all-perm (λ move. leaves move (place_of places move.vm)) p) ∙ l.each-leaves;
        allows = sym (all-perm (λ move. allowed room move.vm move.to) p) ∙ l.allows;
        fit =
            rw (← m)
            (sym (all-perm (λ move. bears_at room move.to (tally_at room move.to (all_running (first_moment room places xs))) (vm_of room move.vm)) p) ∙ l.fit);
        apart = rw (← m) (sym (all-perm (λ move. not (meets_mate room (all_running (first_moment room places xs)) move.vm move.to)) p) ∙ l.apart);
        turn = sym (all_same (respects room places xs) (respects room places ys) (respects-perm p) room.constraints) ∙ l.turn;
      }

  -- with rising VMs they are a sound step
  loose-cons : (least : ℕ) (move : Move) (moves : Step) → all (known room) (move ∷ moves) ≡ true → all (λ m. leaves m (place_of places m.vm)) (move ∷ moves) ≡ true →
      least ≤ move.vm → (all (known room) moves ≡ true → all (λ m. leaves m (place_of places m.vm)) moves ≡ true → named room places (suc move.vm) moves ≡ true) →
      named room places least (move ∷ moves) ≡ true
  unfolding all
  loose-cons least move moves k o l more =
      let here = and_left (known room move) (all (known room) moves) k in
      let off = and_left (leaves move (place_of places move.vm)) (all (λ m. leaves m (place_of places m.vm)) moves) o in
      named-cons room places least move moves l
      (ltb-true move.vm (length room.vms) (and_left (ltb move.vm (length room.vms)) (aims room move.vm move.to) here))
      (and_right (ltb move.vm (length room.vms)) (aims room move.vm move.to) here)
      (and_left (not (eqb move.to (place_of places move.vm))) (is_place move.source (place_of places move.vm)) off)
      (more (and_right (known room move) (all (known room) moves) k) (and_right (leaves move (place_of places move.vm)) (all (λ m. leaves m (place_of places m.vm)) moves) o))

  loose-above : (low : ℕ) (step : Step) → all (known room) step ≡ true → all (λ move. leaves move (place_of places move.vm)) step ≡ true → above low (vms_in step) ≡ true →
      named room places (suc low) step ≡ true
  unfolding named above
  loose-above low [] k o r = refl
  loose-above low (move ∷ moves) k o r =
      let l = ltb-true low move.vm (and_left (ltb low move.vm) (above move.vm (vms_in moves)) r) in
      loose-cons (suc low) move moves k o (omega arith) (λ x y. loose-above move.vm moves x y (and_right (ltb low move.vm) (above move.vm (vms_in moves)) r))

  loose-named : (step : Step) → all (known room) step ≡ true → all (λ move. leaves move (place_of places move.vm)) step ≡ true → rises (vms_in step) ≡ true → named room places 0 step ≡ true
  unfolding named rises
  loose-named [] k o r = refl
  loose-named (move ∷ moves) k o r = loose-cons 0 move moves k o (omega arith) (λ x y. loose-above move.vm moves x y r)

  loose-sound : (step : Step) → Loose room places step → rises (vms_in step) ≡ true → sound_step room places step ≡ true
  loose-sound step l r = sound-tests room places step (loose-named step l.each-known l.each-leaves r) l.allows l.fit l.apart l.turn

  loose-sourced : (step : Step) → Loose room places step → sourced places step ≡ true
  unfolding sourced
  loose-sourced step l =
      all_more (λ move. leaves move (place_of places move.vm)) (λ move. is_place move.source (place_of places move.vm))
      (λ move e. and_right (not (eqb move.to (place_of places move.vm))) (is_place move.source (place_of places move.vm)) e) step l.each-leaves

-- ---- cut in two, both parts are of this kind, the second behind the first

own-move : (move : Move) (moves : Step) → has_move (move ∷ moves) move.vm ≡ true
unfolding has_move some
own-move move moves = rw (eq-eqb move.vm move.vm refl) refl

has-later : (move : Move) (moves : Step) (v : ℕ) → has_move moves v ≡ true → has_move (move ∷ moves) v ≡ true
unfolding has_move some
has-later move moves v h = or-second (eqb move.vm v) h

-- under the whole: for every VM that there is
under-cells : (d : ℕ) (places next : Placement) (part whole : Step) (v n : ℕ) →
    ((u : ℕ) → u < v + n → counts_on d (cell u (place_of next u) (begun (phase_of part u))) ≡ true → counts_on d (cell u (place_of places u) (begun (phase_of whole u))) ≡ true) →
    Under d (all_running (cells_from next part v n)) (all_running (cells_from places whole v n))
unfolding cells_from all_running
under-cells d places next part whole v zero h = empty
under-cells d places next part whole v (suc n) h = both (h v (omega arith)) (under-cells d places next part whole (suc v) n (λ u k. h u (omega arith)))

module _ (room : Room) (places : Placement) (p q : Step) (l : Loose room places (p ++ q)) where
  -- the first part
  first-counts : (d u : ℕ) → counts_on d (cell u (place_of places u) (begun (phase_of p u))) ≡ true → counts_on d (cell u (place_of places u) (begun (phase_of (p ++ q) u))) ≡ true
  unfolding begun counts_on
  first-counts d u e = go (has_move p u) refl
    where
      go : (b : Bool) → has_move p u ≡ b → counts_on d (cell u (place_of places u) (begun (phase_of (p ++ q) u))) ≡ true
      go true h = rw (phase-append p q u, h) e
      go false h = counts-place d u (place_of places u) (p ++ q) (rw (still-phase p u h) at e)

  first_under : (d : ℕ) → Under d (all_running (first_moment room places p)) (all_running (first_moment room places (p ++ q)))
  unfolding first_moment
  first_under d = under-cells d places places p (p ++ q) 0 (length room.vms) (λ u k. first-counts d u)

  in-first : (f : Move → Bool) → all f (p ++ q) ≡ true → all f p ≡ true
  in-first f e = and_left (all f p) (all f q) (sym (all_append f p q) ∙ e)

  in-second : (f : Move → Bool) → all f (p ++ q) ≡ true → all f q ≡ true
  in-second f e = and_right (all f p) (all f q) (sym (all_append f p q) ∙ e)

  has_first : (v : ℕ) → has_move p v ≡ true → has_move (p ++ q) v ≡ true
  has_first v h = rw (has-append p q v, h) refl

  has-second : (v : ℕ) → has_move q v ≡ true → has_move (p ++ q) v ≡ true
  has-second v h = go (has_move p v) (has-append p q v)
    where
      go : (b : Bool) → has_move (p ++ q) v ≡ (b || has_move q v) → has_move (p ++ q) v ≡ true
      go true e = e
      go false e = e ∙ h

  first_part : Loose room places p
  unfolding permitted fitting unmet
  first_part = record {
    different = distinct-left p q l.different;
    each-known = in-first (known room) l.each-known;
    each-leaves = in-first (λ move. leaves move (place_of places move.vm)) l.each-leaves;
    allows = in-first (λ move. allowed room move.vm move.to) l.allows;
    fit =
        fitting-under room places places p (p ++ q) first_under
        (in-first (λ move. bears_at room move.to (tally_at room move.to (all_running (first_moment room places (p ++ q)))) (vm_of room move.vm)) l.fit);
    apart =
        unmet-under room places places p (p ++ q) first_under
        (in-first (λ move. not (meets_mate room (all_running (first_moment room places (p ++ q))) move.vm move.to)) l.apart);
    turn = turn-less room places places p (p ++ q) has_first (λ u h. refl) l.turn;
  }

  -- the second, at the placement that the first leaves: its VMs are still where they were
  second-place : (v : ℕ) → has_move q v ≡ true → place_of (after places p) v ≡ place_of places v
  second-place v h = still-place places p v (once p q l.different v h)

  second-leaves : (moves : Step) → ((v : ℕ) → has_move moves v ≡ true → place_of (after places p) v ≡ place_of places v) →
      all (λ move. leaves move (place_of places move.vm)) moves ≡ true → all (λ move. leaves move (place_of (after places p) move.vm)) moves ≡ true
  unfolding all
  second-leaves [] same e = refl
  second-leaves (move ∷ moves) same e =
      let here = leaves move (place_of places move.vm) in
      let others = all (λ m. leaves m (place_of places m.vm)) moves in
      and_both (ap (leaves move) (same move.vm (own-move move moves)) ∙ and_left here others e)
      (second-leaves moves (λ v h. same v (has-later move moves v h)) (and_right here others e))

  module _ (long : length places ≡ length room.vms) where
    second-counts : (d u : ℕ) → u < length room.vms → counts_on d (cell u (place_of (after places p) u) (begun (phase_of q u))) ≡ true →
        counts_on d (cell u (place_of places u) (begun (phase_of (p ++ q) u))) ≡ true
    unfolding begun counts_on
    second-counts d u k e = go (has_move p u) refl
      where
        stays : has_move p u ≡ true → has_move q u ≡ false
        stays h = not-both (has_move q u) refl
          where
            not-both : (b : Bool) → has_move q u ≡ b → b ≡ false
            not-both true x = absurd (false≢true (sym (once p q l.different u x) ∙ h))
            not-both false x = refl

        moved : has_move p u ≡ true → eqb (place_of (after places p) u) d ≡ true → counts_on d (cell u (place_of places u) (begun (phase_of (p ++ q) u))) ≡ true
        moved h t = rw (phase-append p q u, h, arrives places p u (distinct-left p q l.different) (rw long k) h) (or-second (eqb (place_of places u) d) t)

        go : (b : Bool) → has_move p u ≡ b → counts_on d (cell u (place_of places u) (begun (phase_of (p ++ q) u))) ≡ true
        go true h = moved h (rw (still-phase q u (stays h)) at e)
        go false h = rw (phase-append p q u, h) (rw (still-place places p u h) at e)

    second-under : (d : ℕ) → Under d (all_running (first_moment room (after places p) q)) (all_running (first_moment room places (p ++ q)))
    unfolding first_moment
    second-under d = under-cells d places (after places p) q (p ++ q) 0 (length room.vms) (λ u k. second-counts d u (omega arith))

    second-part : Loose room (after places p) q
    unfolding permitted fitting unmet
    second-part = record {
      different = distinct-right p q l.different;
      each-known = in-second (known room) l.each-known;
      each-leaves = second-leaves q second-place (in-second (λ move. leaves move (place_of places move.vm)) l.each-leaves);
      allows = in-second (λ move. allowed room move.vm move.to) l.allows;
      fit =
          fitting-under room places (after places p) q (p ++ q) second-under
          (in-second (λ move. bears_at room move.to (tally_at room move.to (all_running (first_moment room places (p ++ q)))) (vm_of room move.vm)) l.fit);
      apart =
          unmet-under room places (after places p) q (p ++ q) second-under
          (in-second (λ move. not (meets_mate room (all_running (first_moment room places (p ++ q))) move.vm move.to)) l.apart);
      turn =
          turn-less room places (after places p) q (p ++ q) has-second
          (λ u h. still-place places p u (or-none (has_move p u) (has_move q u) (sym (has-append p q u) ∙ h)).0) l.turn;
    }

-- ---- pieces one behind the other

-- what is shown of steps: sound and without 27, each where it starts, and where they lead
record Goes (room : Room) (places : Placement) (steps : List Step) (last : Placement) : Type 0 where
  sound : sound_all room places steps ≡ true
  well-sourced : sourced_all places steps ≡ true
  ends : after_all places steps ≡ last

module _ (room : Room) where
  goes-cons : (places : Placement) (step : Step) (steps : List Step) (last : Placement) → sound_step room places step ≡ true → sourced places step ≡ true →
      Goes room (after places step) steps last → Goes room places (step ∷ steps) last
  unfolding sound_all sourced_all after_all
  goes-cons places step steps last e s g = record { sound = and_both e g.sound; well-sourced = and_both s g.well-sourced; ends = g.ends }

  piece-rises : (piece : Step) (pieces : List Step) → all is_piece (piece ∷ pieces) ≡ true → rises (vms_in piece) ≡ true
  unfolding all is_piece
  piece-rises piece pieces e = and_right (leb 1 (length piece)) (rises (vms_in piece)) (and_left (is_piece piece) (all is_piece pieces) e)

  piece-tail : (piece : Step) (pieces : List Step) → all is_piece (piece ∷ pieces) ≡ true → all is_piece pieces ≡ true
  unfolding all
  piece-tail piece pieces e = and_right (is_piece piece) (all is_piece pieces) e

  -- pieces, and steps behind them
  pieces_go : (places : Placement) (pieces steps : List Step) (last : Placement) → length places ≡ length room.vms → all is_piece pieces ≡ true →
      Loose room places (flatten pieces) → Goes room (after places (flatten pieces)) steps last → Goes room places (pieces ++ steps) last
  unfolding flatten after
  pieces_go places [] steps last long e l g = g
  pieces_go places (piece ∷ pieces) steps last long e l g =
      let first = first_part room places piece (flatten pieces) l in
      goes-cons places piece (pieces ++ steps) last (loose-sound room places piece first (piece-rises piece pieces e)) (loose-sourced room places piece first)
      (pieces_go (after places piece) pieces steps last (after-length places piece ∙ long) (piece-tail piece pieces e)
      (second-part room places piece (flatten pieces) l long) (rw (after-append places piece (flatten pieces)) at g))

  goes-from : {places start : Placement} {steps : List Step} {last : Placement} → places ≡ start → Goes room places steps last → Goes room start steps last
  goes-from e g = rw e at g

  divided-goes : (places : Placement) {steps divided : List Step} → Divides steps divided → length places ≡ length room.vms → sound_all room places steps ≡ true →
      sourced_all places steps ≡ true → Goes room places divided (after_all places steps)
  unfolding sound_all sourced_all after_all
  divided-goes places none long e s = record { sound = refl; well-sourced = refl; ends = refl }
  divided-goes places (divide {step = step} {pieces = pieces} {steps = steps} {divided = divided} d more) long e s =
      let here = and_left (sound_step room places step) (sound_all room (after places step) steps) e in
      let well = and_left (sourced places step) (sourced_all (after places step) steps) s in
      let l = sound-loose room places step here well in
      let rest =
      divided-goes (after places step) more (after-length places step ∙ long) (and_right (sound_step room places step) (sound_all room (after places step) steps) e)
      (and_right (sourced places step) (sourced_all (after places step) steps) s) in
      pieces_go places pieces divided (after_all (after places step) steps) long d.each (loose-perm room places d.moves l)
      (goes-from (after-perm d.moves l.different places) rest)

-- ---- the cost

module _ (room : Room) where
  cost-perm : {xs ys : Step} → Permᴰ xs ys → step_cost room xs ≡ step_cost room ys
  unfolding step_cost
  cost-perm Permᴰ.nil = refl
  cost-perm (Permᴰ.cons e p) = ap₂ (λ (x y : ℕ). max x y) (ap (memory_of room) e) (cost-perm p)
  cost-perm (Permᴰ.swap {a = a} {b = b} {l = l} e f) =
      swap-max (memory_of room a) (memory_of room b) (step_cost room l) ∙ ap₂ (λ (x y : Move). max (memory_of room x) (max (memory_of room y) (step_cost room l))) f e
  cost-perm (Permᴰ.trans p r) = cost-perm p ∙ cost-perm r

  cost-append : (p q : Step) → step_cost room (p ++ q) ≡ max (step_cost room p) (step_cost room q)
  unfolding step_cost
  cost-append [] q = omega arith
  cost-append (move ∷ moves) q = let h = cost-append moves q in omega arith

  -- the sum over the moves of a step behind steps that cost so much
  abbrev sum : ℕ → Step → ℕ
  sum spent step = sum_of (λ move. memory_of room move + spent) step

  sum-append : (spent : ℕ) (p q : Step) → sum spent (p ++ q) ≡ sum spent p + sum spent q
  unfolding sum_of
  sum-append spent [] q = omega arith
  sum-append spent (move ∷ moves) q = let h = sum-append spent moves q in omega arith

  sum_more : (low high : ℕ) (step : Step) → low ≤ high → sum low step ≤ sum high step
  unfolding sum_of
  sum_more low high [] h = omega arith
  sum_more low high (move ∷ moves) h = let k = sum_more low high moves h in omega arith

  cost-more : (low high : ℕ) (steps : List Step) → low ≤ high → cost_from room low steps ≤ cost_from room high steps
  unfolding cost_from
  cost-more low high [] h = omega arith
  cost-more low high (step ∷ steps) h =
      let a = sum_more low high step h in
      let b = cost-more (low + step_cost room step) (high + step_cost room step) steps (omega arith) in
      omega arith

  -- pieces, and steps behind them that cost no less than those for which they stand
  pieces-cost : (low high : ℕ) (pieces divided steps : List Step) → low ≤ high →
      ((x y : ℕ) → x ≤ y → cost_from room x steps ≤ cost_from room y divided) →
      sum low (flatten pieces) + cost_from room (low + step_cost room (flatten pieces)) steps ≤ cost_from room high (pieces ++ divided)
  unfolding flatten cost_from step_cost sum_of
  pieces-cost low high [] divided steps h more = let a = more (low + 0) high (omega arith) in omega arith
  pieces-cost low high (piece ∷ pieces) divided steps h more =
      let a = pieces-cost (low + step_cost room piece) (high + step_cost room piece) pieces divided steps (omega arith) more in
      let b = sum-append low piece (flatten pieces) in
      let c = sum_more low high piece h in
      let d = sum_more low (low + step_cost room piece) (flatten pieces) (omega arith) in
      let e = cost-append piece (flatten pieces) in
      let f = cost-more (low + step_cost room (piece ++ flatten pieces)) (low + step_cost room piece + step_cost room (flatten pieces)) steps (omega arith) in
      omega arith

  divided-cost : {steps divided : List Step} → Divides steps divided → (low high : ℕ) → low ≤ high → cost_from room low steps ≤ cost_from room high divided
  unfolding cost_from
  divided-cost none low high h = omega arith
  divided-cost (divide {step = step} {pieces = pieces} {steps = steps} {divided = divided} d more) low high h =
      let a = pieces-cost low high pieces divided steps h (λ x y k. divided-cost more x y k) in
      let b = sum-perm (λ move. memory_of room move + low) d.moves in
      let c = cost-perm d.moves in
      rw (b, c) a

-- ---- the shape

-- the pieces of a step have its moves, and no piece has more
total-flat : (pieces : List Step) → move_total pieces ≡ length (flatten pieces)
unfolding flatten move_total sum_of
total-flat [] = refl
total-flat (piece ∷ pieces) = let a : sum_of length pieces ≡ length (flatten pieces) = total-flat pieces in let c = length-append piece (flatten pieces) in omega arith

pieces-sized : (pieces : List Step) → all is_piece pieces ≡ true → length (flatten pieces) ≤ 256 → all sized pieces ≡ true
unfolding all is_piece sized flatten
pieces-sized [] e h = refl
pieces-sized (piece ∷ pieces) e h =
    let a = length-append piece (flatten pieces) in
    let one = and_left (leb 1 (length piece)) (rises (vms_in piece)) (and_left (is_piece piece) (all is_piece pieces) e) in
    and_both {a = leb 1 (length piece) && leb (length piece) 256} (and_both one (le-leb (length piece) 256 (omega arith)))
    (pieces-sized pieces (and_right (is_piece piece) (all is_piece pieces) e) (omega arith))

sized-most : (step : Step) → sized step ≡ true → length step ≤ 256
unfolding sized
sized-most step e = leb-true (length step) 256 (and_right (leb 1 (length step)) (leb (length step) 256) e)

pub divided-total : {steps divided : List Step} → Divides steps divided → move_total divided ≡ move_total steps
divided-total none = refl
divided-total (divide {step = step} {pieces = pieces} {steps = steps} {divided = divided} d more) =
    let a = divided-total more in
    let b = total-append pieces divided in
    let c = total-cons step steps in
    let e = total-flat pieces in
    let f = length-perm d.moves in
    omega arith

divided-sized : {steps divided : List Step} → Divides steps divided → all sized steps ≡ true → all sized divided ≡ true
unfolding all
divided-sized none e = refl
divided-sized (divide {step = step} {pieces = pieces} {steps = steps} {divided = divided} d more) e =
    let h = sized-most step (and_left (sized step) (all sized steps) e) in
    let f = length-perm d.moves in
    rw (all_append sized pieces divided) (and_both (pieces-sized pieces d.each (omega arith)) (divided-sized more (and_right (sized step) (all sized steps) e)))

divided-shaped : {steps divided : List Step} → Divides steps divided → shaped steps ≡ true → length divided ≤ most_steps → shaped divided ≡ true
unfolding shaped
divided-shaped {steps} {divided} d e h =
    let rest = and_right (leb (length steps) most_steps) (all sized steps && leb (move_total steps) 1024) e in
    and_both (le-leb (length divided) most_steps h)
    (and_both (divided-sized d (and_left (all sized steps) (leb (move_total steps) 1024) rest))
    (ap (λ (n : ℕ). leb n 1024) (divided-total d) ∙ and_right (all sized steps) (leb (move_total steps) 1024) rest))

-- what every move has, every move of the pieces has
all-flat : {A : Type 0} (q : A → Bool) (xs : List (List A)) → all q (flatten xs) ≡ all (all q) xs
unfolding flatten all
all-flat q [] = refl
all-flat q (x ∷ xs) = all_append q x (flatten xs) ∙ ap (λ (b : Bool). all q x && b) (all-flat q xs)

divided-all : (q : Move → Bool) {steps divided : List Step} → Divides steps divided → all (all q) steps ≡ true → all (all q) divided ≡ true
unfolding all
divided-all q none e = refl
divided-all q (divide {step = step} {pieces = pieces} {steps = steps} {divided = divided} d more) e =
    rw (all_append (all q) pieces divided)
    (and_both (sym (all-flat q pieces) ∙ sym (all-perm q d.moves) ∙ and_left (all q step) (all (all q) steps) e)
    (divided-all q more (and_right (all q step) (all (all q) steps) e)))

divided-suits : (version : ℕ) {steps divided : List Step} → Divides steps divided → all (suits version) steps ≡ true → all (suits version) divided ≡ true
unfolding suits
divided-suits version d e = divided-all (λ move. suits_source (names_sources version) move.source) d e

-- the record of the pieces in the plan's version is whole, and stands for them
module _ (plan : List ℕ) (w : plan_check plan ≡ Ok tt) (divided : List Step) (d : Divides (steps_of plan) divided) (h : length divided ≤ most_steps) where
  pub kept-shaped : shaped divided ≡ true
  kept-shaped = divided-shaped d (plan-shaped plan w) h

  pub kept-suited : all (suits (kept_version plan)) divided ≡ true
  kept-suited = divided-suits (kept_version plan) d (kept-suits plan)

  pub kept_whole : plan_check (record_bytes (kept_version plan) divided) ≡ Ok tt
  kept_whole = record-whole (kept_version plan) divided kept-suited kept-shaped (kept-known plan w)

  pub kept-steps : steps_of (record_bytes (kept_version plan) divided) ≡ divided
  kept-steps = steps-of-record (kept_version plan) divided kept-suited kept-shaped

-- ---- an accepted plan, divided

module _ (reserve : ℕ) (cluster plan : List ℕ) (cost : ℕ) (e : verdict_of reserve cluster plan ≡ Verdict.Accepted cost) (divided : List Step) (d : Divides (steps_of plan) divided) where
  any-record : (other : List ℕ) → plan_check other ≡ Ok tt → steps_of other ≡ divided → verdict_of reserve cluster other ≡ Verdict.Accepted (cost_of (room_at reserve cluster) divided)
  unfolding plan_verdict
  any-record other w q =
      let a = accepted-steps reserve cluster plan cost e in
      let g = divided-goes (room_at reserve cluster) (current_of (room_at reserve cluster)) d (current-length (room_at reserve cluster)) a.sound a.well-sourced in
      shaped-verdict reserve cluster other (record { taken = (only-holds reserve cluster plan cost e).0.taken; plan-whole = w }) ∙
      rw q
      (steps-good (room_at reserve cluster) (Verdict.Accepted (cost_of (room_at reserve cluster) divided)) (current_of (room_at reserve cluster)) 1 divided g.sound g.well-sourced
      (ap (home (room_at reserve cluster)) g.ends ∙ a.arrived))

  pub accepted-divided : length divided ≤ most_steps → AcceptedDivided reserve cluster plan divided
  unfolding cost_of
  accepted-divided h =
      let w = (only-holds reserve cluster plan cost e).0.plan-whole in
      let s = kept-steps plan w divided d h in
      record {
        stands-for = s;
        accepted = any-record (record_bytes (kept_version plan) divided) (kept_whole plan w divided d h) s;
        any-record = any-record;
        no-cheaper = divided-cost (room_at reserve cluster) d 0 0 (omega arith);
      }
