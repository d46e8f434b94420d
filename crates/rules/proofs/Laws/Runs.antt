-- Laws on whole runs: where they end, when all of them obey the rules, how full the nodes are.
use Prim.Native.Nat.{ℕ, zero, suc, ◌+◌, ◌≤◌, ◌<◌}
use mathlib.Core.Bool.{Bool, true, false, ◌||◌, false≢true, or-true, or-false}
use mathlib.Core.List.{List, [], ◌∷◌, ◌++◌, map}
use mathlib.Core.Logic.{◌⊎◌, inl, inr, ⊎_elim, ◌↔◌}
use mathlib.Core.Path.{◌≡◌, refl, sym, ap, ◌∙◌}
use native.Mathlib.Omega.{arith}
use lib.ListN.{length, get_or}
use lib.Dec.{eqb}
use borrow.Author.Tests.{eqb-true, eqb-false, ne_eqb}
use Rattle.records.specs.Base.{pick, all}
use Rattle.records.specs.Room.{Room, vm_of, node_of, on_node}
use Rattle.records.specs.Plan.{Step}
use Rattle.records.proofs.Laws.Bools.{and_left, and_right, and_both}
use Rattle.records.proofs.Laws.Rows.{node-on}
use Rattle.rules.specs.Moments.{Placement, place_of, after, bears, with_vm, Phase, staying, waiting, running, ended, cell, Moment, number_of, counts_on, tally_at, phase_of, cells_from, first_moment, at_rest, rests, settled, left_at, places_left}
use Rattle.rules.specs.Orders.{begin, finish, Event, begins, ends, later, Order, done, next, Run, stop, step, fits, meets_mate, EachBegin, SomeBegin, EachMoment, EachChange, EachBeginOfRun, EachMomentOfRun, EachChangeOfRun, MayBegin}
use Rattle.rules.specs.Rules.{from, allowed, named, permitted, fitting, unmet, in_turn, sound_step}
use Rattle.rules.specs.Promises.{after_all, named_all, sound_all, Obeys, InTurn, SoundInOrders, SomeOrder, StaysWithin}
use Rattle.rules.proofs.Laws.Bears.{at-node, bears-memory, bears-cpu}
use Rattle.rules.proofs.Laws.Sound.{sound-named, sound-permitted, sound-fitting, sound-unmet, sound-turn, sound-tests}
use Rattle.rules.proofs.Laws.Orders.{never, load, memory_in, cpu_in, memory-load, cpu-load, Under, under-self, both, under-load, Onward, none, same, runs, over, stops, onward_self, onward-order, begins-allowed, begins-fit, begins-apart, some-order, some-forbidden, some-misfit, some-mate, after-length, order-leaves}

-- ---- claims over begins

pub each_both : (P Q R : Moment → ℕ → ℕ → Type 0) → ((cs : Moment) (v d : ℕ) → P cs v d → Q cs v d → R cs v d) →
    {cs ds : Moment} (o : Order cs ds) → EachBegin P o → EachBegin Q o → EachBegin R o
each_both P Q R h done p q = tt
each_both P Q R h (next {cs = cs} {a = begin v d} e o) p q = (h cs v d p.0 q.0, each_both P Q R h o p.1 q.1)
each_both P Q R h (next {a = finish v} e o) p q = each_both P Q R h o p q

-- what each begin has, no begin can lack
pub each-some : (P Q : Moment → ℕ → ℕ → Type 0) → ((cs : Moment) (v d : ℕ) → P cs v d → Q cs v d → ⊥) →
    {cs ds : Moment} (o : Order cs ds) → EachBegin P o → SomeBegin Q o → ⊥
each-some P Q h done p q = q
each-some P Q h (next {cs = cs} {a = begin v d} e o) p (inl q) = h cs v d p.0 q
each-some P Q h (next {a = begin v d} e o) p (inr q) = each-some P Q h o p.1 q
each-some P Q h (next {a = finish v} e o) p q = each-some P Q h o p q

pub each-run : (P Q : Moment → ℕ → ℕ → Type 0) → ((cs : Moment) (v d : ℕ) → P cs v d → Q cs v d) →
    {room : Room} {places last : Placement} {steps : List Step} (run : Run room places steps last) → EachBeginOfRun P run → EachBeginOfRun Q run
each-run P Q h stop p = tt
each-run P Q h (step o s r) p = (each_both P P Q (λ cs v d x y. h cs v d x) o p.0 p.0, each-run P Q h r p.1)

-- ---- 17 and 18 are seen in orders, and only where they are

module _ (room : Room) (places : Placement) (moves : Step) (n : named room places 0 moves ≡ true) where
  pub misfit-exact : (fitting room places moves ≡ false) ↔ SomeOrder room places moves (λ cs v d. fits room cs v d ≡ false)
  misfit-exact = (some-misfit room places moves n, λ x. go x (fitting room places moves) refl)
    where
      go : SomeOrder room places moves (λ cs v d. fits room cs v d ≡ false) → (b : Bool) → fitting room places moves ≡ b → b ≡ false
      go x false t = refl
      go x true t = absurd (
          each-some (λ cs v d. fits room cs v d ≡ true) (λ cs v d. fits room cs v d ≡ false) (λ cs v d p q. false≢true (sym q ∙ p))
          x.order (begins-fit room places moves n t x.order) x.begin)

  pub mate-exact : (unmet room places moves ≡ false) ↔ SomeOrder room places moves (λ cs v d. meets_mate room cs v d ≡ true)
  mate-exact = (some-mate room places moves n, λ x. go x (unmet room places moves) refl)
    where
      go : SomeOrder room places moves (λ cs v d. meets_mate room cs v d ≡ true) → (b : Bool) → unmet room places moves ≡ b → b ≡ false
      go x false t = refl
      go x true t = absurd (
          each-some (λ cs v d. meets_mate room cs v d ≡ false) (λ cs v d. meets_mate room cs v d ≡ true) (λ cs v d p q. false≢true (sym p ∙ q))
          x.order (begins-apart room places moves t x.order) x.begin)

-- ---- where runs end

pub sound-all-named : (room : Room) (places : Placement) (steps : List Step) → sound_all room places steps ≡ true → named_all room places steps ≡ true
unfolding sound_all named_all
sound-all-named room places [] e = refl
sound-all-named room places (moves ∷ steps) e =
    and_both (sound-named room places moves (and_left (sound_step room places moves) (sound_all room (after places moves) steps) e))
    (sound-all-named room (after places moves) steps (and_right (sound_step room places moves) (sound_all room (after places moves) steps) e))

pub run_ends : {room : Room} {places last : Placement} {steps : List Step} → named_all room places steps ≡ true → length places ≡ length room.vms →
    Run room places steps last → last ≡ after_all places steps
unfolding named_all after_all
run_ends n l stop = refl
run_ends {room} {places} n l (step {moves = moves} {steps = steps} o s r) =
    let left = order-leaves room places moves (and_left (named room places 0 moves) (named_all room (after places moves) steps) n) l o s in
    let more : named_all room (after places moves) steps ≡ true = and_right (named room places 0 moves) (named_all room (after places moves) steps) n in
    run_ends (rw (← left) at more) (ap length left ∙ after-length places moves ∙ l) r ∙ ap (λ (p : Placement). after_all p steps) left

-- one more step at the end
pub after-all-snoc : (places : Placement) (steps : List Step) (s : Step) → after_all places (steps ++ (s ∷ [])) ≡ after (after_all places steps) s
unfolding after_all
after-all-snoc places [] s = refl
after-all-snoc places (moves ∷ steps) s = after-all-snoc (after places moves) steps s

-- there is a run
pub some-run : (room : Room) (places : Placement) (steps : List Step) → (last : Placement) × Run room places steps last
some-run room places [] = (places, stop)
some-run room places (moves ∷ steps) =
    let o = some-order room places moves in
    let r = some-run room (places_left o.0) steps in
    (r.0, step o.1 o.2 r.1)

-- ---- runs of sound steps obey the rules, and only those

pub order-obeys : (room : Room) (places : Placement) (moves : Step) → sound_step room places moves ≡ true → {end : Moment}
    (o : Order (first_moment room places moves) end) → EachBegin (Obeys room) o
order-obeys room places moves e o =
    each_both (MayBegin room) (λ cs v d. allowed room v d ≡ true) (Obeys room) (λ cs v d m a. record { may = m; permitted = a }) o
    (each_both (λ cs v d. fits room cs v d ≡ true) (λ cs v d. meets_mate room cs v d ≡ false) (MayBegin room) (λ cs v d f a. record { fit = f; apart = a }) o
    (begins-fit room places moves (sound-named room places moves e) (sound-fitting room places moves e) o)
    (begins-apart room places moves (sound-unmet room places moves e) o))
    (begins-allowed room places moves (sound-permitted room places moves e) o)

pub run-obeys : {room : Room} {places last : Placement} {steps : List Step} → sound_all room places steps ≡ true → length places ≡ length room.vms →
    (run : Run room places steps last) → EachBeginOfRun (Obeys room) run
unfolding sound_all
run-obeys e l stop = tt
run-obeys {room} {places} e l (step {moves = moves} {steps = steps} o s r) =
    let sound = and_left (sound_step room places moves) (sound_all room (after places moves) steps) e in
    let more : sound_all room (after places moves) steps ≡ true = and_right (sound_step room places moves) (sound_all room (after places moves) steps) e in
    let left = order-leaves room places moves (sound-named room places moves sound) l o s in
    (order-obeys room places moves sound o, run-obeys (rw (← left) at more) (ap length left ∙ after-length places moves ∙ l) r)

-- a step without fault 15 that moves nobody before its turn and whose orders all obey the rules is sound
pub step-sound : (room : Room) (places : Placement) (moves : Step) → named room places 0 moves ≡ true → in_turn room places moves ≡ true →
    ((end : Moment) (o : Order (first_moment room places moves) end) → settled end ≡ true → EachBegin (Obeys room) o) → sound_step room places moves ≡ true
step-sound room places moves n t h =
    sound-tests room places moves n (decided (permitted room moves) (λ e. forbidden (some-forbidden room places moves n e)))
    (decided (fitting room places moves) (λ e. misfit (some-misfit room places moves n e)))
    (decided (unmet room places moves) (λ e. mate (some-mate room places moves n e))) t
  where
    decided : (b : Bool) → (b ≡ false → ⊥) → b ≡ true
    decided true f = refl
    decided false f = absurd (f refl)

    forbidden : SomeOrder room places moves (λ cs v d. allowed room v d ≡ false) → ⊥
    forbidden x =
        each-some (Obeys room) (λ cs v d. allowed room v d ≡ false) (λ cs v d p q. false≢true (sym q ∙ p.permitted)) x.order
        (h x.end x.order x.whole) x.begin

    misfit : SomeOrder room places moves (λ cs v d. fits room cs v d ≡ false) → ⊥
    misfit x =
        each-some (Obeys room) (λ cs v d. fits room cs v d ≡ false) (λ cs v d p q. false≢true (sym q ∙ p.may.fit)) x.order
        (h x.end x.order x.whole) x.begin

    mate : SomeOrder room places moves (λ cs v d. meets_mate room cs v d ≡ true) → ⊥
    mate x =
        each-some (Obeys room) (λ cs v d. meets_mate room cs v d ≡ true) (λ cs v d p q. false≢true (sym p.may.apart ∙ q)) x.order
        (h x.end x.order x.whole) x.begin

-- sound as it is decided is sound over orders
pub sound-orders : (room : Room) (places : Placement) (moves : Step) → (sound_step room places moves ≡ true) ↔ SoundInOrders room places moves
sound-orders room places moves = (
  (λ e. record { well-named = sound-named room places moves e; obeys = λ end o s. order-obeys room places moves e o; in-turn = sound-turn room places moves e }),
  (λ x. step-sound room places moves x.well-named x.in-turn x.obeys),
)

pub runs-sound : (room : Room) (places : Placement) (steps : List Step) → named_all room places steps ≡ true → length places ≡ length room.vms →
    ((last : Placement) (run : Run room places steps last) → EachBeginOfRun (Obeys room) run) →
    ((last : Placement) (run : Run room places steps last) → InTurn room run) → sound_all room places steps ≡ true
unfolding sound_all named_all
runs-sound room places [] n l h t = refl
runs-sound room places (moves ∷ steps) n l h t =
    let name = and_left (named room places 0 moves) (named_all room (after places moves) steps) n in
    let more : named_all room (after places moves) steps ≡ true = and_right (named room places 0 moves) (named_all room (after places moves) steps) n in
    let o = some-order room places moves in
    let left = order-leaves room places moves name l o.1 o.2 in
    and_both
    (step-sound room places moves name (let r = some-run room (places_left o.0) steps in (t r.0 (step o.1 o.2 r.1)).0)
    (λ end p s. let r = some-run room (places_left end) steps in (h r.0 (step p s r.1)).0))
    (rw left at (runs-sound room (places_left o.0) steps (rw (← left) at more) (ap length left ∙ after-length places moves ∙ l) (λ last r. (h last (step o.1 o.2 r)).1) (λ last r. (t last (step o.1 o.2 r)).1)))

-- ---- how full a node is along a run

-- a begin elsewhere and an end leave a node no fuller; a begin there adds the VM
begin-most : {cs ds : Moment} {v d : ℕ} (f : ℕ → ℕ) → Event cs (begin v d) ds → load f d ds ≤ load f d cs + f v
unfolding load counts_on
begin-most f (begins {v = v} {place = p} {to = d} {cs = cs}) = picked (eqb p d) (eqb d d)
  where
    picked : (a b : Bool) → pick (a || b) (load f d cs + f v) (load f d cs) ≤ pick a (load f d cs + f v) (load f d cs) + f v
    picked true b = omega arith
    picked false true = omega arith
    picked false false = omega arith
begin-most {v = v} {d = d} f (later {c = c} {cs = cs} e) = picked (counts_on d c) (load f d cs) (begin-most f e)
  where
    picked : (b : Bool) (m : ℕ) {n : ℕ} → n ≤ m + f v → pick b (n + f (number_of c)) n ≤ pick b (m + f (number_of c)) m + f v
    picked true m h = omega arith
    picked false m h = h

pub begin-elsewhere : {cs ds : Moment} {v to : ℕ} (d : ℕ) → (to ≡ d → ⊥) → Event cs (begin v to) ds → Under d ds cs
unfolding counts_on
begin-elsewhere d h (begins {place = p} {to = to} {cs = cs}) = both (λ e. sym (or-false (eqb p d)) ∙ ap (λ (b : Bool). eqb p d || b) (sym (ne_eqb to d h)) ∙ e) (under-self d cs)
begin-elsewhere d h (later {c = cell v p x} e) = both (λ e. e) (begin-elsewhere d h e)

pub end-under : {cs ds : Moment} {v : ℕ} (d : ℕ) → Event cs (finish v) ds → Under d ds cs
unfolding counts_on
end-under d (ends {place = p} {to = to} {cs = cs}) = both (λ e. ap (λ (b : Bool). eqb p d || b) e ∙ or-true (eqb p d)) (under-self d cs)
end-under d (later {c = cell v p x} e) = both (λ e. e) (end-under d e)

module _ (f : ℕ → ℕ) (d most : ℕ) where
  -- a VM that begins on d is within the bound, or counts nothing
  abbrev pub Room-for : Moment → ℕ → ℕ → Type 0
  Room-for cs v to = to ≡ d → (f v ≡ 0) ⊎ (load f d cs + f v ≤ most)

  -- from one moment to the next the load does not pass the bound, and does not grow while it is past it
  abbrev pub Keeps-to : Moment → Moment → Type 0
  Keeps-to cs ds = (x : ℕ) → most ≤ x → load f d cs ≤ x → load f d ds ≤ x

  pub event-most : {cs ds : Moment} {v to : ℕ} → Event cs (begin v to) ds → Room-for cs v to → Keeps-to cs ds
  event-most {cs} {ds} {v} {to} e h x l m = go (eqb to d) refl
    where
      go : (b : Bool) → eqb to d ≡ b → load f d ds ≤ x
      go true t =
          let q = eqb-true to d t in
          let k = begin-most f (rw q at e) in
          ⊎_elim (λ z. omega arith) (λ r. omega arith) (h q)
      go false t = let k = under-load f (begin-elsewhere d (eqb-false to d t) e) in omega arith

-- at a step's first moment every VM counts on its place
counts-first : (d v p : ℕ) (moves : Step) → counts_on d (cell v p (phase_of moves v)) ≡ eqb p d
unfolding counts_on phase_of
counts-first d v p [] = refl
counts-first d v p (move ∷ moves) = picked (eqb move.vm v) (counts-first d v p moves)
  where
    picked : (b : Bool) → counts_on d (cell v p (phase_of moves v)) ≡ eqb p d → counts_on d (cell v p (pick b (waiting move.to) (phase_of moves v))) ≡ eqb p d
    picked true e = refl
    picked false e = e

first_load : (f : ℕ → ℕ) (d : ℕ) (places : Placement) (moves : Step) (v n : ℕ) → load f d (cells_from places moves v n) ≡ load f d (cells_from places [] v n)
unfolding cells_from load
first_load f d places moves v zero = refl
first_load f d places moves v (suc n) =
    rw (counts-first d v (place_of places v) moves, counts-first d v (place_of places v) [], first_load f d places moves (suc v) n)

-- at a settled moment on the node that it is left on
counts-left : (d v p : ℕ) (x : Phase) → rests (cell v p x) ≡ true → counts_on d (cell v p x) ≡ eqb (left_at (cell v p x)) d
unfolding counts_on rests left_at
counts-left d v p staying e = refl
counts-left d v p (waiting to) e = absurd (false≢true e)
counts-left d v p (running to) e = absurd (false≢true e)
counts-left d v p (ended to) e = refl

numbers-onward : {ws cs : Moment} → Onward ws cs → map number_of cs ≡ map number_of ws
numbers-onward none = refl
numbers-onward (same {c = c} o) = ap (λ (l : List ℕ). number_of c ∷ l) (numbers-onward o)
numbers-onward (runs {v = v} o) = ap (λ (l : List ℕ). v ∷ l) (numbers-onward o)
numbers-onward (over {v = v} o) = ap (λ (l : List ℕ). v ∷ l) (numbers-onward o)
numbers-onward (stops {v = v} o) = ap (λ (l : List ℕ). v ∷ l) (numbers-onward o)

numbers-first : (places : Placement) (moves : Step) (v n : ℕ) → map number_of (cells_from places moves v n) ≡ from v n
unfolding cells_from from
numbers-first places moves v zero = refl
numbers-first places moves v (suc n) = ap (λ (l : List ℕ). v ∷ l) (numbers-first places moves (suc v) n)

left-from : (f : ℕ → ℕ) (d : ℕ) (places : Placement) (cs : Moment) (v n : ℕ) → settled cs ≡ true → map number_of cs ≡ from v n →
    ((i : ℕ) → place_of places (v + i) ≡ get_or (map left_at cs) i 0) → load f d (cells_from places [] v n) ≡ load f d cs
unfolding cells_from load settled all from
left-from f d places [] v zero s e h = refl
left-from f d places [] v (suc n) s e h = never (cc)
left-from f d places (c ∷ cs) v zero s e h = never (cc)
left-from f d places (cell w p x ∷ cs) v (suc n) s e h =
    let head : w ≡ v = cc in
    let tail : map number_of cs ≡ from (suc v) n = cc in
    let more : (i : ℕ) → place_of places (suc v + i) ≡ get_or (map left_at cs) i 0 = λ i. let k : v + suc i ≡ suc v + i = omega arith in rw k at (h (suc i)) in
    let here : place_of places v ≡ left_at (cell w p x) = let k : v + 0 ≡ v = omega arith in rw k at (h 0) in
    let load_is = left-from f d places cs (suc v) n (and_right (rests (cell w p x)) (all rests cs) s) tail more in
    rw (counts-first d v (place_of places v) [], counts-left d w p x (and_left (rests (cell w p x)) (all rests cs) s), here, head, load_is)

-- so a step starts with the load that the one before it left
pub first_rest : (f : ℕ → ℕ) (d : ℕ) (room : Room) (places : Placement) (moves : Step) → load f d (first_moment room places moves) ≡ load f d (at_rest room places)
unfolding first_moment
first_rest f d room places moves = first_load f d places moves 0 (length room.vms)

pub left-load : (f : ℕ → ℕ) (d : ℕ) (room : Room) (places : Placement) (moves : Step) {end : Moment} → Order (first_moment room places moves) end →
    settled end ≡ true → load f d (first_moment room (places_left end) []) ≡ load f d end
unfolding first_moment places_left
left-load f d room places moves {end} o s =
    left-from f d (places_left end) end 0 (length room.vms) s
    (numbers-onward (onward-order (onward_self (first_moment room places moves)) o) ∙ numbers-first places moves 0 (length room.vms))
    (λ i. let k : 0 + i ≡ i = omega arith in rw k refl)

-- ---- from one moment to the next

order-changes : (f : ℕ → ℕ) (d most : ℕ) {cs ds : Moment} (o : Order cs ds) → EachBegin (Room-for f d most) o → EachChange (Keeps-to f d most) o
order-changes f d most done b = tt
order-changes f d most (next {a = begin v to} e o) b = (event-most f d most e b.0, order-changes f d most o b.1)
order-changes f d most (next {a = finish v} e o) b = (λ x l m. let k = under-load f (end-under d e) in omega arith, order-changes f d most o b)

pub run-changes : (f : ℕ → ℕ) (d most : ℕ) {room : Room} {places last : Placement} {steps : List Step} (run : Run room places steps last) →
    EachBeginOfRun (Room-for f d most) run → EachChangeOfRun (Keeps-to f d most) run
run-changes f d most stop b = tt
run-changes f d most {room} (step {places = places} {moves = moves} {end = end} o s r) b =
    (λ x l m. rw (first_rest f d room places moves) m, order-changes f d most o b.0, λ x l m. rw (left-load f d room places moves o s) m, run-changes f d most r b.1)

each-change : (P Q : Moment → Moment → Type 0) → ((cs ds : Moment) → P cs ds → Q cs ds) → {cs ds : Moment} (o : Order cs ds) → EachChange P o → EachChange Q o
each-change P Q h done p = tt
each-change P Q h (next {cs = cs} {ds = ds} e o) p = (h cs ds p.0, each-change P Q h o p.1)

each-change-run : (P Q : Moment → Moment → Type 0) → ((cs ds : Moment) → P cs ds → Q cs ds) → {room : Room} {places last : Placement} {steps : List Step}
    (run : Run room places steps last) → EachChangeOfRun P run → EachChangeOfRun Q run
each-change-run P Q h stop p = tt
each-change-run P Q h {room} (step {places = places} {moves = moves} {end = end} o s r) p =
    (h (at_rest room places) (first_moment room places moves) p.0, each-change P Q h o p.1, h end (at_rest room (places_left end)) p.2, each-change-run P Q h r p.3)

-- what every change keeps, and the start has, every moment has
kept-moments : (Q : Moment → Type 0) {cs ds : Moment} (o : Order cs ds) → EachChange (λ xs ys. Q xs → Q ys) o → Q cs → EachMoment Q o × Q ds
kept-moments Q done c q = (q, q)
kept-moments Q (next e o) c q = let r = kept-moments Q o c.1 (c.0 q) in ((q, r.0), r.1)

pub kept-moments-run : (Q : Moment → Type 0) {room : Room} {places last : Placement} {steps : List Step} (run : Run room places steps last) →
    EachChangeOfRun (λ xs ys. Q xs → Q ys) run → Q (at_rest room places) → EachMomentOfRun Q run
kept-moments-run Q stop c q = q
kept-moments-run Q (step o s r) c q = let k = kept-moments Q o c.1 (c.0 q) in (k.0, kept-moments-run Q r c.3 (c.2 k.1))

-- ---- no run of sound steps takes a node past what it has

-- what a VM that fits on a node says of each number
module _ (room : Room) (cs : Moment) (v d : ℕ) (n : on_node d ≡ true) (e : fits room cs v d ≡ true) where
  fits-node : bears (node_of room d) (with_vm (tally_at room d cs) (vm_of room v)) (vm_of room v) ≡ true
  unfolding fits
  fits-node = sym (at-node room d (with_vm (tally_at room d cs) (vm_of room v)) (vm_of room v) n) ∙ e

  fits-memory : (tally_at room d cs).memory + memory_in room v ≤ (node_of room d).memory
  fits-memory = bears-memory (node_of room d) (with_vm (tally_at room d cs) (vm_of room v)) (vm_of room v) fits-node

  fits-cpu : (cpu_in room v ≡ 0) ⊎ ((tally_at room d cs).cpu + cpu_in room v ≤ (node_of room d).cpu)
  fits-cpu = bears-cpu (node_of room d) (with_vm (tally_at room d cs) (vm_of room v)) (vm_of room v) fits-node

module _ (room : Room) (cs : Moment) (v to d : ℕ) (n : on_node d ≡ true) (e : fits room cs v to ≡ true) where
  there : to ≡ d → fits room cs v d ≡ true
  there q = ap (fits room cs v) (sym q) ∙ e

  room-memory : Room-for (memory_in room) d (node_of room d).memory cs v to
  room-memory q = let m = fits-memory room cs v d n (there q) in inr (omega (arith, memory-load room d cs))

  room-cpu : Room-for (cpu_in room) d (node_of room d).cpu cs v to
  room-cpu q = ⊎_elim inl (λ m. inr (omega (arith, cpu-load room d cs))) (fits-cpu room cs v d n (there q))

module _ (room : Room) (places : Placement) (steps : List Step) (few : length room.nodes ≤ 64) (e : sound_all room places steps ≡ true)
    (l : length places ≡ length room.vms) where
  module _ (last : Placement) (run : Run room places steps last) (d : ℕ) (h : d < length room.nodes) where
    on : on_node d ≡ true
    on = node-on (length room.nodes) d few h

    memory_kept : EachChangeOfRun (Keeps-to (memory_in room) d (node_of room d).memory) run
    memory_kept =
        run-changes (memory_in room) d (node_of room d).memory run
        (each-run (Obeys room) (Room-for (memory_in room) d (node_of room d).memory) (λ cs v k p. room-memory room cs v k d on p.may.fit) run (run-obeys e l run))

    cpu-kept : EachChangeOfRun (Keeps-to (cpu_in room) d (node_of room d).cpu) run
    cpu-kept =
        run-changes (cpu_in room) d (node_of room d).cpu run
        (each-run (Obeys room) (Room-for (cpu_in room) d (node_of room d).cpu) (λ cs v k p. room-cpu room cs v k d on p.may.fit) run (run-obeys e l run))

    memory-stays : EachChangeOfRun (λ cs ds. (tally_at room d cs).memory ≤ (node_of room d).memory → (tally_at room d ds).memory ≤ (node_of room d).memory) run
    memory-stays =
        each-change-run (Keeps-to (memory_in room) d (node_of room d).memory)
        (λ cs ds. (tally_at room d cs).memory ≤ (node_of room d).memory → (tally_at room d ds).memory ≤ (node_of room d).memory)
        (λ cs ds k m. rw (memory-load room d ds) (k (node_of room d).memory (omega arith) (rw (memory-load room d cs) at m))) run memory_kept

    cpu-stays : EachChangeOfRun (λ cs ds. (tally_at room d cs).cpu ≤ (node_of room d).cpu → (tally_at room d ds).cpu ≤ (node_of room d).cpu) run
    cpu-stays =
        each-change-run (Keeps-to (cpu_in room) d (node_of room d).cpu)
        (λ cs ds. (tally_at room d cs).cpu ≤ (node_of room d).cpu → (tally_at room d ds).cpu ≤ (node_of room d).cpu)
        (λ cs ds k m. rw (cpu-load room d ds) (k (node_of room d).cpu (omega arith) (rw (cpu-load room d cs) at m))) run cpu-kept

    cpu-unraised : EachChangeOfRun (λ cs ds. (node_of room d).cpu < (tally_at room d cs).cpu → (tally_at room d ds).cpu ≤ (tally_at room d cs).cpu) run
    cpu-unraised =
        each-change-run (Keeps-to (cpu_in room) d (node_of room d).cpu)
        (λ cs ds. (node_of room d).cpu < (tally_at room d cs).cpu → (tally_at room d ds).cpu ≤ (tally_at room d cs).cpu)
        (λ cs ds k o.
        let u = cpu-load room d cs in
        rw (cpu-load room d ds) (k (tally_at room d cs).cpu (omega arith) (omega arith))) run cpu-kept

  pub stays_within : StaysWithin room places steps
  stays_within = record {
    memory = λ last run d h m. kept-moments-run (λ cs. (tally_at room d cs).memory ≤ (node_of room d).memory) run (memory-stays last run d h) m;
    cpu = λ last run d h m. kept-moments-run (λ cs. (tally_at room d cs).cpu ≤ (node_of room d).cpu) run (cpu-stays last run d h) m;
    memory-stays = memory-stays;
    cpu-stays = cpu-stays;
    arrivals = λ last run. each-run (Obeys room) (λ cs v d. fits room cs v d ≡ true) (λ cs v d p. p.may.fit) run (run-obeys e l run);
    memory-over = λ last run.
        each-run (Obeys room) (λ cs v d. d < length room.nodes → (node_of room d).memory < (tally_at room d cs).memory → ⊥)
        (λ cs v d p h o. let m = fits-memory room cs v d (node-on (length room.nodes) d few h) p.may.fit in omega arith) run (run-obeys e l run);
    cpu-over = λ last run.
        each-run (Obeys room) (λ cs v d. d < length room.nodes → (node_of room d).cpu < (tally_at room d cs).cpu → (vm_of room v).cpu ≡ 0)
        (λ cs v d p h o. ⊎_elim (λ z. z) (λ m. omega arith) (fits-cpu room cs v d (node-on (length room.nodes) d few h) p.may.fit)) run (run-obeys e l run);
    cpu-unraised = cpu-unraised;
  }
