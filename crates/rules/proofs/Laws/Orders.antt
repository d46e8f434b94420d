-- Laws on the orders of one step: what counts where at their moments, what the tests with every move running say of every begin, an order
-- that begins a given move last, and the placement that an order leaves.
use Prim.Native.Nat.{ℕ, zero, suc, ◌+◌, ◌≤◌, ◌<◌}
use mathlib.Core.Bool.{Bool, true, false, not, ◌&&◌, ◌||◌, false≢true, or-true}
use mathlib.Core.List.{List, [], ◌∷◌, map}
use mathlib.Core.Logic.{◌⊎◌, inl, inr}
use mathlib.Core.Path.{◌≡◌, refl, sym, ap, ap₂, ◌∙◌}
use native.Mathlib.Omega.{arith}
use lib.ListN.{length, get_or, set, length-set, length-map}
use lib.Seq.{get_or-set_same, get_or-set_other, ext_get_or}
use lib.Dec.{leb, ltb, eqb}
use borrow.Author.Tests.{leb-true, ltb-true, eqb-true, eqb-false, not-true, not-false, le-leb, lt-ltb, eq-eqb, ne_eqb}
use Rattle.records.specs.Base.{pick, all}
use Rattle.records.specs.Room.{Vm, Room, vm_of, on_node}
use Rattle.records.specs.Plan.{Move, Step, move_of}
use Rattle.records.proofs.Laws.Bools.{and_left, and_right, and_both, all_head, all_tail}
use Rattle.rules.specs.Moments.{Placement, place_of, after, bears_at, with_vm, Phase, staying, waiting, running, ended, Cell, cell, Moment, number_of, counts_on, tally_at, phase_of, cells_from, first_moment, begun, all_running, rests, settled, left_at, places_left}
use Rattle.rules.specs.Orders.{Act, begin, finish, Event, begins, ends, later, Order, done, next, fits, some, mates, meets_mate, EachBegin, SomeBegin}
use Rattle.rules.specs.Rules.{allowed, aims, named, permitted, fitting, unmet}
use Rattle.rules.specs.Promises.{SomeOrder}
use Rattle.rules.specs.declared.tally.Tally.{Tally}
use Rattle.rules.proofs.Laws.Bears.{bears-less}

-- from two constructors that are equal (`cc` finds that 0 is 1) anything follows
pub never : {A : Type 0} → ◌≡◌ {A = ℕ} 0 1 → A
never e = absurd (omega arith)

or-first : {a : Bool} (b : Bool) → a ≡ true → (a || b) ≡ true
or-first b e = rw e

pub or-second : (a : Bool) {b : Bool} → b ≡ true → (a || b) ≡ true
or-second a e = rw e (or-true a)

-- ---- what fault 15 rules out

module _ (room : Room) (places : Placement) (least : ℕ) (move : Move) (moves : Step) (e : named room places least (move ∷ moves) ≡ true) where
  vm-ok : (leb least move.vm && ltb move.vm (length room.vms)) ≡ true
  unfolding named
  vm-ok = and_left (leb least move.vm && ltb move.vm (length room.vms)) _ e

  to-ok : (aims room move.vm move.to && not (eqb move.to (place_of places move.vm))) ≡ true
  unfolding named
  to-ok =
      and_left (aims room move.vm move.to && not (eqb move.to (place_of places move.vm))) _
      (and_right (leb least move.vm && ltb move.vm (length room.vms)) _ e)

  pub named-least : least ≤ move.vm
  named-least = leb-true least move.vm (and_left (leb least move.vm) _ vm-ok)

  pub named-vm : move.vm < length room.vms
  named-vm = ltb-true move.vm (length room.vms) (and_right (leb least move.vm) _ vm-ok)

  pub named-sends : aims room move.vm move.to ≡ true
  named-sends = and_left (aims room move.vm move.to) _ to-ok

  pub named-off : not (eqb move.to (place_of places move.vm)) ≡ true
  named-off = and_right (aims room move.vm move.to) _ to-ok

  pub named-rest : named room places (suc move.vm) moves ≡ true
  unfolding named
  named-rest =
      and_right (aims room move.vm move.to && not (eqb move.to (place_of places move.vm))) _
      (and_right (leb least move.vm && ltb move.vm (length room.vms)) _ e)

pub named-cons : (room : Room) (places : Placement) (least : ℕ) (move : Move) (moves : Step) → least ≤ move.vm → move.vm < length room.vms →
    aims room move.vm move.to ≡ true → not (eqb move.to (place_of places move.vm)) ≡ true → named room places (suc move.vm) moves ≡ true →
    named room places least (move ∷ moves) ≡ true
unfolding named
named-cons room places least move moves l v t o r =
    and_both (and_both (le-leb least move.vm l) (lt-ltb move.vm (length room.vms) v)) (and_both (and_both t o) r)

-- ---- loads: one number of each VM, summed where it counts

unfoldable pub load : (ℕ → ℕ) → ℕ → Moment → ℕ
load f d [] = 0
load f d (c ∷ cs) = pick (counts_on d c) (load f d cs + f (number_of c)) (load f d cs)

-- the two numbers that are summed
abbrev pub memory_in : Room → ℕ → ℕ
memory_in room v = (vm_of room v).memory

abbrev pub cpu_in : Room → ℕ → ℕ
cpu_in room v = (vm_of room v).cpu

pub memory-load : (room : Room) (d : ℕ) (cs : Moment) → (tally_at room d cs).memory ≡ load (memory_in room) d cs
unfolding tally_at load
memory-load room d [] = refl
memory-load room d (c ∷ cs) = picked (counts_on d c) (memory-load room d cs)
  where
    picked : (b : Bool) {n : ℕ} → (tally_at room d cs).memory ≡ n →
        (pick b (with_vm (tally_at room d cs) (vm_of room (number_of c))) (tally_at room d cs)).memory ≡ pick b (n + memory_in room (number_of c)) n
    picked true e = rw e
    picked false e = e

pub cpu-load : (room : Room) (d : ℕ) (cs : Moment) → (tally_at room d cs).cpu ≡ load (cpu_in room) d cs
unfolding tally_at load
cpu-load room d [] = refl
cpu-load room d (c ∷ cs) = picked (counts_on d c) (cpu-load room d cs)
  where
    picked : (b : Bool) {n : ℕ} → (tally_at room d cs).cpu ≡ n →
        (pick b (with_vm (tally_at room d cs) (vm_of room (number_of c))) (tally_at room d cs)).cpu ≡ pick b (n + cpu_in room (number_of c)) n
    picked true e = rw e
    picked false e = e

-- ---- a moment under another: the same VMs, and what counts on d in the one counts there in the other

pub data Under (d : ℕ) : Moment → Moment → Type 0 where
  empty : Under d [] []
  both : {v p q : ℕ} {x y : Phase} {cs bs : Moment} → (counts_on d (cell v p x) ≡ true → counts_on d (cell v q y) ≡ true) →
      Under d cs bs → Under d (cell v p x ∷ cs) (cell v q y ∷ bs)

pub under-self : (d : ℕ) (cs : Moment) → Under d cs cs
under-self d [] = empty
under-self d (cell v p x ∷ cs) = both (λ e. e) (under-self d cs)

pub under-load : {d : ℕ} {cs bs : Moment} (f : ℕ → ℕ) → Under d cs bs → load f d cs ≤ load f d bs
unfolding load
under-load f empty = omega arith
under-load {d} f (both {v = v} {p} {q} {x} {y} g u) = picked (counts_on d (cell v p x)) (counts_on d (cell v q y)) g (under-load f u)
  where
    picked : (a b : Bool) {m n : ℕ} → (a ≡ true → b ≡ true) → m ≤ n → pick a (m + f v) m ≤ pick b (n + f v) n
    picked true true g h = omega arith
    picked true false g h = absurd (false≢true (g refl))
    picked false true g h = omega arith
    picked false false g h = h

-- a VM of a kind that counts on d counts there above
pub under_some : {d : ℕ} {cs bs : Moment} (q : ℕ → Bool) → Under d cs bs →
    some (λ c. q (number_of c) && counts_on d c) cs ≡ true → some (λ c. q (number_of c) && counts_on d c) bs ≡ true
unfolding some
under_some q empty e = e
under_some {d} q (both {v = v} {p = p} {q = r} {x = x} {y = y} g u) e =
    either (q v) (counts_on d (cell v p x)) (counts_on d (cell v r y)) g (under_some q u) e
  where
    either : (m a b : Bool) {s t : Bool} → (a ≡ true → b ≡ true) → (s ≡ true → t ≡ true) → (m && a || s) ≡ true → (m && b || t) ≡ true
    either false a b g h e = h e
    either true true b g h e = rw (g refl)
    either true false b g h e = rw (h e) (or-true b)

pub meets_under : {d : ℕ} {cs bs : Moment} (room : Room) (v : ℕ) → Under d cs bs → meets_mate room cs v d ≡ true → meets_mate room bs v d ≡ true
unfolding meets_mate
meets_under {d} {cs} {bs} room v u e = go (on_node d) e
  where
    go : (b : Bool) → pick b (some (λ c. mates room v (number_of c) && counts_on d c) cs) false ≡ true →
        pick b (some (λ c. mates room v (number_of c) && counts_on d c) bs) false ≡ true
    go true h = under_some (mates room v) u h
    go false h = h

-- ---- a moment onward from another: each VM's move as it was, or further

pub data Onward : Moment → Moment → Type 0 where
  none : Onward [] []
  same : {c : Cell} {ws cs : Moment} → Onward ws cs → Onward (c ∷ ws) (c ∷ cs)
  runs : {v p d : ℕ} {ws cs : Moment} → Onward ws cs → Onward (cell v p (waiting d) ∷ ws) (cell v p (running d) ∷ cs)
  over : {v p d : ℕ} {ws cs : Moment} → Onward ws cs → Onward (cell v p (waiting d) ∷ ws) (cell v p (ended d) ∷ cs)
  stops : {v p d : ℕ} {ws cs : Moment} → Onward ws cs → Onward (cell v p (running d) ∷ ws) (cell v p (ended d) ∷ cs)

-- every moment onward is under the one with every move running
pub under-busy : {ws cs : Moment} (d : ℕ) → Onward ws cs → Under d cs (all_running ws)
unfolding all_running begun counts_on
under-busy d none = empty
under-busy d (same {c = cell v p x} o) = both (counts x) (under-busy d o)
  where
    counts : (x : Phase) → counts_on d (cell v p x) ≡ true → counts_on d (cell v p (begun x)) ≡ true
    counts staying e = e
    counts (waiting to) e = or-first (eqb to d) e
    counts (running to) e = e
    counts (ended to) e = e
under-busy d (runs o) = both (λ e. e) (under-busy d o)
under-busy d (over {p = p} {d = to} o) = both (or-second (eqb p d)) (under-busy d o)
under-busy d (stops {p = p} {d = to} o) = both (or-second (eqb p d)) (under-busy d o)

-- ---- orders put together

unfoldable pub joined : {cs ds es : Moment} → Order cs ds → Order ds es → Order cs es
joined done p = p
joined (next e o) p = next e (joined o p)

pub behind : (c : Cell) {cs ds : Moment} → Order cs ds → Order (c ∷ cs) (c ∷ ds)
behind c done = done
behind c (next e o) = next (later e) (behind c o)

pub some-joined : (P : Moment → ℕ → ℕ → Type 0) {cs ds es : Moment} (o : Order cs ds) (p : Order ds es) → SomeBegin P p → SomeBegin P (joined o p)
unfolding joined
some-joined P done p s = s
some-joined P (next {a = begin v d} e o) p s = inr (some-joined P o p s)
some-joined P (next {a = finish v} e o) p s = some-joined P o p s

-- every move begins
run-cell : {cs : Moment} (v p : ℕ) (x : Phase) → Order (cell v p x ∷ cs) (cell v p (begun x) ∷ cs)
unfolding begun
run-cell v p staying = done
run-cell v p (waiting d) = next begins done
run-cell v p (running d) = done
run-cell v p (ended d) = done

pub run-all : (ws : Moment) → Order ws (all_running ws)
unfolding all_running
run-all [] = done
run-all (cell v p x ∷ ws) = joined (run-cell v p x) (behind (cell v p (begun x)) (run-all ws))

-- ---- events lead onward

pub onward_self : (ws : Moment) → Onward ws ws
onward_self [] = none
onward_self (c ∷ ws) = same (onward_self ws)

pub onward-event : {ws cs ds : Moment} {a : Act} → Onward ws cs → Event cs a ds → Onward ws ds
onward-event (same o) begins = runs o
onward-event (same o) ends = stops o
onward-event (same o) (later e) = same (onward-event o e)
onward-event (runs o) ends = over o
onward-event (runs o) (later e) = runs (onward-event o e)
onward-event (over o) (later e) = over (onward-event o e)
onward-event (stops o) (later e) = stops (onward-event o e)
onward-event {ds = ds} {a = a} none x4 = elim x4 [ ]

pub onward-order : {ws cs ds : Moment} → Onward ws cs → Order cs ds → Onward ws ds
onward-order w done = w
onward-order w (next e o) = onward-order (onward-event w e) o

-- ---- moves that go elsewhere

-- a move's destination is not its VM's place
unfoldable pub travels : Cell → Bool
travels (cell v p staying) = true
travels (cell v p (waiting to)) = not (eqb to p)
travels (cell v p (running to)) = not (eqb to p)
travels (cell v p (ended to)) = not (eqb to p)

pub travels-onward : {ws cs : Moment} → Onward ws cs → all travels ws ≡ true → all travels cs ≡ true
unfolding all travels
travels-onward none e = e
travels-onward (same {c = c} {ws = ws} o) e = and_both (and_left (travels c) (all travels ws) e) (travels-onward o (and_right (travels c) (all travels ws) e))
travels-onward (runs {p = p} {d = d} {ws = ws} o) e = and_both (and_left (not (eqb d p)) (all travels ws) e) (travels-onward o (and_right (not (eqb d p)) (all travels ws) e))
travels-onward (over {p = p} {d = d} {ws = ws} o) e = and_both (and_left (not (eqb d p)) (all travels ws) e) (travels-onward o (and_right (not (eqb d p)) (all travels ws) e))
travels-onward (stops {p = p} {d = d} {ws = ws} o) e = and_both (and_left (not (eqb d p)) (all travels ws) e) (travels-onward o (and_right (not (eqb d p)) (all travels ws) e))

-- the moves of a step without fault 15 do
pub travels-phase : (room : Room) (places : Placement) (least : ℕ) (step : Step) (v : ℕ) → named room places least step ≡ true →
    travels (cell v (place_of places v) (phase_of step v)) ≡ true
unfolding named phase_of travels
travels-phase room places least [] v e = refl
travels-phase room places least (move ∷ moves) v e =
    go (eqb move.vm v) refl (travels-phase room places (suc move.vm) moves v (named-rest room places least move moves e))
  where
    go : (b : Bool) → eqb move.vm v ≡ b → travels (cell v (place_of places v) (phase_of moves v)) ≡ true →
        travels (cell v (place_of places v) (pick b (waiting move.to) (phase_of moves v))) ≡ true
    go true h t = rw (← eqb-true move.vm v h) (named-off room places least move moves e)
    go false h t = t

pub travels-first : (room : Room) (places : Placement) (least : ℕ) (step : Step) → named room places least step ≡ true → (v n : ℕ) →
    all travels (cells_from places step v n) ≡ true
unfolding cells_from all
travels-first room places least step e v zero = refl
travels-first room places least step e v (suc n) = and_both (travels-phase room places least step v e) (travels-first room places least step e (suc v) n)

-- a move that begins adds its VM to its destination
pub begin-load : {cs ds : Moment} {v d : ℕ} (f : ℕ → ℕ) → Event cs (begin v d) ds → all travels cs ≡ true → load f d cs + f v ≡ load f d ds
unfolding load counts_on all travels
begin-load f (begins {v = v} {place = p} {to = d} {cs = cs}) t =
    let g = eqb-false d p (not-true (eqb d p) (and_left (not (eqb d p)) (all travels cs) t)) in
    simp (ne_eqb p d (λ e. g (sym e)), eq-eqb d d refl)
begin-load {v = v} {d = d} f (later {c = c} {cs = cs} e) t =
    picked (counts_on d c) (load f d cs) (begin-load f e (and_right (travels c) (all travels cs) t))
  where
    picked : (b : Bool) (m : ℕ) {n : ℕ} → m + f v ≡ n → pick b (m + f (number_of c)) m + f v ≡ pick b (n + f (number_of c)) n
    picked true m e = omega arith
    picked false m e = e

-- and changes no other VM
pub begin-some : {cs ds : Moment} {v d : ℕ} (q : ℕ → Bool) → q v ≡ false → Event cs (begin v d) ds →
    some (λ c. q (number_of c) && counts_on d c) cs ≡ some (λ c. q (number_of c) && counts_on d c) ds
unfolding some
begin-some q e begins = simp e
begin-some {d = d} q e (later {c = c} ev) = ap (λ (b : Bool). q (number_of c) && counts_on d c || b) (begin-some q e ev)

-- ---- what the tests with every move running say of a begin

begin-tally : {cs ds : Moment} {v d : ℕ} (room : Room) → Event cs (begin v d) ds → all travels cs ≡ true →
    with_vm (tally_at room d cs) (vm_of room v) ≡ tally_at room d ds
begin-tally {cs} {ds} {v} {d} room e t i = record {
  memory = (ap (λ (n : ℕ). n + memory_in room v) (memory-load room d cs) ∙ begin-load (memory_in room) e t ∙ sym (memory-load room d ds)) i;
  cpu = (ap (λ (n : ℕ). n + cpu_in room v) (cpu-load room d cs) ∙ begin-load (cpu_in room) e t ∙ sym (cpu-load room d ds)) i;
}

-- a VM fits when it begins if its destination bears the tally behind its begin for it
pub begin-fits : {cs ds : Moment} {v d : ℕ} (room : Room) → Event cs (begin v d) ds → all travels cs ≡ true →
    fits room cs v d ≡ bears_at room d (tally_at room d ds) (vm_of room v)
unfolding fits
begin-fits {v = v} {d = d} room e t = ap (λ (x : Tally). bears_at room d x (vm_of room v)) (begin-tally room e t)

pub not-own-mate : (room : Room) (v : ℕ) → mates room v v ≡ false
unfolding mates
not-own-mate room v = simp (eq-eqb v v refl)

pub begin-meets : {cs ds : Moment} {v d : ℕ} (room : Room) → Event cs (begin v d) ds → meets_mate room cs v d ≡ meets_mate room ds v d
unfolding meets_mate
begin-meets {v = v} {d = d} room e = ap (λ (b : Bool). pick (on_node d) b false) (begin-some (mates room v) (not-own-mate room v) e)

-- where less counts, what is borne stays borne
pub bears-under : {d : ℕ} {cs bs : Moment} (room : Room) (vm : Vm) → Under d cs bs →
    bears_at room d (tally_at room d bs) vm ≡ true → bears_at room d (tally_at room d cs) vm ≡ true
bears-under {d} {cs} {bs} room vm u e =
    bears-less room d (tally_at room d cs) (tally_at room d bs) vm
    (omega (arith, memory-load room d cs, memory-load room d bs, under-load (memory_in room) u))
    (omega (arith, cpu-load room d cs, cpu-load room d bs, under-load (cpu_in room) u)) e

-- ---- a begin of an order is a move of the step

-- v's move to d waits in the moment
abbrev pub Waits : ℕ → ℕ → Moment → Type 0
Waits v d [] = ⊥
Waits v d (cell w p x ∷ cs) = ((w ≡ v) × (x ≡ waiting d)) ⊎ Waits v d cs

pub begin-waits : {ws cs ds : Moment} {v d : ℕ} → Onward ws cs → Event cs (begin v d) ds → Waits v d ws
begin-waits (same o) begins = inl (refl, refl)
begin-waits (same {c = cell w p x} o) (later e) = inr (begin-waits o e)
begin-waits (runs o) (later e) = inr (begin-waits o e)
begin-waits (over o) (later e) = inr (begin-waits o e)
begin-waits (stops o) (later e) = inr (begin-waits o e)
begin-waits {ds = ds} {v = v} {d = d} none x4 = elim x4 [ ]

pub waits-phase : (places : Placement) (step : Step) (k n v d : ℕ) → Waits v d (cells_from places step k n) → phase_of step v ≡ waiting d
unfolding cells_from
waits-phase places step k zero v d w = absurd w
waits-phase places step k (suc n) v d (inl h) = rw (← h.0) h.1
waits-phase places step k (suc n) v d (inr w) = waits-phase places step (suc k) n v d w

pub phase-waits : (places : Placement) (step : Step) (v d : ℕ) → phase_of step v ≡ waiting d → (k n : ℕ) → k ≤ v → v < k + n →
    Waits v d (cells_from places step k n)
unfolding cells_from
phase-waits places step v d e k zero l h = absurd (omega arith)
phase-waits places step v d e k (suc n) l h = go (eqb k v) refl (λ m. phase-waits places step v d e (suc k) n m (omega arith))
  where
    go : (b : Bool) → eqb k v ≡ b → (suc k ≤ v → Waits v d (cells_from places step (suc k) n)) →
        Waits v d (cell k (place_of places k) (phase_of step k) ∷ cells_from places step (suc k) n)
    go true t more = let q = eqb-true k v t in inl (q, ap (phase_of step) q ∙ e)
    go false t more = let q = eqb-false k v t in inr (more (omega arith))

-- what holds of each move holds of the one whose phase waits
pub phase-all : (q : ℕ → ℕ → Bool) (step : Step) (v d : ℕ) → all (λ move. q move.vm move.to) step ≡ true → phase_of step v ≡ waiting d → q v d ≡ true
unfolding phase_of
phase-all q [] v d a e = never (cc)
phase-all q (move ∷ moves) v d a e = go (eqb move.vm v) refl e (phase-all q moves v d (all_tail (λ m. q m.vm m.to) move moves a))
  where
    go : (b : Bool) → eqb move.vm v ≡ b → pick b (waiting move.to) (phase_of moves v) ≡ waiting d →
        (phase_of moves v ≡ waiting d → q v d ≡ true) → q v d ≡ true
    go true t e h =
        let f : move.to ≡ d = cc in
        rw (← eqb-true move.vm v t, ← f) (all_head (λ m. q m.vm m.to) move moves a)
    go false t e h = h e

pub each-begin : (P : Moment → ℕ → ℕ → Type 0) (ws : Moment) →
    ((cs ds : Moment) (v d : ℕ) → Onward ws cs → Event cs (begin v d) ds → P cs v d) → {cs ds : Moment} → Onward ws cs → (o : Order cs ds) → EachBegin P o
each-begin P ws h w done = tt
each-begin P ws h w (next {cs = cs} {ds = ds} {a = begin v d} e o) = (h cs ds v d w e, each-begin P ws h (onward-event w e) o)
each-begin P ws h w (next {a = finish v} e o) = each-begin P ws h (onward-event w e) o

module _ (room : Room) (places : Placement) (step : Step) where
  step-begin : (q : ℕ → ℕ → Bool) → all (λ move. q move.vm move.to) step ≡ true → {cs ds : Moment} {v d : ℕ} → Onward (first_moment room places step) cs →
      Event cs (begin v d) ds → q v d ≡ true
  unfolding first_moment
  step-begin q a {v = v} {d = d} w e = phase-all q step v d a (waits-phase places step 0 (length room.vms) v d (begin-waits w e))

  -- 16: in every order every destination is allowed
  pub begins-allowed : permitted room step ≡ true → {end : Moment} (o : Order (first_moment room places step) end) →
      EachBegin (λ cs v d. allowed room v d ≡ true) o
  unfolding permitted
  begins-allowed p o =
      each-begin (λ cs v d. allowed room v d ≡ true) (first_moment room places step)
      (λ cs ds v d. step-begin (allowed room) p) (onward_self (first_moment room places step)) o

  -- the first moment's moves go elsewhere
  pub first-travels : named room places 0 step ≡ true → all travels (first_moment room places step) ≡ true
  unfolding first_moment
  first-travels n = travels-first room places 0 step n 0 (length room.vms)

  -- at every moment a node holds no more, and no other mate, than with every move running
  pub order-under : {cs : Moment} → Order (first_moment room places step) cs → (d : ℕ) → Under d cs (all_running (first_moment room places step))
  order-under o d = under-busy d (onward-order (onward_self (first_moment room places step)) o)

  pub order-load : {cs : Moment} → Order (first_moment room places step) cs → (f : ℕ → ℕ) (d : ℕ) →
      load f d cs ≤ load f d (all_running (first_moment room places step))
  order-load o f d = under-load f (order-under o d)

  pub order-meets : {cs : Moment} → Order (first_moment room places step) cs → (v d : ℕ) →
      meets_mate room cs v d ≡ true → meets_mate room (all_running (first_moment room places step)) v d ≡ true
  order-meets o v d e = meets_under room v (order-under o d) e

  -- 17: in every order every VM fits when it begins
  pub begins-fit : named room places 0 step ≡ true → fitting room places step ≡ true → {end : Moment}
      (o : Order (first_moment room places step) end) → EachBegin (λ cs v d. fits room cs v d ≡ true) o
  unfolding fitting
  begins-fit n p o = each-begin (λ cs v d. fits room cs v d ≡ true) first fit (onward_self first) o
    where
      first : Moment
      first = first_moment room places step

      fit : (cs ds : Moment) (v d : ℕ) → Onward first cs → Event cs (begin v d) ds → fits room cs v d ≡ true
      fit cs ds v d w e =
          begin-fits room e (travels-onward w (first-travels n)) ∙
          bears-under room (vm_of room v) (under-busy d (onward-event w e))
          (step-begin (λ v d. bears_at room d (tally_at room d (all_running first)) (vm_of room v)) p w e)

  -- 18: in every order no VM meets a mate when it begins
  pub begins-apart : unmet room places step ≡ true → {end : Moment} (o : Order (first_moment room places step) end) →
      EachBegin (λ cs v d. meets_mate room cs v d ≡ false) o
  unfolding unmet
  begins-apart p o = each-begin (λ cs v d. meets_mate room cs v d ≡ false) first apart (onward_self first) o
    where
      first : Moment
      first = first_moment room places step

      apart : (cs ds : Moment) (v d : ℕ) → Onward first cs → Event cs (begin v d) ds → meets_mate room cs v d ≡ false
      apart cs ds v d w e = go (meets_mate room cs v d) refl
        where
          busy : meets_mate room (all_running first) v d ≡ false
          busy = not-true (meets_mate room (all_running first) v d)
              (step-begin (λ v d. not (meets_mate room (all_running first) v d)) p w e)

          go : (b : Bool) → meets_mate room cs v d ≡ b → b ≡ false
          go false t = refl
          go true t = sym (meets_under room v (under-busy d w) t) ∙ busy

-- ---- all moves over

-- every move over
unfoldable pub over_at : Phase → Phase
over_at staying = staying
over_at (waiting d) = ended d
over_at (running d) = ended d
over_at (ended d) = ended d

unfoldable pub all_over : Moment → Moment
all_over [] = []
all_over (cell v p x ∷ cs) = cell v p (over_at x) ∷ all_over cs

end-cell : {cs : Moment} (v p : ℕ) (x : Phase) → Order (cell v p (begun x) ∷ cs) (cell v p (over_at x) ∷ cs)
unfolding begun over_at
end-cell v p staying = done
end-cell v p (waiting d) = next ends done
end-cell v p (running d) = next ends done
end-cell v p (ended d) = done

pub end-all : (ws : Moment) → Order (all_running ws) (all_over ws)
unfolding all_running all_over
end-all [] = done
end-all (cell v p x ∷ ws) = joined (end-cell v p x) (behind (cell v p (over_at x)) (end-all ws))

pub over-settled : (ws : Moment) → settled (all_over ws) ≡ true
unfolding settled all all_over rests over_at
over-settled [] = refl
over-settled (cell v p x ∷ ws) = and_both (over-rests x) (over-settled ws)
  where
    over-rests : (x : Phase) → rests (cell v p (over_at x)) ≡ true
    over-rests staying = refl
    over-rests (waiting d) = refl
    over-rests (running d) = refl
    over-rests (ended d) = refl

-- a waiting move begins last: at a moment from which its begin leads to every move running
pub record Last (ws : Moment) (v d : ℕ) : Type 0 where
  pub before : Moment
  pub order : Order ws before
  pub event : Event before (begin v d) (all_running ws)

pub begin-last : (ws : Moment) (v d : ℕ) → Waits v d ws → Last ws v d
unfolding all_running begun
begin-last [] v d w = absurd w
begin-last (cell u p x ∷ ws) v d (inl h) = rw (h.0, h.1) (record {
  before = cell v p (waiting d) ∷ all_running ws;
  order = behind (cell v p (waiting d)) (run-all ws);
  event = begins;
})
begin-last (cell u p x ∷ ws) v d (inr w) =
    let l = begin-last ws v d w in
    record {
      before = cell u p (begun x) ∷ l.before;
      order = joined (run-cell u p x) (behind (cell u p (begun x)) l.order);
      event = later l.event;
    }

-- ---- a failed test shows an order

-- a move that fails a test
pub record Failing (room : Room) (step : Step) (least : ℕ) (q : ℕ → ℕ → Bool) : Type 0 where
  pub vm : ℕ
  pub to : ℕ
  pub waits : phase_of step vm ≡ waiting to
  pub least-is : least ≤ vm
  pub there : vm < length room.vms
  pub fails : q vm to ≡ false

pub failing : (room : Room) (places : Placement) (least : ℕ) (step : Step) (q : ℕ → ℕ → Bool) →
    named room places least step ≡ true → all (λ move. q move.vm move.to) step ≡ false → Failing room step least q
unfolding all phase_of
failing room places least [] q n a = absurd (false≢true (sym a))
failing room places least (move ∷ moves) q n a =
    go (q move.vm move.to) refl a (failing room places (suc move.vm) moves q (named-rest room places least move moves n))
  where
    go : (b : Bool) → q move.vm move.to ≡ b → (b && all (λ m. q m.vm m.to) moves) ≡ false →
        (all (λ m. q m.vm m.to) moves ≡ false → Failing room moves (suc move.vm) q) → Failing room (move ∷ moves) least q
    go false t a more = record {
      vm = move.vm;
      to = move.to;
      waits = rw (eq-eqb move.vm move.vm refl) refl;
      least-is = named-least room places least move moves n;
      there = named-vm room places least move moves n;
      fails = t;
    }
    go true t a more =
        let f = more a in
        let l = named-least room places least move moves n in
        let m : move.vm ≡ f.vm → ⊥ = λ e. omega (arith, f.least-is) in
        record {
          vm = f.vm;
          to = f.to;
          waits = rw (ne_eqb move.vm f.vm m) f.waits;
          least-is = omega (arith, f.least-is);
          there = f.there;
          fails = f.fails;
        }

-- each move of a step without fault 15 waits at first
pub phase-at : (room : Room) (places : Placement) (least : ℕ) (step : Step) (i : ℕ) → named room places least step ≡ true → i < length step →
    (phase_of step (move_of step i).vm ≡ waiting (move_of step i).to) × (least ≤ (move_of step i).vm) × ((move_of step i).vm < length room.vms)
unfolding phase_of move_of
phase-at room places least [] i n h = absurd (omega arith)
phase-at room places least (move ∷ moves) zero n h =
    (rw (eq-eqb move.vm move.vm refl) refl, named-least room places least move moves n, named-vm room places least move moves n)
phase-at room places least (move ∷ moves) (suc i) n h =
    let l = named-least room places least move moves n in
    let r = phase-at room places (suc move.vm) moves i (named-rest room places least move moves n) (omega arith) in
    let b = r.1 in
    let m : move.vm ≡ (move_of moves i).vm → ⊥ = λ e. omega arith in
    (rw (ne_eqb move.vm (move_of moves i).vm m) r.0, omega arith, r.2)

module _ (room : Room) (places : Placement) (step : Step) where
  -- every step has an order
  pub some-order : (end : Moment) × Order (first_moment room places step) end × (settled end ≡ true)
  some-order = (all_over first, joined (run-all first) (end-all first), over-settled first)
    where
      first : Moment
      first = first_moment room places step

  -- any move of it can begin last
  pub last-begin : (v d : ℕ) → phase_of step v ≡ waiting d → v < length room.vms → Last (first_moment room places step) v d
  unfolding first_moment
  last-begin v d e h =
      begin-last (cells_from places step 0 (length room.vms)) v d
      (phase-waits places step v d e 0 (length room.vms) (omega arith) (omega arith))

  pub last-move : (i : ℕ) → named room places 0 step ≡ true → i < length step → Last (first_moment room places step) (move_of step i).vm (move_of step i).to
  last-move i n h =
      let w = phase-at room places 0 step i n h in
      last-begin (move_of step i).vm (move_of step i).to w.0 w.2

  pub some-last : (P : Moment → ℕ → ℕ → Type 0) (v d : ℕ) (l : Last (first_moment room places step) v d) → P l.before v d → SomeOrder room places step P
  some-last P v d l p = record {
    end = all_over first;
    order = joined l.order (next l.event (end-all first));
    whole = over-settled first;
    begin = some-joined P l.order (next l.event (end-all first)) (inl p);
  }
    where
      first : Moment
      first = first_moment room places step

  -- its begin fits, or meets a mate, as with every move running
  pub last_fits : named room places 0 step ≡ true → (v d : ℕ) (l : Last (first_moment room places step) v d) →
      fits room l.before v d ≡ bears_at room d (tally_at room d (all_running (first_moment room places step))) (vm_of room v)
  last_fits n v d l =
      begin-fits room l.event
      (travels-onward (onward-order (onward_self (first_moment room places step)) l.order) (first-travels room places step n))

  pub last_meets : (v d : ℕ) (l : Last (first_moment room places step) v d) →
      meets_mate room l.before v d ≡ meets_mate room (all_running (first_moment room places step)) v d
  last_meets v d l = begin-meets room l.event

  module _ (n : named room places 0 step ≡ true) where
    pub some-forbidden : permitted room step ≡ false → SomeOrder room places step (λ cs v d. allowed room v d ≡ false)
    unfolding permitted
    some-forbidden p =
        let f = failing room places 0 step (allowed room) n p in
        some-last (λ cs v d. allowed room v d ≡ false) f.vm f.to (last-begin f.vm f.to f.waits f.there) f.fails

    pub some-misfit : fitting room places step ≡ false → SomeOrder room places step (λ cs v d. fits room cs v d ≡ false)
    unfolding fitting
    some-misfit p =
        let f = failing room places 0 step (λ v d. bears_at room d (tally_at room d (all_running (first_moment room places step))) (vm_of room v)) n p in
        let l = last-begin f.vm f.to f.waits f.there in
        some-last (λ cs v d. fits room cs v d ≡ false) f.vm f.to l (last_fits n f.vm f.to l ∙ f.fails)

    pub some-mate : unmet room places step ≡ false → SomeOrder room places step (λ cs v d. meets_mate room cs v d ≡ true)
    unfolding unmet
    some-mate p =
        let f = failing room places 0 step (λ v d. not (meets_mate room (all_running (first_moment room places step)) v d)) n p in
        let l = last-begin f.vm f.to f.waits f.there in
        some-last (λ cs v d. meets_mate room cs v d ≡ true) f.vm f.to l
        (last_meets f.vm f.to l ∙ not-false (meets_mate room (all_running (first_moment room places step)) f.vm f.to) f.fails)

-- ---- the placement that an order leaves

-- where a VM is once its move is over
unfoldable pub goal : ℕ → Phase → ℕ
goal p staying = p
goal p (waiting d) = d
goal p (running d) = d
goal p (ended d) = d

unfoldable pub goal_of : Cell → ℕ
goal_of (cell v p x) = goal p x

pub settled-left : {ws cs : Moment} → Onward ws cs → settled cs ≡ true → places_left cs ≡ map goal_of ws
unfolding settled all rests places_left left_at goal goal_of
settled-left none e = refl
settled-left (same {c = cell v p x} {cs = cs} o) e =
    ap₂ ◌∷◌ (rest x (and_left (rests (cell v p x)) (all rests cs) e)) (settled-left o (and_right (rests (cell v p x)) (all rests cs) e))
  where
    rest : (x : Phase) → rests (cell v p x) ≡ true → left_at (cell v p x) ≡ goal p x
    rest staying e = refl
    rest (waiting d) e = absurd (false≢true e)
    rest (running d) e = absurd (false≢true e)
    rest (ended d) e = refl
settled-left (runs o) e = absurd (false≢true e)
settled-left (over {d = d} o) e = ap (λ (l : List ℕ). d ∷ l) (settled-left o e)
settled-left (stops {d = d} o) e = ap (λ (l : List ℕ). d ∷ l) (settled-left o e)

pub cells_at : (g : Cell → ℕ) (places : Placement) (step : Step) (v n i : ℕ) → i < n →
    get_or (map g (cells_from places step v n)) i 0 ≡ g (cell (v + i) (place_of places (v + i)) (phase_of step (v + i)))
unfolding cells_from
cells_at g places step v zero i h = absurd (omega arith)
cells_at g places step v (suc n) zero h = let e : v + zero ≡ v = omega arith in rw e
cells_at g places step v (suc n) (suc i) h = let e : v + suc i ≡ suc v + i = omega arith in rw e (cells_at g places step (suc v) n i (omega arith))

pub cells-length : (places : Placement) (step : Step) (v n : ℕ) → length (cells_from places step v n) ≡ n
unfolding cells_from
cells-length places step v zero = refl
cells-length places step v (suc n) = ap suc (cells-length places step (suc v) n)

pub after-length : (places : Placement) (step : Step) → length (after places step) ≡ length places
unfolding after
after-length places [] = refl
after-length places (move ∷ moves) = after-length (set places move.vm move.to) moves ∙ length-set places move.vm move.to

-- a VM below the least that a step may move stays
after-below : (room : Room) (start places : Placement) (least : ℕ) (step : Step) (v : ℕ) → named room start least step ≡ true → v < least →
    place_of (after places step) v ≡ place_of places v
unfolding after
after-below room start places least [] v n h = refl
after-below room start places least (move ∷ moves) v n h =
    let l = named-least room start least move moves n in
    let m : v ≡ move.vm → ⊥ = λ e. omega arith in
    after-below room start (set places move.vm move.to) (suc move.vm) moves v (named-rest room start least move moves n) (omega arith) ∙
    get_or-set_other places move.vm v move.to 0 m

pub after-goal : (room : Room) (start places : Placement) (least : ℕ) (step : Step) (v : ℕ) → named room start least step ≡ true →
    length places ≡ length room.vms → place_of (after places step) v ≡ goal (place_of places v) (phase_of step v)
unfolding after phase_of goal
after-goal room start places least [] v n l = refl
after-goal room start places least (move ∷ moves) v n l =
    go (eqb move.vm v) refl (after-goal room start (set places move.vm move.to) (suc move.vm) moves v rest (length-set places move.vm move.to ∙ l))
  where
    rest : named room start (suc move.vm) moves ≡ true
    rest = named-rest room start least move moves n

    go : (b : Bool) → eqb move.vm v ≡ b →
        place_of (after (set places move.vm move.to) moves) v ≡ goal (place_of (set places move.vm move.to) v) (phase_of moves v) →
        place_of (after (set places move.vm move.to) moves) v ≡ goal (place_of places v) (pick b (waiting move.to) (phase_of moves v))
    go true t h =
        let e = eqb-true move.vm v t in
        let u = named-vm room start least move moves n in
        let k : v < length places = omega arith in
        after-below room start (set places move.vm move.to) (suc move.vm) moves v rest (omega arith) ∙
        rw e (get_or-set_same places v move.to 0 k)
    go false t h =
        let m : v ≡ move.vm → ⊥ = λ e. eqb-false move.vm v t (sym e) in
        h ∙ ap (λ (p : ℕ). goal p (phase_of moves v)) (get_or-set_other places move.vm v move.to 0 m)

-- an order leaves its VMs where the step says
module _ (room : Room) (places : Placement) (step : Step) (n : named room places 0 step ≡ true) (l : length places ≡ length room.vms) where
  goals-after : map goal_of (first_moment room places step) ≡ after places step
  unfolding first_moment goal_of
  goals-after = ext_get_or 0 (map goal_of (cells_from places step 0 (length room.vms))) (after places step) long at_each
    where
      count : length (map goal_of (cells_from places step 0 (length room.vms))) ≡ length room.vms
      count = length-map (cells_from places step 0 (length room.vms)) goal_of ∙ cells-length places step 0 (length room.vms)

      long : length (map goal_of (cells_from places step 0 (length room.vms))) ≡ length (after places step)
      long = count ∙ sym l ∙ sym (after-length places step)

      at_each : (i : ℕ) → i < length (map goal_of (cells_from places step 0 (length room.vms))) →
          get_or (map goal_of (cells_from places step 0 (length room.vms))) i 0 ≡ get_or (after places step) i 0
      at_each i h =
          let e : 0 + i ≡ i = omega arith in
          rw e at (cells_at goal_of places step 0 (length room.vms) i (omega (arith, count))) ∙
          sym (after-goal room places places 0 step i n l)

  pub order-leaves : {end : Moment} → Order (first_moment room places step) end → settled end ≡ true → places_left end ≡ after places step
  order-leaves o s = settled-left (onward-order (onward_self (first_moment room places step)) o) s ∙ goals-after
