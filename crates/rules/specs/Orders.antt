-- Events, orders and runs, and what is claimed of them (01, "When a step is sound").
use Rattle.std.specs.Prelude.{ℕ, Bool, true, false, not, ◌&&◌, ◌||◌, List, [], ◌∷◌, ◌⊎◌, ◌≡◌, eqb}
use Rattle.records.specs.Base.{pick}
use Rattle.records.specs.Room.{Constraint, ban, fence, spread, latency, before, has, Room, vm_of, on_node}
use Rattle.records.specs.Plan.{Step}
use Rattle.rules.specs.Moments.{Placement, staying, waiting, running, ended, Cell, cell, Moment, number_of, counts_on, bears_at, with_vm, tally_at, first_moment, at_rest, settled, places_left}

-- ---- what happens in a step

-- a move begins (its VM and destination), or ends (its VM)
pub data Act : Type 0 where
  begin : ℕ → ℕ → Act
  finish : ℕ → Act

-- an event turns one waiting cell into a running one, or one running cell into an ended one
pub data Event : Moment → Act → Moment → Type 0 where
  begins : {v place to : ℕ} {cs : Moment} → Event (cell v place (waiting to) ∷ cs) (begin v to) (cell v place (running to) ∷ cs)
  ends : {v place to : ℕ} {cs : Moment} → Event (cell v place (running to) ∷ cs) (finish v) (cell v place (ended to) ∷ cs)
  later : {c : Cell} {cs ds : Moment} {a : Act} → Event cs a ds → Event (c ∷ cs) a (c ∷ ds)

-- a chain of events. An order of a step is one from its first moment to a settled one; nothing else is asked, so none is left out
pub data Order : Moment → Moment → Type 0 where
  done : {cs : Moment} → Order cs cs
  next : {cs ds es : Moment} {a : Act} → Event cs a ds → Order ds es → Order cs es

-- a run: one order after another, the second starting where the first ended, and so on
pub data Run (room : Room) : Placement → List Step → Placement → Type 0 where
  stop : {places : Placement} → Run room places [] places
  step : {places last : Placement} {moves : Step} {steps : List Step} {end : Moment} →
      Order (first_moment room places moves) end → settled end ≡ true → Run room (places_left end) steps last →
      Run room places (moves ∷ steps) last

-- ---- when a move may begin

-- the VM fits: its destination bears the tally at this moment, the VM added, for it
unfoldable pub fits : Room → Moment → ℕ → ℕ → Bool
fits room cs v d = bears_at room d (with_vm (tally_at room d cs) (vm_of room v)) (vm_of room v)

-- two VMs are mates if some spread names both
unfoldable pub spreads : ℕ → ℕ → Constraint → Bool
spreads v w (ban vms nodes) = false
spreads v w (fence vms nodes) = false
spreads v w (spread vms) = has vms v && has vms w
spreads v w (latency vms groups) = false
spreads v w (before first second) = false

unfoldable pub some : {A : Type 0} → (A → Bool) → List A → Bool
some p [] = false
some p (x ∷ xs) = p x || some p xs

unfoldable pub mates : Room → ℕ → ℕ → Bool
mates room v w = not (eqb v w) && some (spreads v w) room.constraints

-- the destination is a node, and a mate of the VM counts there: on no node nobody is met (02, Job 2)
unfoldable pub meets_mate : Room → Moment → ℕ → ℕ → Bool
meets_mate room cs v d = pick (on_node d) (some (λ c. mates room v (number_of c) && counts_on d c) cs) false

-- VM v counts on a place at a moment
unfoldable pub stands_on : Moment → ℕ → ℕ → Bool
stands_on cs v d = some (λ c. eqb (number_of c) v && counts_on d c) cs

-- VM v's move is under way at a moment; VM v is at rest on a place at a moment, with no move in the step
unfoldable pub is_running : Cell → Bool
is_running (cell v place staying) = false
is_running (cell v place (waiting to)) = false
is_running (cell v place (running to)) = true
is_running (cell v place (ended to)) = false

unfoldable pub runs_at : Moment → ℕ → Bool
runs_at cs v = some (λ c. eqb (number_of c) v && is_running c) cs

unfoldable pub stays_on : ℕ → Cell → Bool
stays_on d (cell v place staying) = eqb place d
stays_on d (cell v place (waiting to)) = false
stays_on d (cell v place (running to)) = false
stays_on d (cell v place (ended to)) = false

unfoldable pub rests_on : Moment → ℕ → ℕ → Bool
rests_on cs v d = some (λ c. eqb (number_of c) v && stays_on d c) cs

-- two VMs share no node: there is none on which both count
abbrev pub Apart : ℕ → ℕ → Moment → Type 0
Apart v w cs = (d : ℕ) → on_node d ≡ true → stands_on cs v d ≡ true → stands_on cs w d ≡ true → ⊥

-- ---- claims over all begins and all moments

-- P holds of each begin of an order: of the moment at which it begins, its VM and its destination
abbrev pub EachBegin : (P : Moment → ℕ → ℕ → Type 0) {cs ds : Moment} → Order cs ds → Type 0
EachBegin P done = Unit
EachBegin P (next {cs = cs} {a = begin v d} e o) = P cs v d × EachBegin P o
EachBegin P (next {a = finish v} e o) = EachBegin P o

-- some begin of an order has P
abbrev pub SomeBegin : (P : Moment → ℕ → ℕ → Type 0) {cs ds : Moment} → Order cs ds → Type 0
SomeBegin P done = ⊥
SomeBegin P (next {cs = cs} {a = begin v d} e o) = P cs v d ⊎ SomeBegin P o
SomeBegin P (next {a = finish v} e o) = SomeBegin P o

-- Q holds at each moment of an order, first and last included
abbrev pub EachMoment : (Q : Moment → Type 0) {cs ds : Moment} → Order cs ds → Type 0
EachMoment Q (done {cs = cs}) = Q cs
EachMoment Q (next {cs = cs} e o) = Q cs × EachMoment Q o

-- R holds between each moment of an order and the next
abbrev pub EachChange : (R : Moment → Moment → Type 0) {cs ds : Moment} → Order cs ds → Type 0
EachChange R done = Unit
EachChange R (next {cs = cs} {ds = ds} e o) = R cs ds × EachChange R o

-- the same over a whole run. Between two steps all VMs are at rest; a run with no steps has that moment alone
abbrev pub EachBeginOfRun : (P : Moment → ℕ → ℕ → Type 0) {room : Room} {places last : Placement} {steps : List Step} → Run room places steps last → Type 0
EachBeginOfRun P stop = Unit
EachBeginOfRun P (step o s r) = EachBegin P o × EachBeginOfRun P r

-- P holds of each step of a run: of the placement from which the run starts it, and its moves
abbrev pub EachStepOfRun : (P : Placement → Step → Type 0) {room : Room} {places last : Placement} {steps : List Step} → Run room places steps last → Type 0
EachStepOfRun P stop = Unit
EachStepOfRun P (step {places = places} {moves = moves} o s r) = P places moves × EachStepOfRun P r

abbrev pub EachMomentOfRun : (Q : Moment → Type 0) {room : Room} {places last : Placement} {steps : List Step} → Run room places steps last → Type 0
EachMomentOfRun Q {room = room} (stop {places = places}) = Q (at_rest room places)
EachMomentOfRun Q (step o s r) = EachMoment Q o × EachMomentOfRun Q r

abbrev pub EachChangeOfRun : (R : Moment → Moment → Type 0) {room : Room} {places last : Placement} {steps : List Step} → Run room places steps last → Type 0
EachChangeOfRun R stop = Unit
EachChangeOfRun R {room = room} (step {places = places} {moves = moves} {end = end} o s r) =
    R (at_rest room places) (first_moment room places moves) × EachChange R o × R end (at_rest room (places_left end)) × EachChangeOfRun R r

-- a move may begin: it fits, and meets no mate; so to no node it always may (whether it is its turn is asked of the step: Rules, inTurn)
pub record MayBegin (room : Room) (cs : Moment) (v d : ℕ) : Type 0 where
  pub fit : fits room cs v d ≡ true
  pub apart : meets_mate room cs v d ≡ false
