-- Laws on a move added at the end of a step: with every move running it changes what its destination holds, and nothing else; so a sound
-- step stays sound exactly if the new move passes its own test.
use Prim.Native.Nat.{ℕ, zero, suc, ◌+◌, ◌≤◌, ◌<◌}
use mathlib.Core.Bool.{Bool, true, false, not, ◌&&◌, ◌||◌, or_assoc, or-true, or-false, and_comm, and-true, false≢true}
use mathlib.Core.List.{List, [], ◌∷◌, ◌++◌}
use mathlib.Core.Path.{◌≡◌, refl, sym, ap, ap₂, ◌∙◌}
use native.Mathlib.Omega.{arith}
use lib.ListN.{length, get_or}
use lib.Dec.{ltb, eqb}
use borrow.Author.Tests.{ltb-true, eqb-true, eqb-false, not-true, lt-ltb, eq-eqb, ne_eqb}
use Rattle.records.specs.Base.{pick, all}
use Rattle.records.specs.Room.{Constraint, ban, fence, spread, latency, before, has, Room, node_of, vm_of, on_node}
use Rattle.records.specs.Plan.{Move, Step, no_move, move_of}
use Rattle.records.specs.declared.plan.Source.TheVariants.{Unnamed}
use Rattle.records.proofs.Laws.Bools.{and_left, and_right, and_both, pick_same, bool_iff, all_head, all_tail, all-at, all_append, all_more}
use Rattle.rules.specs.Moments.{Placement, place_of, within_memory, within, bears, bears_at, with_vm, Phase, staying, waiting, Cell, cell, Moment, number_of, counts_on, tally_at, phase_of, cells_from, first_moment, begun, all_running}
use Rattle.rules.specs.Orders.{spreads, some, mates, meets_mate}
use Rattle.rules.specs.Rules.{allowed, aims, named, permitted, fitting, unmet, sound_step, in_turn}
use Rattle.rules.specs.declared.tally.Tally.{Tally}
use Rattle.rules.proofs.Laws.Bears.{at-node, bears-idle, bears-active, bears-beside}
use Rattle.rules.proofs.Laws.Orders.{named-least, named-vm, named-sends, named-off, named-rest, named-cons, load, memory_in, cpu_in, memory-load, cpu-load, not-own-mate, phase-at}
use Rattle.rules.proofs.Laws.Turn.{turn-none}
use Rattle.rules.proofs.Laws.Sound.{sound-named, sound-permitted, sound-fitting, sound-unmet, sound-turn, sound-tests}
use Rattle.rules.proofs.Laws.Meet.{all-intro}

-- a step with one move more, which names no source
abbrev pub longer : Step → ℕ → ℕ → Step
longer step v d = step ++ (record { vm = v; source = Unnamed; to = d } ∷ [])

-- ---- being mates is symmetric

pub eqb-sym : (v w : ℕ) → eqb v w ≡ eqb w v
eqb-sym v w = bool_iff (eqb v w) (eqb w v) (λ e. eq-eqb w v (sym (eqb-true v w e))) (λ e. eq-eqb v w (sym (eqb-true w v e)))

spreads-sym : (v w : ℕ) (ks : List Constraint) → some (spreads v w) ks ≡ some (spreads w v) ks
unfolding some spreads
spreads-sym v w [] = refl
spreads-sym v w (ban vms nodes ∷ ks) = spreads-sym v w ks
spreads-sym v w (fence vms nodes ∷ ks) = spreads-sym v w ks
spreads-sym v w (spread vms ∷ ks) = ap₂ (λ (a b : Bool). a || b) (and_comm (has vms v) (has vms w)) (spreads-sym v w ks)
spreads-sym v w (latency vms groups ∷ ks) = spreads-sym v w ks
spreads-sym v w (before first second ∷ ks) = spreads-sym v w ks

pub mates-sym : (room : Room) (v w : ℕ) → mates room v w ≡ mates room w v
unfolding mates
mates-sym room v w = ap₂ (λ (a b : Bool). not a && b) (eqb-sym v w) (spreads-sym v w room.constraints)

-- ---- the phases of the longer step

pub phase-other : (step : Step) (v d w : ℕ) → (v ≡ w → ⊥) → phase_of (step ++ (record { vm = v; source = Unnamed; to = d } ∷ [])) w ≡ phase_of step w
unfolding phase_of
phase-other [] v d w h = rw (ne_eqb v w h)
phase-other (move ∷ moves) v d w h = ap (pick (eqb move.vm w) (waiting move.to)) (phase-other moves v d w h)

pub phase-own : (step : Step) (v d : ℕ) → all (λ move. ltb move.vm v) step ≡ true →
    phase_of (step ++ (record { vm = v; source = Unnamed; to = d } ∷ [])) v ≡ waiting d
unfolding phase_of
phase-own [] v d a = rw (eq-eqb v v refl)
phase-own (move ∷ moves) v d a =
    let h = ltb-true move.vm v (all_head (λ move. ltb move.vm v) move moves a) in
    let m : move.vm ≡ v → ⊥ = λ e. omega arith in
    rw (ne_eqb move.vm v m) (phase-own moves v d (all_tail (λ move. ltb move.vm v) move moves a))

pub phase-staying : (step : Step) (v : ℕ) → all (λ move. ltb move.vm v) step ≡ true → phase_of step v ≡ staying
unfolding phase_of
phase-staying [] v a = refl
phase-staying (move ∷ moves) v a =
    let h = ltb-true move.vm v (all_head (λ move. ltb move.vm v) move moves a) in
    let m : move.vm ≡ v → ⊥ = λ e. omega arith in
    rw (ne_eqb move.vm v m) (phase-staying moves v (all_tail (λ move. ltb move.vm v) move moves a))

-- ---- what counts where with every move of the longer step running

module _ (places : Placement) (step : Step) (v d : ℕ) (a : all (λ move. ltb move.vm v) step ≡ true) where
  counts-new : (e : ℕ) → counts_on e (cell v (place_of places v) (begun (phase_of (longer step v d) v))) ≡ (eqb (place_of places v) e || eqb d e)
  unfolding begun counts_on
  counts-new e = rw (phase-own step v d a)

  counts-old : (e : ℕ) → counts_on e (cell v (place_of places v) (begun (phase_of step v))) ≡ eqb (place_of places v) e
  unfolding begun counts_on
  counts-old e = rw (phase-staying step v a)

  counts-other : (e k : ℕ) → (v ≡ k → ⊥) →
      counts_on e (cell k (place_of places k) (begun (phase_of (longer step v d) k))) ≡ counts_on e (cell k (place_of places k) (begun (phase_of step k)))
  counts-other e k h = ap (λ (x : Phase). counts_on e (cell k (place_of places k) (begun x))) (phase-other step v d k h)

  -- the VMs above v are as they were
  running-above : (k n : ℕ) → v < k → all_running (cells_from places (longer step v d) k n) ≡ all_running (cells_from places step k n)
  unfolding cells_from all_running
  running-above k zero h = refl
  running-above k (suc n) h =
      let m : v ≡ k → ⊥ = λ e. omega arith in
      let l : v < suc k = omega arith in
      ap₂ (λ (x : Phase) (cs : Moment). cell k (place_of places k) (begun x) ∷ cs) (phase-other step v d k m) (running-above (suc k) n l)

  -- a load grows by v's on the destination
  load-added : (f : ℕ → ℕ) (e : ℕ) → (d ≡ place_of places v → ⊥) → (k n : ℕ) → k ≤ v → v < k + n →
      load f e (all_running (cells_from places (longer step v d) k n)) ≡ load f e (all_running (cells_from places step k n)) + pick (eqb d e) (f v) 0
  unfolding cells_from all_running load
  load-added f e o k zero l h = absurd (omega arith)
  load-added f e o k (suc n) l h =
      go (eqb k v) refl (load f e (all_running (cells_from places (longer step v d) (suc k) n))) (load f e (all_running (cells_from places step (suc k) n)))
      (λ m. ap (load f e) (running-above (suc k) n m)) (λ m. load-added f e o (suc k) n m (omega arith))
    where
      apart : (x y : Bool) (m : ℕ) → eqb (place_of places v) e ≡ x → eqb d e ≡ y → pick (x || y) (m + f v) m ≡ pick x (m + f v) m + pick y (f v) 0
      apart true true m p q = absurd (o (eqb-true d e q ∙ sym (eqb-true (place_of places v) e p)))
      apart true false m p q = omega arith
      apart false true m p q = refl
      apart false false m p q = omega arith

      later : (x : Bool) (y i j : ℕ) → i ≡ j + y → pick x (i + f k) i ≡ pick x (j + f k) j + y
      later true y i j e = omega arith
      later false y i j e = e

      go : (b : Bool) → eqb k v ≡ b → (new old : ℕ) → (v < suc k → new ≡ old) → (suc k ≤ v → new ≡ old + pick (eqb d e) (f v) 0) →
          pick (counts_on e (cell k (place_of places k) (begun (phase_of (longer step v d) k)))) (new + f k) new ≡
          pick (counts_on e (cell k (place_of places k) (begun (phase_of step k)))) (old + f k) old + pick (eqb d e) (f v) 0
      go true t new old same more =
          let q = eqb-true k v t in
          rw (same (omega arith), q, counts-new e, counts-old e) (apart (eqb (place_of places v) e) (eqb d e) old refl refl)
      go false t new old same more =
          let q = eqb-false k v t in
          let m : v ≡ k → ⊥ = λ g. q (sym g) in
          rw (counts-other e k m)
          (later (counts_on e (cell k (place_of places k) (begun (phase_of step k)))) (pick (eqb d e) (f v) 0) new old (more (omega arith)))

  -- and so do the VMs of a kind
  some-added : (q : ℕ → Bool) (e k n : ℕ) → k ≤ v → v < k + n →
      some (λ c. q (number_of c) && counts_on e c) (all_running (cells_from places (longer step v d) k n)) ≡
      (some (λ c. q (number_of c) && counts_on e c) (all_running (cells_from places step k n)) || (q v && eqb d e))
  unfolding cells_from all_running some
  some-added q e k zero l h = absurd (omega arith)
  some-added q e k (suc n) l h =
      go (eqb k v) refl (some (λ c. q (number_of c) && counts_on e c) (all_running (cells_from places (longer step v d) (suc k) n)))
      (some (λ c. q (number_of c) && counts_on e c) (all_running (cells_from places step (suc k) n)))
      (λ m. ap (some (λ c. q (number_of c) && counts_on e c)) (running-above (suc k) n m)) (λ m. some-added q e (suc k) n m (omega arith))
    where
      either : (b x y s : Bool) → ((b && (x || y)) || s) ≡ (((b && x) || s) || (b && y))
      either false x y true = refl
      either false x y false = refl
      either true true y s = refl
      either true false true true = refl
      either true false true false = refl
      either true false false true = refl
      either true false false false = refl

      go : (b : Bool) → eqb k v ≡ b → (new old : Bool) → (v < suc k → new ≡ old) → (suc k ≤ v → new ≡ (old || (q v && eqb d e))) →
          ((q k && counts_on e (cell k (place_of places k) (begun (phase_of (longer step v d) k)))) || new) ≡
          (((q k && counts_on e (cell k (place_of places k) (begun (phase_of step k)))) || old) || (q v && eqb d e))
      go true t new old same more =
          let i = eqb-true k v t in
          rw (same (omega arith), i, counts-new e, counts-old e) (either (q v) (eqb (place_of places v) e) (eqb d e) old)
      go false t new old same more =
          let i = eqb-false k v t in
          let m : v ≡ k → ⊥ = λ g. i (sym g) in
          rw (counts-other e k m, more (omega arith))
          (sym (or_assoc (q k && counts_on e (cell k (place_of places k) (begun (phase_of step k)))) old (q v && eqb d e)))

-- a VM that passes a test with every move running passes it in the moment
some_at : (q : Cell → Bool) (places : Placement) (step : Step) (w : ℕ) → q (cell w (place_of places w) (begun (phase_of step w))) ≡ true → (k n : ℕ) → k ≤ w → w < k + n →
    some q (all_running (cells_from places step k n)) ≡ true
unfolding cells_from all_running some
some_at q places step w e k zero l h = absurd (omega arith)
some_at q places step w e k (suc n) l h = go (eqb k w) refl (λ m. some_at q places step w e (suc k) n m (omega arith))
  where
    go : (b : Bool) → eqb k w ≡ b → (suc k ≤ w → some q (all_running (cells_from places step (suc k) n)) ≡ true) →
        (q (cell k (place_of places k) (begun (phase_of step k))) || some q (all_running (cells_from places step (suc k) n))) ≡ true
    go true t more = let i = eqb-true k w t in rw (i, e)
    go false t more = let i = eqb-false k w t in rw (more (omega arith)) (or-true (q (cell k (place_of places k) (begun (phase_of step k)))))

-- ---- tallies and mates

module _ (room : Room) (places : Placement) (step : Step) (v d : ℕ) (a : all (λ move. ltb move.vm v) step ≡ true) (t : v < length room.vms) where
  -- v is one VM more that counts on d
  pub meets-added : (w e : ℕ) → meets_mate room (all_running (first_moment room places (step ++ (record { vm = v; source = Unnamed; to = d } ∷ [])))) w e ≡
      (meets_mate room (all_running (first_moment room places step)) w e || pick (on_node e) (mates room w v && eqb d e) false)
  unfolding meets_mate first_moment
  meets-added w e =
      ap (λ (b : Bool). pick (on_node e) b false) (some-added places step v d a (mates room w) e 0 (length room.vms) (omega arith) (omega arith)) ∙
      either (on_node e) (some (λ c. mates room w (number_of c) && counts_on e c) (all_running (cells_from places step 0 (length room.vms)))) (mates room w v && eqb d e)
    where
      either : (b x y : Bool) → pick b (x || y) false ≡ (pick b x false || pick b y false)
      either true x y = refl
      either false x y = refl

  -- its own test is the same before and after
  pub meets-own : meets_mate room (all_running (first_moment room places (step ++ (record { vm = v; source = Unnamed; to = d } ∷ [])))) v d ≡
      meets_mate room (all_running (first_moment room places step)) v d
  meets-own =
      meets-added v d ∙
      ap (λ (b : Bool). meets_mate room (all_running (first_moment room places step)) v d || b) (ap (λ (b : Bool). pick (on_node d) (b && eqb d d) false) (not-own-mate room v) ∙ pick_same (on_node d) false) ∙
      or-false (meets_mate room (all_running (first_moment room places step)) v d)

  module _ (o : d ≡ place_of places v → ⊥) where
    pub memory-added : (e : ℕ) → (tally_at room e (all_running (first_moment room places (step ++ (record { vm = v; source = Unnamed; to = d } ∷ []))))).memory ≡
        (tally_at room e (all_running (first_moment room places step))).memory + pick (eqb d e) (vm_of room v).memory 0
    unfolding first_moment
    memory-added e =
        memory-load room e (all_running (first_moment room places (longer step v d))) ∙
        load-added places step v d a (memory_in room) e o 0 (length room.vms) (omega arith) (omega arith) ∙
        ap (λ (n : ℕ). n + pick (eqb d e) (vm_of room v).memory 0) (sym (memory-load room e (all_running (first_moment room places step))))

    pub cpu-added : (e : ℕ) → (tally_at room e (all_running (first_moment room places (step ++ (record { vm = v; source = Unnamed; to = d } ∷ []))))).cpu ≡
        (tally_at room e (all_running (first_moment room places step))).cpu + pick (eqb d e) (vm_of room v).cpu 0
    unfolding first_moment
    cpu-added e =
        cpu-load room e (all_running (first_moment room places (longer step v d))) ∙
        load-added places step v d a (cpu_in room) e o 0 (length room.vms) (omega arith) (omega arith) ∙
        ap (λ (n : ℕ). n + pick (eqb d e) (vm_of room v).cpu 0) (sym (cpu-load room e (all_running (first_moment room places step))))

    -- the destination's tally has one VM more, every other is as it was
    pub tally-there : tally_at room d (all_running (first_moment room places (step ++ (record { vm = v; source = Unnamed; to = d } ∷ [])))) ≡
        with_vm (tally_at room d (all_running (first_moment room places step))) (vm_of room v)
    tally-there i = record {
      memory = (memory-added d ∙ ap (λ (b : Bool). (tally_at room d (all_running (first_moment room places step))).memory + pick b (vm_of room v).memory 0) (eq-eqb d d refl)) i;
      cpu = (cpu-added d ∙ ap (λ (b : Bool). (tally_at room d (all_running (first_moment room places step))).cpu + pick b (vm_of room v).cpu 0) (eq-eqb d d refl)) i;
    }

    pub tally-else : (e : ℕ) → (d ≡ e → ⊥) → tally_at room e (all_running (first_moment room places (step ++ (record { vm = v; source = Unnamed; to = d } ∷ [])))) ≡
        tally_at room e (all_running (first_moment room places step))
    tally-else e h i = record {
      memory = (memory-added e ∙ none (tally_at room e (all_running (first_moment room places step))).memory (vm_of room v).memory) i;
      cpu = (cpu-added e ∙ none (tally_at room e (all_running (first_moment room places step))).cpu (vm_of room v).cpu) i;
    }
      where
        none : (n x : ℕ) → n + pick (eqb d e) x 0 ≡ n
        none n x = rw (ne_eqb d e h) (omega arith)

-- ---- fault 15 of the longer step

-- the last move is well named
named-last : (room : Room) (places : Placement) (least : ℕ) (step : Step) (v d : ℕ) → named room places least (longer step v d) ≡ true →
    (ltb v (length room.vms) && (aims room v d && not (eqb d (place_of places v)))) ≡ true
named-last room places least [] v d e =
    and_both (lt-ltb v (length room.vms) (named-vm room places least (record { vm = v; source = Unnamed; to = d }) [] e))
    (and_both (named-sends room places least (record { vm = v; source = Unnamed; to = d }) [] e)
    (named-off room places least (record { vm = v; source = Unnamed; to = d }) [] e))
named-last room places least (move ∷ moves) v d e = named-last room places (suc move.vm) moves v d (named-rest room places least move (longer moves v d) e)

named-longer : (room : Room) (places : Placement) (least : ℕ) (step : Step) (v d : ℕ) → named room places least step ≡ true →
    all (λ move. ltb move.vm v) step ≡ true → least ≤ v → v < length room.vms → aims room v d ≡ true →
    not (eqb d (place_of places v)) ≡ true → named room places least (longer step v d) ≡ true
unfolding named
named-longer room places least [] v d n a l t b o = named-cons room places least (record { vm = v; source = Unnamed; to = d }) [] l t b o refl
named-longer room places least (move ∷ moves) v d n a l t b o =
    let h = ltb-true move.vm v (all_head (λ move. ltb move.vm v) move moves a) in
    named-cons room places least move (longer moves v d) (named-least room places least move moves n) (named-vm room places least move moves n)
    (named-sends room places least move moves n) (named-off room places least move moves n)
    (named-longer room places (suc move.vm) moves v d (named-rest room places least move moves n) (all_tail (λ move. ltb move.vm v) move moves a)
    (omega arith) t b o)

-- ---- the test of the new move alone

-- `fit` is the test of the sums
abbrev pub joins_if : Bool → Room → Placement → Step → ℕ → ℕ → Bool
joins_if fit room places step v d =
    (ltb v (length room.vms) && (aims room v d && not (eqb d (place_of places v)))) &&
    (allowed room v d && (fit && (not (meets_mate room (all_running (first_moment room places step)) v d) && in_turn room places (longer step v d))))

-- what its destination holds with it
abbrev pub joined_tally : Room → Placement → Step → ℕ → ℕ → Tally
joined_tally room places step v d = with_vm (tally_at room d (all_running (first_moment room places step))) (vm_of room v)

unfoldable pub joins : Room → Placement → Step → ℕ → ℕ → Bool
joins room places step v d = joins_if (bears_at room d (joined_tally room places step v d) (vm_of room v)) room places step v d

-- what a move that joins passes
pub record Joins (room : Room) (places : Placement) (step : Step) (v d : ℕ) : Type 0 where
  pub vm-there : v < length room.vms
  pub aimed : aims room v d ≡ true
  pub off : not (eqb d (place_of places v)) ≡ true
  pub allows : allowed room v d ≡ true
  pub fit : bears_at room d (with_vm (tally_at room d (all_running (first_moment room places step))) (vm_of room v)) (vm_of room v) ≡ true
  pub apart : meets_mate room (all_running (first_moment room places step)) v d ≡ false
  pub turn : in_turn room places (longer step v d) ≡ true

pub joins-tests : (room : Room) (places : Placement) (step : Step) (v d : ℕ) → joins room places step v d ≡ true → Joins room places step v d
unfolding joins
joins-tests room places step v d e =
    let there : Bool = ltb v (length room.vms) in
    let to : Bool = aims room v d && not (eqb d (place_of places v)) in
    let f : Bool = bears_at room d (with_vm (tally_at room d (all_running (first_moment room places step))) (vm_of room v)) (vm_of room v) in
    let m : Bool = meets_mate room (all_running (first_moment room places step)) v d in
    let t : Bool = in_turn room places (longer step v d) in
    let x : (there && to) ≡ true = and_left (there && to) (allowed room v d && (f && (not m && t))) e in
    let y : (allowed room v d && (f && (not m && t))) ≡ true = and_right (there && to) (allowed room v d && (f && (not m && t))) e in
    let w : to ≡ true = and_right there to x in
    let z : (f && (not m && t)) ≡ true = and_right (allowed room v d) (f && (not m && t)) y in
    let u : (not m && t) ≡ true = and_right f (not m && t) z in
    record {
      vm-there = ltb-true v (length room.vms) (and_left there to x);
      aimed = and_left (aims room v d) (not (eqb d (place_of places v))) w;
      off = and_right (aims room v d) (not (eqb d (place_of places v))) w;
      allows = and_left (allowed room v d) (f && (not m && t)) y;
      fit = and_left f (not m && t) z;
      apart = not-true m (and_left (not m) t u);
      turn = and_right (not m) t u;
    }

-- ---- a sound step with one move more is sound exactly if the move joins

pub all_snoc : {A : Type 0} (q : A → Bool) (xs : List A) (x : A) → all q (xs ++ (x ∷ [])) ≡ (all q xs && q x)
unfolding all
all_snoc q xs x = all_append q xs (x ∷ []) ∙ ap (λ (b : Bool). all q xs && b) (and-true (q x))

-- a mate that arrives on the destination is met
arrival-met : (room : Room) (places : Placement) (step : Step) (v d w : ℕ) → on_node d ≡ true → phase_of step w ≡ waiting d → w < length room.vms → mates room v w ≡ true →
    meets_mate room (all_running (first_moment room places step)) v d ≡ true
unfolding meets_mate first_moment begun counts_on
arrival-met room places step v d w n p h m =
    ap (λ (b : Bool). pick b (some (λ c. mates room v (number_of c) && counts_on d c) (all_running (cells_from places step 0 (length room.vms)))) false) n ∙
    some_at (λ c. mates room v (number_of c) && counts_on d c) places step w (rw (m, p, eq-eqb d d refl) (or-true (eqb (place_of places w) d))) 0 (length room.vms)
    (omega arith) (omega arith)

module _ (room : Room) (places : Placement) (step : Step) (v d : ℕ) (a : all (λ move. ltb move.vm v) step ≡ true) where
  -- the last move of a sound step joins the others
  pub sound-joins : sound_step room places (step ++ (record { vm = v; source = Unnamed; to = d } ∷ [])) ≡ true → joins room places step v d ≡ true
  unfolding joins permitted fitting unmet
  sound-joins s = and_both n (and_both p (and_both f (and_both u (sound-turn room places (longer step v d) s))))
    where
      last : (q : Move → Bool) → all q (longer step v d) ≡ true → q (record { vm = v; source = Unnamed; to = d }) ≡ true
      last q e = and_right (all q step) (q (record { vm = v; source = Unnamed; to = d })) (sym (all_snoc q step (record { vm = v; source = Unnamed; to = d })) ∙ e)

      n : (ltb v (length room.vms) && (aims room v d && not (eqb d (place_of places v)))) ≡ true
      n = named-last room places 0 step v d (sound-named room places (longer step v d) s)

      t : v < length room.vms
      t = ltb-true v (length room.vms) (and_left (ltb v (length room.vms)) (aims room v d && not (eqb d (place_of places v))) n)

      o : d ≡ place_of places v → ⊥
      o = eqb-false d (place_of places v) (not-true (eqb d (place_of places v))
          (and_right (aims room v d) (not (eqb d (place_of places v)))
          (and_right (ltb v (length room.vms)) (aims room v d && not (eqb d (place_of places v))) n)))

      p : allowed room v d ≡ true
      p = last (λ move. allowed room move.vm move.to) (sound-permitted room places (longer step v d) s)

      f : bears_at room d (with_vm (tally_at room d (all_running (first_moment room places step))) (vm_of room v)) (vm_of room v) ≡ true
      f = sym (ap (λ (x : Tally). bears_at room d x (vm_of room v)) (tally-there room places step v d a t o)) ∙
          last (λ move. bears_at room move.to (tally_at room move.to (all_running (first_moment room places (longer step v d)))) (vm_of room move.vm)) (sound-fitting room places (longer step v d) s)

      u : not (meets_mate room (all_running (first_moment room places step)) v d) ≡ true
      u = sym (ap not (meets-own room places step v d a t)) ∙
          last (λ move. not (meets_mate room (all_running (first_moment room places (longer step v d))) move.vm move.to)) (sound-unmet room places (longer step v d) s)

  -- a move that joins leaves the step sound
  pub joins-sound : sound_step room places step ≡ true → joins room places step v d ≡ true → sound_step room places (step ++ (record { vm = v; source = Unnamed; to = d } ∷ [])) ≡ true
  unfolding permitted fitting unmet move_of
  joins-sound s e = sound-tests room places (longer step v d) n p f u j.turn
    where
      j : Joins room places step v d
      j = joins-tests room places step v d e

      o : d ≡ place_of places v → ⊥
      o = eqb-false d (place_of places v) (not-true (eqb d (place_of places v)) j.off)

      more : (q : Move → Bool) → all q step ≡ true → q (record { vm = v; source = Unnamed; to = d }) ≡ true → all q (longer step v d) ≡ true
      more q x y = all_snoc q step (record { vm = v; source = Unnamed; to = d }) ∙ and_both x y

      n : named room places 0 (longer step v d) ≡ true
      n = named-longer room places 0 step v d (sound-named room places step s) a (omega arith) j.vm-there j.aimed j.off

      p : all (λ move. allowed room move.vm move.to) (longer step v d) ≡ true
      p = more (λ move. allowed room move.vm move.to) (sound-permitted room places step s) j.allows

      there : bears_at room d (tally_at room d (all_running (first_moment room places (longer step v d)))) (vm_of room v) ≡ true
      there = ap (λ (x : Tally). bears_at room d x (vm_of room v)) (tally-there room places step v d a j.vm-there o) ∙ j.fit

      -- v beside an older arrival w on d, and away from one elsewhere
      anywhere : (x : Bool) (w e : ℕ) → eqb d e ≡ x → bears_at room e (tally_at room e (all_running (first_moment room places step))) (vm_of room w) ≡ true →
          bears_at room e (tally_at room e (all_running (first_moment room places (longer step v d)))) (vm_of room w) ≡ true
      anywhere true w e t h =
          let k : bears_at room d (tally_at room d (all_running (first_moment room places step))) (vm_of room w) ≡ true = rw (← eqb-true d e t) at h in
          rw (← eqb-true d e t)
          (ap (λ (x : Tally). bears_at room d x (vm_of room w)) (tally-there room places step v d a j.vm-there o) ∙
          bears-beside room d (tally_at room d (all_running (first_moment room places step))) (vm_of room v) (vm_of room w) k j.fit)
      anywhere false w e t h =
          ap (λ (x : Tally). bears_at room e x (vm_of room w)) (tally-else room places step v d a j.vm-there o e (eqb-false d e t)) ∙ h

      f : all (λ move. bears_at room move.to (tally_at room move.to (all_running (first_moment room places (longer step v d)))) (vm_of room move.vm)) (longer step v d) ≡ true
      f = more (λ move. bears_at room move.to (tally_at room move.to (all_running (first_moment room places (longer step v d)))) (vm_of room move.vm))
          (all_more (λ move. bears_at room move.to (tally_at room move.to (all_running (first_moment room places step))) (vm_of room move.vm))
          (λ move. bears_at room move.to (tally_at room move.to (all_running (first_moment room places (longer step v d)))) (vm_of room move.vm))
          (λ move h. anywhere (eqb d move.to) move.vm move.to refl h) step (sound-fitting room places step s)) there

      -- v is no mate of an older arrival on d
      clear : (n x y : Bool) (w e : ℕ) → on_node e ≡ n → phase_of step w ≡ waiting e → w < length room.vms → mates room w v ≡ x → eqb d e ≡ y → pick n (x && y) false ≡ false
      clear true true true w e n p h m t =
          let q : phase_of step w ≡ waiting d = p ∙ ap waiting (sym (eqb-true d e t)) in
          absurd (false≢true (sym j.apart ∙ arrival-met room places step v d w (ap on_node (eqb-true d e t) ∙ n) q h (mates-sym room v w ∙ m)))
      clear true true false w e n p h m t = refl
      clear true false y w e n p h m t = refl
      clear false x y w e n p h m t = refl

      older : (i : ℕ) → i < length step →
          not (meets_mate room (all_running (first_moment room places (longer step v d))) (get_or step i no_move).vm (get_or step i no_move).to) ≡ true
      older i h =
          let w = phase-at room places 0 step i (sound-named room places step s) h in
          let earlier : meets_mate room (all_running (first_moment room places step)) (move_of step i).vm (move_of step i).to ≡ false =
          not-true (meets_mate room (all_running (first_moment room places step)) (move_of step i).vm (move_of step i).to)
          (all-at (λ move. not (meets_mate room (all_running (first_moment room places step)) move.vm move.to)) step i no_move (sound-unmet room places step s) h) in
          ap not (meets-added room places step v d a j.vm-there (move_of step i).vm (move_of step i).to ∙
          ap₂ (λ (x y : Bool). x || y) earlier
          (clear (on_node (move_of step i).to) (mates room (move_of step i).vm v) (eqb d (move_of step i).to) (move_of step i).vm (move_of step i).to refl w.0 w.2 refl refl))

      u : all (λ move. not (meets_mate room (all_running (first_moment room places (longer step v d))) move.vm move.to)) (longer step v d) ≡ true
      u = more (λ move. not (meets_mate room (all_running (first_moment room places (longer step v d))) move.vm move.to))
          (all-intro (λ move. not (meets_mate room (all_running (first_moment room places (longer step v d))) move.vm move.to)) step no_move older)
          (ap not (meets-own room places step v d a j.vm-there ∙ j.apart))

pub adding : (room : Room) (places : Placement) (step : Step) (v d : ℕ) → sound_step room places step ≡ true → all (λ move. ltb move.vm v) step ≡ true →
    sound_step room places (step ++ (record { vm = v; source = Unnamed; to = d } ∷ [])) ≡ joins room places step v d
adding room places step v d s a =
    bool_iff (sound_step room places (longer step v d)) (joins room places step v d) (sound-joins room places step v d a) (joins-sound room places step v d a s)

-- to a node, by the VM: an idle one joins by the memory alone, an active one by both sums, in which the idle ones beside it count with theirs
module _ (room : Room) (places : Placement) (step : Step) (v d : ℕ) (s : sound_step room places step ≡ true) (a : all (λ move. ltb move.vm v) step ≡ true)
    (n : on_node d ≡ true) where
  by-vm : (fit : Bool) → bears (node_of room d) (joined_tally room places step v d) (vm_of room v) ≡ fit →
      sound_step room places (longer step v d) ≡ joins_if fit room places step v d
  unfolding joins
  by-vm fit e =
      adding room places step v d s a ∙
      ap (λ (b : Bool). joins_if b room places step v d) (at-node room d (joined_tally room places step v d) (vm_of room v) n ∙ e)

  pub idle-joins : (vm_of room v).cpu ≡ 0 →
      sound_step room places (step ++ (record { vm = v; source = Unnamed; to = d } ∷ [])) ≡ joins_if (within_memory (node_of room d) (joined_tally room places step v d)) room places step v d
  idle-joins z = by-vm (within_memory (node_of room d) (joined_tally room places step v d)) (bears-idle (node_of room d) (joined_tally room places step v d) (vm_of room v) z)

  pub active-joins : ((vm_of room v).cpu ≡ 0 → ⊥) →
      sound_step room places (step ++ (record { vm = v; source = Unnamed; to = d } ∷ [])) ≡ joins_if (within (node_of room d) (joined_tally room places step v d)) room places step v d
  active-joins h = by-vm (within (node_of room d) (joined_tally room places step v d)) (bears-active (node_of room d) (joined_tally room places step v d) (vm_of room v) h)

-- ---- the step without moves, and the step of one move

pub empty-sound : (room : Room) (places : Placement) → sound_step room places [] ≡ true
unfolding sound_step named permitted fitting unmet all
empty-sound room places = turn-none room places

pub alone : (room : Room) (places : Placement) (v d : ℕ) → sound_step room places (record { vm = v; source = Unnamed; to = d } ∷ []) ≡ joins room places [] v d
unfolding all
alone room places v d = adding room places [] v d (empty-sound room places) refl

-- without moves nothing runs
running_none : (places : Placement) (k n : ℕ) → all_running (cells_from places [] k n) ≡ cells_from places [] k n
unfolding cells_from all_running phase_of begun
running_none places k zero = refl
running_none places k (suc n) = ap (λ (cs : Moment). cell k (place_of places k) staying ∷ cs) (running_none places (suc k) n)

pub empty-running : (room : Room) (places : Placement) → all_running (first_moment room places []) ≡ first_moment room places []
unfolding first_moment
empty-running room places = running_none places 0 (length room.vms)
