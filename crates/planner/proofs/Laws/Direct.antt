-- Laws on the direct step: it is sound, its moves take VMs that are away to their targets, and it has none exactly if no VM can go.
use Prim.Native.Nat.{ℕ, zero, suc, ◌+◌, ◌≤◌, ◌<◌}
use mathlib.Core.Bool.{Bool, true, false, not, ◌&&◌, false≢true, or-true}
use mathlib.Core.List.{List, [], ◌∷◌, ◌++◌}
use mathlib.Core.Logic.{by_cases}
use mathlib.Core.Path.{◌≡◌, refl, sym, ap, ◌∙◌}
use native.Mathlib.Decide.{ℕ_discrete}
use native.Mathlib.Omega.{arith}
use lib.ListN.{length}
use lib.Dec.{ltb, eqb}
use borrow.Author.Tests.{lt-ltb, eq-eqb}
use Rattle.records.specs.Base.{pick, all}
use Rattle.records.specs.Room.{Room, nowhere, on_node}
use Rattle.records.specs.Plan.{Step}
use Rattle.records.specs.declared.plan.Move.{Move}
use Rattle.records.proofs.Laws.Bools.{and_left, and_right, and_both}
use Rattle.rules.specs.Moments.{Placement, place_of, target_of, bears_at}
use Rattle.rules.specs.Orders.{some, meets_mate}
use Rattle.rules.specs.Rules.{from, allowed, aims, has_move, in_turn, sound_step}
use Rattle.rules.proofs.Laws.Orders.{never, named-vm}
use Rattle.rules.proofs.Laws.Sound.{sound-named}
use Rattle.rules.proofs.Laws.Turn.{turn-none}
use Rattle.rules.proofs.Laws.Adding.{eqb-sym, joins, alone, all_snoc, empty-sound}
use Rattle.planner.specs.Picks.{vms_in, away, moving, direct, can_go, joined, joined_all, direct_step}
use Rattle.planner.specs.Inner.{held_back}
use Rattle.planner.proofs.Laws.Waits.{turn-added}

-- a move of a VM that is away, to its target
abbrev pub homeward : Room → Placement → Move → Bool
homeward room places move = away room places move.vm && eqb move.to (place_of (target_of room) move.vm)

module _ (room : Room) (places : Placement) where
  -- ---- what each move added keeps, the direct step has

  module _ (P : Step → Type 0)
      (kept : (step : Step) (v : ℕ) → away room places v ≡ true → sound_step room places (step ++ (direct room v ∷ [])) ≡ true → P step → P (step ++ (direct room v ∷ []))) where
    joined_keeps : (step : Step) (v : ℕ) → P step → P (joined room places step v)
    unfolding joined
    joined_keeps step v p = go (away room places v && sound_step room places (step ++ (direct room v ∷ []))) refl
      where
        go : (b : Bool) → (away room places v && sound_step room places (step ++ (direct room v ∷ []))) ≡ b → P (pick b (step ++ (direct room v ∷ [])) step)
        go true e = kept step v (and_left (away room places v) _ e) (and_right (away room places v) _ e) p
        go false e = p

    all-keeps : (step : Step) (vs : List ℕ) → P step → P (joined_all room places step vs)
    unfolding joined_all
    all-keeps step [] p = p
    all-keeps step (v ∷ vs) p = all-keeps (joined room places step v) vs (joined_keeps step v p)

    direct-keeps : P [] → P (direct_step room places)
    unfolding direct_step
    direct-keeps p = all-keeps [] (vms_in room) p

  pub direct-sound : sound_step room places (direct_step room places) ≡ true
  direct-sound = direct-keeps (λ step. sound_step room places step ≡ true) (λ step v a s p. s) (empty-sound room places)

  pub direct-moves : all (homeward room places) (direct_step room places) ≡ true
  unfolding all
  direct-moves =
      direct-keeps (λ step. all (homeward room places) step ≡ true)
      (λ step v a s p. all_snoc (homeward room places) step (direct room v) ∙ and_both p (and_both a (eq-eqb (direct room v).to (direct room v).to refl))) refl

  -- ---- no move, and no VM that can go

  -- moves are never taken back
  joined-none : (step : Step) (v : ℕ) → joined room places step v ≡ [] → step ≡ []
  unfolding joined
  joined-none [] v e = refl
  joined-none (move ∷ moves) v e = go (away room places v && sound_step room places ((move ∷ moves) ++ (direct room v ∷ []))) e
    where
      go : (b : Bool) → pick b ((move ∷ moves) ++ (direct room v ∷ [])) (move ∷ moves) ≡ [] → move ∷ moves ≡ []
      go true e = never (cc)
      go false e = e

  all_none : (step : Step) (vs : List ℕ) → joined_all room places step vs ≡ [] → step ≡ []
  unfolding joined_all
  all_none step [] e = e
  all_none step (v ∷ vs) e = joined-none step v (all_none (joined room places step v) vs e)

  -- the first move
  lone-none : (v : ℕ) → joined room places [] v ≡ [] → can_go room places v ≡ false
  unfolding joined can_go
  lone-none v e = go (away room places v && sound_step room places (direct room v ∷ [])) e
    where
      go : (b : Bool) → pick b (direct room v ∷ []) [] ≡ [] → b ≡ false
      go true e = never (cc)
      go false e = refl

  none-lone : (v : ℕ) → can_go room places v ≡ false → joined room places [] v ≡ []
  unfolding joined can_go
  none-lone v e = ap (λ (b : Bool). pick b (direct room v ∷ []) []) e

  all-none-at : (k n v : ℕ) → joined_all room places [] (from k n) ≡ [] → k ≤ v → v < k + n → can_go room places v ≡ false
  unfolding joined_all from
  all-none-at k zero v e l h = absurd (omega arith)
  all-none-at k (suc n) v e l h =
      let first : joined room places [] k ≡ [] = all_none (joined room places [] k) (from (suc k) n) e in
      let others : joined_all room places [] (from (suc k) n) ≡ [] = ap (λ (step : Step). joined_all room places step (from (suc k) n)) (sym first) ∙ e in
      by_cases (ℕ_discrete k v) (λ q. rw (← q) (lone-none k first)) (λ q. all-none-at (suc k) n v others (omega arith) (omega arith))

  -- a VM that is not there cannot go
  pub goes-there : (v : ℕ) → can_go room places v ≡ true → v < length room.vms
  unfolding can_go
  goes-there v e =
      named-vm room places 0 (direct room v) []
      (sound-named room places (direct room v ∷ []) (and_right (away room places v) _ e))

  -- a VM alone is in turn exactly if it is not held back
  pub lone-turn : (v d : ℕ) → away room places v ≡ true → in_turn room places (moving v d ∷ []) ≡ not (held_back room places v)
  unfolding has_move some
  lone-turn v d a = turn-added room places [] v d (λ u h. absurd (false≢true h)) (turn-none room places) a

  -- a VM that is wanted on no node and is on one can go, unless one that comes before it is off its target: a shutdown waits for nothing else
  pub shutdown-goes : (v : ℕ) → v < length room.vms → place_of (target_of room) v ≡ nowhere → away room places v ≡ true → held_back room places v ≡ false →
      can_go room places v ≡ true
  unfolding can_go away joins aims allowed bears_at meets_mate on_node
  shutdown-goes v h t a f =
      let turn : in_turn room places (moving v nowhere ∷ []) ≡ true = lone-turn v nowhere a ∙ ap not f in
      and_both a (alone room places v (place_of (target_of room) v) ∙
      rw (t, lt-ltb v (length room.vms) h, or-true (ltb nowhere (length room.nodes)), eqb-sym nowhere (place_of places v), turn)
      (rw t at (and_both a refl)))

  pub direct-none : direct_step room places ≡ [] → (v : ℕ) → can_go room places v ≡ false
  unfolding direct_step
  direct-none e v = go (can_go room places v) refl
    where
      go : (b : Bool) → can_go room places v ≡ b → b ≡ false
      go true t =
          let h = goes-there v t in
          sym t ∙ all-none-at 0 (length room.vms) v e (omega arith) (omega arith)
      go false t = refl

  pub none-direct : ((v : ℕ) → can_go room places v ≡ false) → direct_step room places ≡ []
  unfolding direct_step joined_all
  none-direct none = go (vms_in room)
    where
      go : (vs : List ℕ) → joined_all room places [] vs ≡ []
      go [] = refl
      go (v ∷ vs) = rw (none-lone v (none v)) (go vs)
