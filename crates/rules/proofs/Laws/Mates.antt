-- Laws on refusal 18: the passes over the spreads, a list at a time and a constraint by its kind.
use Rattle.std.specs.Prelude.{ℕ, zero, suc, ◌<◌, ◌≤◌, Bool, true, false, List, [], ◌∷◌, ◌≡◌, length, get_or, drop, replicate, leb, Some, None}
use Rattle.std.specs.List.{position, position_or_len}
use Rattle.std.proofs.Common.{◌∙◌, refl, sym, ap, arith}
use Rattle.std.proofs.lemmas.Grind.{common_steps}
use Rattle.std.proofs.lemmas.List.{drop_all}
use Rattle.std.proofs.lemmas.List.Quantifiers.{position-Some}
use Rattle.std.proofs.lemmas.List.Sums.{fails_before_first}
use borrow.Author.Tests.{leb-true, le-ltb}
use Rattle.records.specs.Room.{Constraint, ban, fence, spread, latency, before, kind_of, vms_of}
use Rattle.records.specs.declared.constraints.Kind.TheVariants.{Spread}
use Rattle.records.proofs.Laws.Bools.{and_left, and_right}
use Rattle.rules.specs.Inner.{all_down, on_some_node, start_marks, go_unmet, list_unmet, spread_ok}

-- VMs that do not arrive at a node add nothing in front
unmet-skip : (marks : List Bool) (dests vms : List ℕ) (n : ℕ) → ((k : ℕ) → k < n → on_some_node dests (get_or vms k 0) ≡ false) →
    go_unmet marks dests (drop n vms) ≡ go_unmet marks dests vms
unmet-skip marks dests vms zero still = refl
unmet-skip marks dests [] (suc n) still = refl
unmet-skip marks dests (v ∷ vs) (suc n) still =
    rw (still 0 (omega arith)) (unmet-skip marks dests vs n (λ k l. still (suc k) (omega arith)))

-- so the pass may start at the first that arrives, and where none does nobody is met
pub unmet_first : (marks : List Bool) (dests vms : List ℕ) (first : ℕ) → position (on_some_node dests) vms ≡ Some first →
    go_unmet marks dests (drop first vms) ≡ go_unmet marks dests vms
unmet_first marks dests vms first e = unmet-skip marks dests vms first (position-Some (on_some_node dests) vms first 0 e).2

pub unmet_none : (marks : List Bool) (dests vms : List ℕ) → position (on_some_node dests) vms ≡ None → true ≡ go_unmet marks dests vms
unmet_none marks dests vms e =
    let past : length vms ≤ position_or_len (on_some_node dests) vms = grind (arith, common_steps) in
    sym (sym (unmet-skip marks dests vms (length vms) (λ k l. fails_before_first (on_some_node dests) vms k 0 (omega arith))) ∙ ap (go_unmet marks dests) (drop_all (length vms) vms (omega arith)))

-- where nobody arrives at a node, nobody is met
unmet-still : (marks : List Bool) (dests vms : List ℕ) → all_down dests vms ≡ true → go_unmet marks dests vms ≡ true
unmet-still marks dests [] e = refl
unmet-still marks dests (v ∷ vs) e =
    let far = leb-true 64 (get_or dests v 0) (and_left (leb 64 (get_or dests v 0)) (all_down dests vs) e) in
    rw (le-ltb (get_or dests v 0) 64 far) (unmet-still marks dests vs (and_right (leb 64 (get_or dests v 0)) (all_down dests vs) e))

pub list-still : (places dests vms : List ℕ) → all_down dests vms ≡ true → true ≡ list_unmet places dests vms
list-still places dests vms e = sym (unmet-still (start_marks (replicate 256 false) places vms) dests vms e)

-- a constraint, by its kind
module _ (places dests : List ℕ) where
  pub spread-list : (k : Constraint) → kind_of k ≡ Spread → list_unmet places dests (vms_of k) ≡ spread_ok places dests k
  unfolding spread_ok kind_of vms_of
  spread-list (ban vms nodes) e = cc
  spread-list (fence vms nodes) e = cc
  spread-list (spread vms) e = refl
  spread-list (latency vms groups) e = cc
  spread-list (before first second) e = cc

  pub spread-none : (k : Constraint) → (kind_of k ≡ Spread → ⊥) → true ≡ spread_ok places dests k
  unfolding spread_ok kind_of
  spread-none (ban vms nodes) n = refl
  spread-none (fence vms nodes) n = refl
  spread-none (spread vms) n = absurd (n refl)
  spread-none (latency vms groups) n = refl
  spread-none (before first second) n = refl
