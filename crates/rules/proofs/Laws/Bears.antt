-- Laws on what a node bears: the sums by themselves, a smaller tally, and a VM that is sent to a node beside others.
use Prim.Native.Nat.{ℕ, ◌≤◌}
use mathlib.Core.Bool.{Bool, true, false, ◌||◌, or-true, and-true}
use mathlib.Core.Logic.{◌⊎◌, inl, inr, ⊎_elim}
use mathlib.Core.Path.{◌≡◌, refl, sym, ◌∙◌}
use native.Mathlib.Omega.{arith}
use lib.Dec.{leb}
use borrow.Author.Tests.{leb-true, le-leb, eqb-true, eq-eqb, ne_eqb}
use Rattle.records.specs.Base.{pick}
use Rattle.records.specs.Room.{Node, Vm, Room, node_of, on_node}
use Rattle.records.proofs.Laws.Bools.{and_left, and_right, and_both}
use Rattle.rules.specs.Moments.{with_vm, within_memory, within, is_idle, bears, bears_at}
use Rattle.rules.specs.declared.tally.Tally.{Tally}

-- ---- a node

module _ (node : Node) (t : Tally) (vm : Vm) where
  -- by the sums: the memory is within, and the VM is idle or the CPU is within too
  pub bears-by : t.memory ≤ node.memory → (vm.cpu ≡ 0) ⊎ (t.cpu ≤ node.cpu) → bears node t vm ≡ true
  unfolding bears
  bears-by m c =
      and_both (le-leb t.memory node.memory m)
      (⊎_elim (λ z. rw (eq-eqb vm.cpu 0 z)) (λ l. rw (le-leb t.cpu node.cpu l) (or-true (is_idle vm))) c)

  module _ (e : bears node t vm ≡ true) where
    pub bears-memory : t.memory ≤ node.memory
    unfolding bears
    bears-memory = leb-true t.memory node.memory (and_left (leb t.memory node.memory) _ e)

    pub bears-cpu : (vm.cpu ≡ 0) ⊎ (t.cpu ≤ node.cpu)
    unfolding bears
    bears-cpu = go (is_idle vm) refl (and_right (leb t.memory node.memory) _ e)
      where
        go : (b : Bool) → is_idle vm ≡ b → (b || leb t.cpu node.cpu) ≡ true → (vm.cpu ≡ 0) ⊎ (t.cpu ≤ node.cpu)
        go true i h = inl (eqb-true vm.cpu 0 i)
        go false i h = inr (leb-true t.cpu node.cpu h)

  -- by the VM: for an idle one the memory alone, for an active one both sums
  pub bears-idle : vm.cpu ≡ 0 → bears node t vm ≡ within_memory node t
  unfolding bears
  bears-idle z = rw (eq-eqb vm.cpu 0 z) (and-true (within_memory node t))

  pub bears-active : (vm.cpu ≡ 0 → ⊥) → bears node t vm ≡ within node t
  unfolding bears within
  bears-active h = rw (ne_eqb vm.cpu 0 h)

-- ---- a place

-- a test of a node that goes over to another, be it in another room, does so of places
pub at_more : (room other : Room) (d : ℕ) (s t : Tally) (v w : Vm) → (bears (node_of room d) s v ≡ true → bears (node_of other d) t w ≡ true) →
    bears_at room d s v ≡ true → bears_at other d t w ≡ true
unfolding bears_at
at_more room other d s t v w h e = go (on_node d) e
  where
    go : (b : Bool) → pick b (bears (node_of room d) s v) true ≡ true → pick b (bears (node_of other d) t w) true ≡ true
    go true x = h x
    go false x = refl

pub at-node : (room : Room) (d : ℕ) (t : Tally) (vm : Vm) → on_node d ≡ true → bears_at room d t vm ≡ bears (node_of room d) t vm
unfolding bears_at
at-node room d t vm n = rw n

pub at_none : (room : Room) (d : ℕ) (t : Tally) (vm : Vm) → on_node d ≡ false → bears_at room d t vm ≡ true
unfolding bears_at
at_none room d t vm n = rw n

-- what bears a tally for a VM bears a smaller one for it
pub bears-less : (room : Room) (d : ℕ) (s t : Tally) (vm : Vm) → s.memory ≤ t.memory → s.cpu ≤ t.cpu → bears_at room d t vm ≡ true → bears_at room d s vm ≡ true
bears-less room d s t vm m c =
    at_more room room d t s vm vm (λ e.
    let x = bears-memory (node_of room d) t vm e in
    bears-by (node_of room d) s vm (omega arith) (⊎_elim inl (λ y. inr (omega arith)) (bears-cpu (node_of room d) t vm e)))

-- a VM v that is borne beside a VM w leaves w borne: the memory is tested for v too, and an idle v adds no CPU
pub bears-beside : (room : Room) (d : ℕ) (here : Tally) (v w : Vm) → bears_at room d here w ≡ true → bears_at room d (with_vm here v) v ≡ true →
    bears_at room d (with_vm here v) w ≡ true
bears-beside room d here v w old new = go (on_node d) refl
  where
    go : (b : Bool) → on_node d ≡ b → bears_at room d (with_vm here v) w ≡ true
    go true n =
        let o = sym (at-node room d here w n) ∙ old in
        let f = sym (at-node room d (with_vm here v) v n) ∙ new in
        let m = bears-memory (node_of room d) (with_vm here v) v f in
        at-node room d (with_vm here v) w n ∙
        bears-by (node_of room d) (with_vm here v) w m
        (⊎_elim inl (λ l. inr (⊎_elim (λ z. omega arith) (λ k. k) (bears-cpu (node_of room d) (with_vm here v) v f))) (bears-cpu (node_of room d) here w o))
    go false n = at_none room d (with_vm here v) w n
