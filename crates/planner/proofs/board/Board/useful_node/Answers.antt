use mathlib.Core.Path.{sym, ◌∙◌}
use native.Mathlib.Omega.{arith}
use lib.ListN.{length-set}
use Rattle.rules.proofs.Laws.Turns.{set-placed}
use Rattle.planner.proofs.Laws.Joining.{node-place}
use Rattle.planner.proofs.Laws.Lone.{useful-kept, useful-off, useful-waits, useful-told, place-there}
use Rattle.planner.proofs.Laws.Pivots.{useful-nobody, pivot-node-there}
use Rattle.planner.proofs.board.Board.useful_node.Goals as goal
use Rattle.planner.proofs.board.Board.useful_node.Goals.{then-p-target-via-then-p-target, then-p-target-via-else-p-target+then-p-ge-NODES}

pub returns-then-p-target : goal.returns-then-p-target
returns-then-p-target c = elim c.then-p-target.branch [
  | then-p-target-via-then-p-target w ↦
      useful-kept _ _ _ _ _ c.args.self.now.known.placed c.place-p.ensures c.target.ensures.target c.args.self.now.known.sound c.requires.vm w.if-p-target.true
  | then-p-target-via-else-p-target+then-p-ge-NODES w ↦
      useful-off _ _ _ _ _ c.args.self.now.known.placed c.place-p.ensures c.target.ensures.target c.args.self.now.known.sound c.requires.vm w.if-p-ge-NODES.true
]

pub returns-in_err-d : goal.returns-in_err-d
returns-in_err-d c = c.from_residual.ensures ∙ useful-nobody _ _ _ (sym c.pivot_node.ensures ∙ c.in_err-d.was)

pub overflow_cast-places : goal.overflow_cast-places
overflow_cast-places c =
    let d = pivot-node-there _ _ _ _ (sym c.pivot_node.ensures ∙ c.in_ok-d.was) in
    let m = c.args.self.now.known.sound.nodes-most in
    record { fits = omega arith }

pub invariant_of-then : goal.invariant_of-then
invariant_of-then c =
    let k = c.args.self.now.known in
    let at = sym c.pivot_node.ensures ∙ c.in_ok-d.was in
    record {
      known = record {
        sound = k.sound;
        allowed = k.allowed;
        paired = k.paired;
        waiting = useful-waits _ _ _ _ _ k.placed c.place-p.ensures c.target.ensures.target k.sound c.requires.vm c.if-p-target.false c.if-p-ge-NODES.false _ at _ k.waiting k.size;
        placed = set-placed _ _ _ _ k.placed (node-place c.args.self.now.cluster.now _ (pivot-node-there _ _ _ _ at));
        size = length-set _ _ _ ∙ k.size;
      };
    }

pub some_comes-requires : goal.some_comes-requires
some_comes-requires c = place-there _ _ _ _ c.place-p.ensures c.args.self.now.known.sound c.args.self.now.known.placed c.if-p-ge-NODES.false

pub returns : goal.returns
returns c =
    let k = c.args.self.now.known in
    c.then_some.ensures ∙
    useful-told _ _ _ _ _ k.placed c.place-p.ensures c.target.ensures.target k.sound c.requires.vm c.if-p-target.false c.if-p-ge-NODES.false _
    (sym c.pivot_node.ensures ∙ c.in_ok-d.was) _ c.some_comes.ensures c.requires.none k.size
