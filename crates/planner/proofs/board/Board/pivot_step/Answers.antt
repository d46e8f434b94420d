use mathlib.Core.Path.{refl, sym, ◌∙◌}
use borrow.Author.Rules.{rules}
use native.Mathlib.Omega.{arith}
use Rattle.planner.proofs.Laws.Lone.{first-start, first_found, first_more, first-none}
use Rattle.planner.proofs.Laws.Pivots.{useful-node-there}
use Rattle.planner.proofs.board.Board.pivot_step.Goals as goal

pub loop-v-init : goal.loop-v-init
loop-v-init c = search (rules, first-start)

pub overflow_cast-dests : goal.overflow_cast-dests
overflow_cast-dests c =
    let d = useful-node-there _ _ _ _ (sym c.useful_node.ensures ∙ c.in-Some.is) in
    let m = c.args.self.now.known.sound.nodes-most in
    record { fits = omega arith }

pub returns-in-Some : goal.returns-in-Some
returns-in-Some c = first_found _ _ _ _ c.loop-v.invariant _ c.useful_node.ensures (omega arith) _ _ c.in-Some.is refl

pub loop-v-preserved : goal.loop-v-preserved
loop-v-preserved c = first_more _ _ _ _ c.loop-v.invariant _ c.useful_node.ensures (omega arith) c.in_default.is

pub returns : goal.returns
returns c = first-none _ _ _ _ c.loop-v.invariant (omega arith)
