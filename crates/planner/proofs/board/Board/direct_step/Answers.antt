use borrow.Author.Rules.{rules}
use mathlib.Core.Path.{◌∙◌}
use native.Mathlib.Omega.{arith}
use Rattle.planner.proofs.Laws.Turning.{directing-start, directing-goes, directing-stays, directing-end}
use Rattle.planner.proofs.board.Board.direct_step.Goals as goal
use Rattle.planner.proofs.board.Board.direct_step.Goals.{then-may_join, else-may_join}

pub loop-v-init : goal.loop-v-init
loop-v-init c = search (rules, directing-start)

pub loop-v-preserved : goal.loop-v-preserved
loop-v-preserved c = elim c.if-may_join.branch [
  | then-may_join w ↦
      rw (w.dests-is, w.sums-is)
      (directing-goes _ _ _ _ _ _ _ c.loop-v.invariant c.args.self.now.known.sound (omega arith) (c.from-d.ensures ∙ c.target-to.ensures.target) c.may_join.ensures
      _ _ w.need_of.ensures w.with.ensures w.if-may_join.true (omega arith) _ c.from-d.ensures)
  | else-may_join w ↦
      rw (w.dests-is, w.sums-is)
      (directing-stays _ _ _ _ _ _ _ c.loop-v.invariant c.args.self.now.known.sound (omega arith) (c.from-d.ensures ∙ c.target-to.ensures.target) c.may_join.ensures w.if-may_join.false)
]

pub returns : goal.returns
returns c = directing-end _ _ _ _ _ c.loop-v.invariant (omega arith)
