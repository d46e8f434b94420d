use Rattle.std.proofs.Common.{ℕ, ◌*◌, ap, arith}
use Rattle.records.proofs.Laws.Steps.{steps-more, steps-end}
use Rattle.records.proofs.plan.steps_sound.Goals as goal

pub loop-preserved : goal.loop-preserved
loop-preserved c =
    let size = ap (λ (w : ℕ). c.count16-n.result * w) c.move_width-width.ensures.0 in
    record {
      within = omega arith;
      small = omega arith;
      rest = steps-more _ _ _ _ _ c.loop.invariant.rest _ c.count16-n.ensures.0 (omega arith) _ size _ (omega arith) (omega arith) (omega arith);
    }

pub returns-then-moves-le-MOST_MOVES : goal.returns-then-moves-le-MOST_MOVES
returns-then-moves-le-MOST_MOVES c = steps-end _ _ _ _ _ c.loop.invariant.rest (omega arith) (omega arith)
