use borrow.Author.Rules.{rules}
use Rattle.planner.proofs.Laws.Making.{next-direct, next-none, next-pivot}
use Rattle.planner.proofs.steps.next_step.Goals as goal

pub invariant_of-board : goal.invariant_of-board
invariant_of-board c = record {
  known = record {
    sound = c.waiting-waits.ensures.sound;
    allowed = c.args.tables.now.known.allowed;
    paired = c.args.tables.now.known.paired;
    waiting = c.waiting-waits.ensures.marks;
    placed = c.requires;
    size = search (rules, c.well_formed);
  };
}

pub returns-then-has_moves : goal.returns-then-has_moves
returns-then-has_moves c = next-direct _ _ _ _ c.has_moves.ensures c.direct_step-dests.ensures c.waiting-waits.ensures.sound c.if-has_moves.true

pub pivot_step-requires : goal.pivot_step-requires
pivot_step-requires c = next-none _ _ _ _ c.has_moves.ensures c.direct_step-dests.ensures c.waiting-waits.ensures.sound c.if-has_moves.false

pub returns : goal.returns
returns c = next-pivot _ _ _ _ c.has_moves.ensures c.direct_step-dests.ensures c.waiting-waits.ensures.sound _ c.pivot_step.ensures c.if-has_moves.false
