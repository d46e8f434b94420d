use borrow.Author.Tests.{not-true, not-false}
use Rattle.planner.proofs.Laws.Joining.{place-node-there, join-stays, join-waits, join-off, join_kept, join-full, join-met}
use borrow.Author.Rules.{rules}
use Rattle.planner.proofs.board.Board.may_join.Goals as goal
use Rattle.planner.proofs.board.Board.may_join.Goals.{then-place-d-via-then-place-d, then-place-d-via-else-place-d+then-self-v, then-not-self-v-via-then-not-self-v, then-not-self-v-via-else-not-self-v+then-not-fits_with}

pub returns-then-place-d : goal.returns-then-place-d
returns-then-place-d c = elim c.then-place-d.branch [
  | then-place-d-via-then-place-d w ↦ search (rules, join-stays)
  | then-place-d-via-else-place-d+then-self-v w ↦ search (rules, join-waits)
]

pub returns-then-d-ge-NODES : goal.returns-then-d-ge-NODES
returns-then-d-ge-NODES c = search (rules, join-off)

pub fits_with-requires-clause-node : goal.fits_with-requires-clause-node
fits_with-requires-clause-node c = search (rules, place-node-there)

pub returns-then-not-self-v : goal.returns-then-not-self-v
returns-then-not-self-v c = elim c.then-not-self-v.branch [
  | then-not-self-v-via-then-not-self-v w ↦ search (rules, join_kept, place-node-there)
  | then-not-self-v-via-else-not-self-v+then-not-fits_with w ↦ search (rules, not-true, join-full, place-node-there)
]

pub returns : goal.returns
returns c = search (rules, not-false, join-met, place-node-there)
