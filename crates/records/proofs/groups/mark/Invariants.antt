use mathlib.Core.Path.{◌≡◌}
use lib.ListN.{drop}
use Rattle.records.specs.Inner.{marked_in}
use Rattle.records.proofs.groups.mark.Given as goal

abbrev pub invariant-loop-node : goal.invariant-loop-node
invariant-loop-node l = record {
  rest : marked_in l.seen (drop l.node-index l.nodes) ≡ marked_in l.initial.seen l.nodes;
}
