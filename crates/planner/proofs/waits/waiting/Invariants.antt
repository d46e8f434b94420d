use mathlib.Core.Bool.{true, false}
use mathlib.Core.Path.{◌≡◌}
use lib.ListN.{length, replicate}
use Rattle.records.specs.Base.{all}
use Rattle.records.specs.Room.{constraint_ok}
use Rattle.planner.specs.Inner.{all_held}
use Rattle.planner.proofs.waits.waiting.Given as goal

abbrev pub invariant-loop-constraint : goal.invariant-loop-constraint
invariant-loop-constraint at = record {
  rest : all_held at.cluster at.places at.marks at.constraint-iterator ≡ all_held at.cluster at.places (replicate 256 false) at.cluster.constraints;
  in_range : all (constraint_ok (length at.cluster.vms) (length at.cluster.nodes)) at.constraint-iterator ≡ true;
}
