use Prim.Native.Nat.{◌+◌, ◌≤◌}
use mathlib.Core.Path.{◌≡◌}
use lib.ListN.{length}
use Rattle.records.specs.Plan.{moves_bytes, written}
use Rattle.planner.specs.Picks.{from_places}
use Rattle.planner.specs.Inner.{moves_in}
use Rattle.planner.proofs.steps.put_moves.Given as goal

abbrev pub invariant-loop-v : goal.invariant-loop-v
invariant-loop-v at = record {
  few : at.count ≤ at.v;
  counted : at.count ≡ length (moves_in at.dests 0 at.v);
  bytes : at.out ≡ written at.initial.out (at.at + 2) (moves_bytes (from_places at.places (moves_in at.dests 0 at.v)));
}
