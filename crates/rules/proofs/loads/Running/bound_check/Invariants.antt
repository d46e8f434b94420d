use lib.ListN.{length}
use mathlib.Core.Bool.{true, ◌&&◌}
use mathlib.Core.Path.{◌≡◌}
use Rattle.records.specs.Base.{all}
use Rattle.records.specs.Room.{constraint_ok}
use Rattle.rules.specs.Inner.{spread_ok, turn_ok}
use Rattle.rules.proofs.loads.Running.bound_check.Given as goal

abbrev pub invariant-loop-constraint : goal.invariant-loop-constraint
invariant-loop-constraint l = record {
  sound : all (constraint_ok (length l.self.cluster.now.vms) (length l.self.cluster.now.nodes)) l.constraint-iterator ≡ true;
  apart : all (spread_ok l.self.places.now l.self.dests.now) l.constraint-iterator ≡ all (spread_ok l.self.places.now l.self.dests.now) l.self.cluster.now.constraints;
  turns : (l.in_turn && all (turn_ok l.self.cluster.now l.self.places.now l.self.dests.now) l.constraint-iterator) ≡ all (turn_ok l.self.cluster.now l.self.places.now l.self.dests.now) l.self.cluster.now.constraints;
}
