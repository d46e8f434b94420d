use mathlib.Core.Path.{◌≡◌}
use Rattle.records.specs.Room.{updated_to}
use Rattle.records.specs.Plan.{written}
use Rattle.stop.proofs.record.write_record.Given as goal

abbrev pub invariant-loop-v : goal.invariant-loop-v
invariant-loop-v l = l.out ≡ written l.fn.out 0 (updated_to l.cluster l.places l.v)
