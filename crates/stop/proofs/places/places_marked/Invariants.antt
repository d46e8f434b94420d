use mathlib.Core.Path.{◌≡◌}
use Rattle.std.specs.Iterator.Adapters.{zip_first, zip_second}
use Rattle.std.specs.Slice.Iter.{iter_rest}
use Rattle.rules.specs.Moments.{after}
use Rattle.stop.specs.Stops.{ended_moves}
use Rattle.stop.proofs.places.places_marked.Given as goal

abbrev pub invariant-loop-ended : goal.invariant-loop-ended
invariant-loop-ended l = after l.places (ended_moves (zip_first l.ended-iterator) (iter_rest (zip_second l.ended-iterator))) ≡ after l.initial.places (ended_moves l.step l.marks)
