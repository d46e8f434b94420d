use mathlib.Core.Path.{◌≡◌}
use lib.ListN.{take}
use Rattle.std.specs.Iterator.Adapters.{take_source, take_count}
use Rattle.rules.specs.Promises.{after_all}
use Rattle.stop.proofs.places.places_before.Given as goal

abbrev pub invariant-loop-step : goal.invariant-loop-step
invariant-loop-step l = after_all l.places (take (take_count l.step-iterator) (take_source l.step-iterator)) ≡ after_all l.initial.places (take l.n l.plan)
