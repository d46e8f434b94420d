use Prim.Native.Nat.{◌+◌}
use Rattle.std.specs.Iterator.Adapters.{enumerate_source, enumerate_count}
use Rattle.rules.specs.Inner.{Walking}
use Rattle.rules.proofs.verdict.plan_judged.Given as goal

abbrev pub invariant-loop-before : goal.invariant-loop-before
invariant-loop-before l = Walking l.cluster l.plan l.places (enumerate_source l.before-iterator) (enumerate_count l.before-iterator + 1)
