use Rattle.std.proofs.Common.{◌≡◌, ◌-◌, ◌*◌, ◌≤◌, length}
use Rattle.records.specs.Inner.{steps_ok}
use Rattle.records.proofs.plan.steps_sound.Given as goal

abbrev pub invariant-loop : goal.invariant-loop
invariant-loop l = record {
  within : l.at ≤ length l.s;
  small : l.moves ≤ l.counter * 256;
  rest : steps_ok l.s l.at (l.count - l.counter) l.moves ≡ steps_ok l.s 7 l.count 0;
}
