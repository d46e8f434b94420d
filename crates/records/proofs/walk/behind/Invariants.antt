use Rattle.std.proofs.Common.{◌≡◌, ◌+◌, ◌-◌, ◌≤◌, length}
use Rattle.records.specs.Room.{parts_end}
use Rattle.records.proofs.walk.behind.Given as goal

abbrev pub invariant-loop : goal.invariant-loop
invariant-loop l = record {
  within : length l.rest ≤ length l.constraints;
  rest : length l.constraints - length l.rest + parts_end l.rest 0 (l.count - l.counter) ≡ parts_end l.constraints 0 l.count;
}
