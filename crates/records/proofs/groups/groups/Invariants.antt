use Prim.Native.Nat.{◌-◌}
use mathlib.Core.Path.{◌≡◌}
use Rattle.records.specs.Inner.{groups_read, unmarked}
use Rattle.records.proofs.groups.groups.Given as goal

abbrev pub invariant-loop : goal.invariant-loop
invariant-loop l = record {
  left : groups_read l.limit l.behind l.seen (l.count - l.counter) ≡ groups_read l.limit l.rest unmarked l.count;
}
