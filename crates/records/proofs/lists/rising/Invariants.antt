use Prim.Native.Nat.{◌≤◌}
use mathlib.Core.Path.{◌≡◌}
use lib.ListN.{drop}
use Rattle.records.specs.Room.{list_ok}
use Rattle.records.specs.Inner.{rises_from}
use Rattle.records.proofs.lists.rising.Given as goal

abbrev pub invariant-loop-element : goal.invariant-loop-element
invariant-loop-element l = record {
  low : l.low ≤ 256;
  rest : rises_from l.limit l.low (drop l.element-index l.list) ≡ list_ok l.limit l.list;
}
