-- Laws on refusal 15: where a VM can be sent.
use Prim.Native.Nat.{ℕ, ◌<◌}
use mathlib.Core.Bool.{true}
use mathlib.Core.Path.{◌≡◌}
use lib.ListN.{length}
use borrow.Author.Tests.{lt-ltb}
use Rattle.records.specs.Room.{Room}
use Rattle.rules.specs.Rules.{aims}

pub aims-node : (room : Room) (v d : ℕ) → d < length room.nodes → true ≡ aims room v d
unfolding aims
aims-node room v d h = rw (lt-ltb d (length room.nodes) h)
