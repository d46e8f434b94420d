use Rattle.std.proofs.Common.{◌∙◌, ap}
use Rattle.records.specs.Base.{all}
use Rattle.records.specs.Room.{Room, constraint_of, well_formed}
use Rattle.std.specs.Prelude.{map}
use Rattle.records.proofs.Laws.Cluster.{whole-ends}
use Rattle.records.proofs.Laws.Views.{parts_formed, parts_all}
use Rattle.records.proofs.room.Cluster.constraints.Goals as goal

pub parts-requires : goal.parts-requires
parts-requires c = whole-ends _ c.self.invariant.whole

pub invariant_of-result : goal.invariant_of-result
invariant_of-result c = ap (all (well_formed 256 64)) c.parts.ensures ∙ parts_formed _ _ c.self.invariant

pub returns-clause-constraints : goal.returns-clause-constraints
returns-clause-constraints c =
    ap (map constraint_of) c.parts.ensures ∙ parts_all c.self.inside.reserve c.self.inside.bytes.now ∙ ap (λ (room : Room). room.constraints) c.self.view_is
