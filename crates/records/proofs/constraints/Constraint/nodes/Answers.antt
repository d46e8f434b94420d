use Rattle.std.proofs.Common.{◌∙◌, ap}
use Rattle.records.specs.Room.{nodes_of}
use Rattle.records.proofs.Laws.Views.{formed_filled, formed-nodes}
use Rattle.records.proofs.constraints.Constraint.nodes.Goals as goal

pub named_nodes-requires : goal.named_nodes-requires
named_nodes-requires c = formed_filled _ c.self.invariant

pub returns-clause-nodes : goal.returns-clause-nodes
returns-clause-nodes c = c.named_nodes.ensures ∙ ap nodes_of c.self.view_is

pub returns-clause-below : goal.returns-clause-below
returns-clause-below c = formed-nodes _ _ c.self.invariant c.named_nodes.ensures
