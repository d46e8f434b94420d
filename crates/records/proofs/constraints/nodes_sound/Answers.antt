use borrow.Author.Rules.{rules}
use Rattle.records.proofs.Laws.Constraints.{nodes-fill, nodes-bad}
use Rattle.records.proofs.constraints.nodes_sound.Goals as goal

pub returns : goal.returns
returns c = search (rules, nodes-fill, nodes-bad)
