use Rattle.std.proofs.Common.{◌∙◌, ap, sym}
use Rattle.records.specs.Base.{all}
use Rattle.records.specs.Room.{well_formed}
use Rattle.records.proofs.Laws.Bools.{all_head, all_tail}
use Rattle.records.proofs.walk.ConstraintsIterator.next.Goals as goal

pub invariant_of-result : goal.invariant_of-result
invariant_of-result c = all_head (well_formed 256 64) _ _ (sym (ap (all (well_formed 256 64)) c.in_ok-part.ensures.steps) ∙ c.self.invariant)

pub invariant_of-self-2 : goal.invariant_of-self-2
invariant_of-self-2 c = all_tail (well_formed 256 64) _ _ (sym (ap (all (well_formed 256 64)) c.in_ok-part.ensures.steps) ∙ c.self.invariant)
