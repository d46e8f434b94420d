use Rattle.std.proofs.Common.{◌∙◌, ap, sym, refl}
use Rattle.records.specs.Room.{kind_of, groups_of, groups_end}
use Rattle.records.proofs.Laws.Constraints.{of-latency, groups-there, groups-start, groups-all}
use Rattle.records.proofs.Laws.Views.{formed_filled, groups_sound, groups_most, no-groups}
use Rattle.records.proofs.constraints.Constraint.groups.Goals as goal

pub lists-requires : goal.lists-requires
lists-requires c = (formed_filled _ c.self.invariant, λ k. of-latency _ c.in-Latency.is (c.kind.ensures ∙ sym (ap kind_of c.self.view_is) ∙ k))

pub slice_bounds-rest-count : goal.slice_bounds-rest-count
slice_bounds-rest-count c = groups-there _ (formed_filled _ c.self.invariant) (ap kind_of c.self.view_is ∙ sym c.kind.ensures ∙ c.in-Latency.is) _ c.lists.ensures.1

pub slice_bounds-rest-start : goal.slice_bounds-rest-start
slice_bounds-rest-start c = groups-there _ (formed_filled _ c.self.invariant) (ap kind_of c.self.view_is ∙ sym c.kind.ensures ∙ c.in-Latency.is) _ c.lists.ensures.1

pub bounds-others-0 : goal.bounds-others-0
bounds-others-0 c = groups-there _ (formed_filled _ c.self.invariant) (ap kind_of c.self.view_is ∙ sym c.kind.ensures ∙ c.in-Latency.is) _ c.lists.ensures.1

pub invariant_of-t-6 : goal.invariant_of-t-6
invariant_of-t-6 c = groups-start _ (formed_filled _ c.self.invariant) (ap kind_of c.self.view_is ∙ sym c.kind.ensures ∙ c.in-Latency.is) _ c.lists.ensures.1 _ c.from-left.ensures

pub invariant_of-result : goal.invariant_of-result
unfolding groups_end
invariant_of-result c = refl

pub returns-in-Latency-clause-groups : goal.returns-in-Latency-clause-groups
returns-in-Latency-clause-groups c =
    groups-all _ (formed_filled _ c.self.invariant) (ap kind_of c.self.view_is ∙ sym c.kind.ensures ∙ c.in-Latency.is) _ c.lists.ensures.1 _ c.from-left.ensures ∙ ap groups_of c.self.view_is

pub returns-in-Latency-clause-sound : goal.returns-in-Latency-clause-sound
returns-in-Latency-clause-sound c = groups_sound _ _ c.self.invariant c.self.view_is _ (returns-in-Latency-clause-groups c)

pub returns-in-Latency-clause-few : goal.returns-in-Latency-clause-few
returns-in-Latency-clause-few c = groups_most _ _ c.self.invariant c.self.view_is _ (returns-in-Latency-clause-groups c)

pub returns-in_default-clause-groups : goal.returns-in_default-clause-groups
returns-in_default-clause-groups c = no-groups _ (λ k. c.in_default.not-Latency (c.kind.ensures ∙ k))

pub returns-in_default-clause-sound : goal.returns-in_default-clause-sound
returns-in_default-clause-sound c = groups_sound _ _ c.self.invariant c.self.view_is _ (returns-in_default-clause-groups c)

pub returns-in_default-clause-few : goal.returns-in_default-clause-few
returns-in_default-clause-few c = groups_most _ _ c.self.invariant c.self.view_is _ (returns-in_default-clause-groups c)
