use Rattle.std.proofs.Common.{◌∙◌, sym}
use Rattle.records.proofs.Laws.Views.{no-vms}
use Rattle.records.proofs.constraints.bound_vms.Goals as goal

pub lists-requires : goal.lists-requires
lists-requires c = (c.requires, λ k. c.in_default.not-Before (c.kind_at.ensures ∙ k))

pub returns-in_default : goal.returns-in_default
returns-in_default c = c.lists.ensures.0

pub returns-in-Before : goal.returns-in-Before
returns-in-Before c = no-vms _ (sym c.kind_at.ensures ∙ c.in-Before.is)
