use Rattle.std.proofs.Common.{◌∙◌, ap}
use mathlib.Core.Bool.{true}
use mathlib.Core.List.{List}
use lib.ListN.{replicate}
use Rattle.records.specs.Room.{Constraint}
use Rattle.rules.specs.Inner.{applied_all}
use Rattle.rules.proofs.Laws.Allow.{allow-end}
use Rattle.rules.proofs.allow.fill_allow_table.Goals as goal

pub loop-constraint-init : goal.loop-constraint-init
loop-constraint-init c =
    rw c.open.ensures
    (ap (λ (ks : List Constraint). applied_all (replicate 256 (replicate 64 true)) ks) (c.into_iter-constraint-iterator.ensures.into_iter_gives ∙ c.constraints-constraint-items.ensures.constraints))

pub returns : goal.returns
returns c = record {
  table = allow-end c.args.cluster.now c.loop-constraint.table c.loop-constraint.constraint-iterator c.constraints-constraint-items.ensures.sound
      c.loop-constraint.invariant c.in-None.ensures.steps.0;
  sound = c.constraints-constraint-items.ensures.sound;
}
