use Rattle.rules.proofs.Laws.Allow.{applied-ban, applied-fence, applied-none}
use Rattle.rules.proofs.allow.apply.Goals as goal

pub returns-in-Ban : goal.returns-in-Ban
returns-in-Ban c = let e = applied-ban c.args.table.now c.args.constraint.now (rw c.kind.ensures at c.in-Ban.is) in cc

pub returns-in-Fence : goal.returns-in-Fence
returns-in-Fence c = let e = applied-fence c.args.table.now c.args.constraint.now (rw c.kind.ensures at c.in-Fence.is) in cc

pub returns-in_default : goal.returns-in_default
returns-in_default c = applied-none c.args.table.now c.args.constraint.now (rw c.kind.ensures at c.in_default.not-Ban) (rw c.kind.ensures at c.in_default.not-Fence)
