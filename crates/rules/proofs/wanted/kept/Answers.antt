use Rattle.rules.proofs.Laws.Targets.{kept-ban, kept-fence, kept-spread, kept-latency, kept-before}
use Rattle.rules.proofs.wanted.kept.Goals as goal

pub returns-in-Ban : goal.returns-in-Ban
returns-in-Ban c = let e = kept-ban c.args.places.now c.args.constraint.now (rw c.kind.ensures at c.in-Ban.is) in cc

pub returns-in-Fence : goal.returns-in-Fence
returns-in-Fence c = let e = kept-fence c.args.places.now c.args.constraint.now (rw c.kind.ensures at c.in-Fence.is) in cc

pub returns-in-Spread : goal.returns-in-Spread
returns-in-Spread c = let e = kept-spread c.args.places.now c.args.constraint.now (rw c.kind.ensures at c.in-Spread.is) in cc

pub returns-in-Latency : goal.returns-in-Latency
returns-in-Latency c = let e = kept-latency c.args.places.now c.args.constraint.now (rw c.kind.ensures at c.in-Latency.is) in cc

pub returns-in-Before : goal.returns-in-Before
returns-in-Before c = kept-before c.args.places.now c.args.constraint.now (rw c.kind.ensures at c.in-Before.is)
