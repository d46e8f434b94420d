use Rattle.rules.proofs.Laws.Mates.{spread-list, spread-none}
use Rattle.rules.proofs.loads.Running.spread_kept.Goals as goal

pub returns-in-Spread : goal.returns-in-Spread
returns-in-Spread c = let e = spread-list c.args.self.now.places.now c.args.self.now.dests.now c.args.constraint.now (rw c.kind.ensures at c.in-Spread.is) in cc

pub returns-in_default : goal.returns-in_default
returns-in_default c = spread-none c.args.self.now.places.now c.args.self.now.dests.now c.args.constraint.now (rw c.kind.ensures at c.in_default.not-Spread)
