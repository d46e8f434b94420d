use Rattle.std.proofs.Common.{◌≡◌, ◌+◌, ◌-◌, ap, arith}
use Rattle.records.specs.Inner.{shown_rest}
use Rattle.records.proofs.Laws.Groups.{groups-bad, groups-more, groups-end}
use Rattle.records.proofs.groups.groups.Goals as goal

pub returns-in_err-behind : goal.returns-in_err-behind
returns-in_err-behind c = rw c.from_residual.ensures (groups-bad _ _ _ _ _ c.group.ensures _ _ c.loop.invariant.left (omega arith) (ap shown_rest c.in_err-behind.was))

pub loop-preserved : goal.loop-preserved
loop-preserved c =
    let e : c.args.count - (c.loop.counter + 1) ≡ c.args.count - c.loop.counter - 1 = omega arith in
    record { left = rw e (groups-more _ _ _ _ _ c.group.ensures _ _ c.loop.invariant.left (omega arith) _ (ap shown_rest c.in_ok-behind.was)) }

pub returns : goal.returns
returns c = groups-end _ _ _ _ _ c.loop.invariant.left (omega arith)
