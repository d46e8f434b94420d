use Rattle.std.proofs.Common.{◌≡◌, ◌+◌, ◌-◌, arith}
use Rattle.records.proofs.Laws.Parts.{behind_short, behind_long, behind_more, behind_all}
use Rattle.records.proofs.walk.behind.Goals as goal

pub returns-in_err-size : goal.returns-in_err-size
returns-in_err-size c =
    rw c.from_residual.ensures (behind_short _ _ _ _ c.loop.invariant.within c.loop.invariant.rest (omega arith) c.in_err-size.ensures)

pub returns-in_err-rest : goal.returns-in_err-rest
returns-in_err-rest c =
    let front = c.in_ok-size.ensures in
    rw c.from_residual-in_err-rest.ensures
    (behind_long _ _ _ _ c.loop.invariant.within c.loop.invariant.rest _ _ (omega arith) front.0 front.3 c.in_err-rest.ensures.lookup.0)

pub loop-preserved : goal.loop-preserved
loop-preserved c =
    let front = c.in_ok-size.ensures in
    let after = c.in_ok-rest.ensures.lookup.0 in
    let w = behind_more _ _ _ _ c.loop.invariant.within c.loop.invariant.rest _ _ _ (omega arith) front.0 front.2 front.3 after.2 after.3 in
    let e : c.args.count - (c.loop.counter + 1) ≡ c.args.count - c.loop.counter - 1 = omega arith in
    record { within = w.0; rest = rw e w.1 }

pub returns : goal.returns
returns c = behind_all _ _ _ _ c.loop.invariant.within c.loop.invariant.rest (omega arith)
