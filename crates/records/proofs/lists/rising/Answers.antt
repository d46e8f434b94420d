use borrow.Author.Rules.{rules}
use native.Mathlib.Omega.{arith}
use Rattle.records.proofs.Laws.Lists.{rises-start, rises-out, rises-more, rises-end}
use Rattle.records.proofs.lists.rising.Goals as goal

pub loop-element-init : goal.loop-element-init
loop-element-init c = record { low = omega arith; rest = rises-start _ _ }

pub returns-then-x-low : goal.returns-then-x-low
returns-then-x-low c = search (rules, rises-out)

pub loop-element-preserved : goal.loop-element-preserved
loop-element-preserved c = record { low = omega arith; rest = search (rules, rises-more) }

pub returns : goal.returns
returns c = search (rules, rises-end)
