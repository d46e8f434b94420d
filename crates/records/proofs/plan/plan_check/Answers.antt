use Rattle.std.proofs.Common.{rules}
use borrow.Author.Tests.{not-true, not-false}
use Rattle.records.proofs.Laws.Steps.{plan-empty, plan-short, plan-version, plan-length, plan-shape, plan-none}
use Rattle.records.proofs.plan.plan_check.Goals as goal

pub returns-then-is_empty : goal.returns-then-is_empty
returns-then-is_empty c = record { is = search (rules, plan-empty); bytes = λ i. (c.type_inv.s i).fits }

pub returns-then-s-lt-FIRST_STEP : goal.returns-then-s-lt-FIRST_STEP
returns-then-s-lt-FIRST_STEP c = record { is = search (rules, plan-short); bytes = λ i. (c.type_inv.s i).fits }

pub returns-then-not-version_known : goal.returns-then-not-version_known
returns-then-not-version_known c = record { is = search (rules, plan-version, not-true); bytes = λ i. (c.type_inv.s i).fits }

pub returns-then-stated_length-s : goal.returns-then-stated_length-s
returns-then-stated_length-s c = record { is = search (rules, plan-length, not-false); bytes = λ i. (c.type_inv.s i).fits }

pub returns-then-not-shape_sound : goal.returns-then-not-shape_sound
returns-then-not-shape_sound c = record { is = search (rules, plan-shape, not-true, not-false); bytes = λ i. (c.type_inv.s i).fits }

pub returns : goal.returns
returns c = record { is = search (rules, plan-none, not-false); bytes = λ i. (c.type_inv.s i).fits }
