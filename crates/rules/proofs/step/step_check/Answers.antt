use borrow.Author.Tests.{not-true, not-false}
use borrow.Author.Rules.{rules}
use Rattle.rules.proofs.Laws.Check.{named-held, named-aims, step-misnamed, step-elsewhere, step-forbidden, step-running}
use Rattle.rules.proofs.step.step_check.Goals as goal

pub returns-then-not-well_named : goal.returns-then-not-well_named
returns-then-not-well_named c = search (rules, step-misnamed, not-true)

pub returns-then-not-well_sourced : goal.returns-then-not-well_sourced
returns-then-not-well_sourced c = search (rules, step-elsewhere, not-true, not-false)

pub moves_allowed-requires-clause-aimed : goal.moves_allowed-requires-clause-aimed
moves_allowed-requires-clause-aimed c = search (rules, named-aims, not-false)

pub returns-then-not-moves_allowed : goal.returns-then-not-moves_allowed
returns-then-not-moves_allowed c = search (rules, step-forbidden, not-true, not-false)

pub running_check-requires : goal.running_check-requires
running_check-requires c = search (rules, named-held, not-false)

pub returns : goal.returns
returns c = search (rules, step-running, not-false)
