use mathlib.Core.Path.{refl}
use Rattle.std.proofs.lemmas.Result.{err_from_is_err_and}
use Rattle.planner.proofs.Laws.Answers.{answer-read, answer-target, answer-buffer, answer-taken}
use Rattle.planner.proofs.plan.built.Goals as goal

pub returns-in_err-cluster : goal.returns-in_err-cluster
returns-in_err-cluster c =
    let p = err_from_is_err_and c.from_residual.result c.from_residual.ensures.1 in
    rw (p.1, p.2) (answer-read _ _ _ _ c.read.ensures.read _ _ c.in_err-cluster.was refl)

pub returns-in_err-target_check : goal.returns-in_err-target_check
returns-in_err-target_check c =
    let p = err_from_is_err_and c.from_residual-in_err-target_check.result c.from_residual-in_err-target_check.ensures.1 in
    rw (p.1, p.2) (answer-target _ _ _ _ c.read.ensures.read _ c.in_ok-cluster.was _ c.target_check.ensures _ _ c.in_err-target_check.was refl)

pub returns-then-out-lt-LEAST_BUFFER : goal.returns-then-out-lt-LEAST_BUFFER
returns-then-out-lt-LEAST_BUFFER c =
    answer-buffer _ _ _ _ c.read.ensures.read _ c.in_ok-cluster.was _ c.target_check.ensures c.in_ok-target_check.was c.if-out-lt-LEAST_BUFFER.true

pub returns : goal.returns
returns c =
    answer-taken _ _ _ _ c.read.ensures.read _ c.in_ok-cluster.was _ c.target_check.ensures c.in_ok-target_check.was _ _ c.planned.ensures c.if-out-lt-LEAST_BUFFER.false
