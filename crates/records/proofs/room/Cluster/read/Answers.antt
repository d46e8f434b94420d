use Rattle.std.proofs.Common.{◌∙◌, sym, arith}
use Rattle.std.proofs.lemmas.Result.{err_from_is_err_and}
use Rattle.records.proofs.Laws.Reading.{read-kept, read_damaged, read_whole, read_places}
use Rattle.records.proofs.Laws.Sound.{read-sound}
use Rattle.records.proofs.room.Cluster.read.Goals as goal

pub returns-then-reserve-gt-MOST_RESERVE-clause-read : goal.returns-then-reserve-gt-MOST_RESERVE-clause-read
returns-then-reserve-gt-MOST_RESERVE-clause-read c = read-kept _ _ (omega arith)

pub returns-in_err-cluster_check-clause-read : goal.returns-in_err-cluster_check-clause-read
returns-in_err-cluster_check-clause-read c =
    let p = err_from_is_err_and c.from_residual.result c.from_residual.ensures.1 in
    rw (p.1, p.2) (read_damaged _ _ _ (omega arith) (sym c.cluster_check.ensures.is ∙ c.in_err-cluster_check.was))

pub invariant_of-result : goal.invariant_of-result
invariant_of-result c =
    let w = sym c.cluster_check.ensures.is ∙ c.in_ok-cluster_check.was in
    record { reserve-most = omega arith; whole = w; sound = read-sound _ _ w }

pub returns-clause-read : goal.returns-clause-read
returns-clause-read c = read_whole _ _ (omega arith) (sym c.cluster_check.ensures.is ∙ c.in_ok-cluster_check.was)

pub returns-clause-sound : goal.returns-clause-sound
returns-clause-sound c = (invariant_of-result c).sound

pub returns-clause-places : goal.returns-clause-places
returns-clause-places c = read_places _ _ (sym c.cluster_check.ensures.is ∙ c.in_ok-cluster_check.was)
