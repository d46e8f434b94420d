use Rattle.records.proofs.Laws.Reading.{read_places}
use Rattle.records.proofs.Laws.Sound.{read-sound}
use Rattle.records.proofs.room.Cluster.whole.Goals as goal

pub invariant_of-result : goal.invariant_of-result
invariant_of-result c = record {
  reserve-most = c.requires.taken;
  whole = c.requires.whole;
  sound = read-sound _ _ c.requires.whole;
}

pub returns-clause-places : goal.returns-clause-places
returns-clause-places c = read_places _ _ c.requires.whole
