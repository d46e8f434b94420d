use Rattle.records.specs.Bytes.{bytes16}
use Rattle.records.proofs.Laws.Written.{plain-written, naming-written}
use Rattle.records.proofs.write.append_single.Goals as goal

pub returns-in-Unnamed : goal.returns-in-Unnamed
unfolding bytes16
returns-in-Unnamed c =
    let count = rw c.to_be_bytes.ensures at c.put-place.ensures in
    plain-written _ _ _ _ _ c.requires count.out count.end _ _ c.in-Unnamed.is c.put.ensures.out c.put.ensures.end

pub returns-in-Named : goal.returns-in-Named
unfolding bytes16
returns-in-Named c =
    let count = rw c.to_be_bytes.ensures at c.put-place.ensures in
    naming-written _ _ _ _ _ c.requires count.out count.end _ _ _ c.in-Named.is c.put-in-Named.ensures.out c.put-in-Named.ensures.end
