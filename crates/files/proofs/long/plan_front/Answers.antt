use Rattle.std.proofs.Common.{◌≡◌, ◌++◌, List, ℕ, take, length, ◌∙◌, arith, length-take}
use Rattle.std.proofs.lemmas.List.{take-append-le}
use Rattle.std.proofs.Math.Seq.{take_all}
use Rattle.files.proofs.long.plan_front.Goals as goal

written : (first short new rest : List ℕ) → new ≡ short → length new ≡ length (take 8 first) → length first ≡ 65536 → take 8 (new ++ rest) ≡ short
written first short new rest e l m =
    let h : length new ≡ 8 = omega (arith, l, length-take 8 first) in
    take-append-le 8 new rest (omega arith) ∙ take_all 8 new (omega arith) ∙ e

pub returns-clause-long : goal.returns-clause-long
returns-clause-long c = λ h. let e = c.copy_from_slice.ensures in rw (written c.args.buffer.now c.stand_in-short.result c.copy_from_slice.new.self _ e.after e.len c.told-buffer) c.stand_in-short.ensures
