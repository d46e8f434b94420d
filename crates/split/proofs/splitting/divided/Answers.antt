use mathlib.Core.Path.{◌≡◌, ap, ◌∙◌}
use lib.ListN.{length}
use Rattle.records.specs.Plan.{written}
use Rattle.rules.specs.Cost.{cost_of}
use Rattle.split.specs.Splits.{split_record}
use Rattle.split.proofs.Laws.Writing.{record-size, record-written, part_low, part_length, part-whole, divided-is}
use Rattle.split.proofs.splitting.divided.Goals as goal
use Rattle.split.proofs.splitting.divided.Goals.{After-write_singles-end}

size-is : (c : After-write_singles-end) → c.write_singles-end.result ≡ length (split_record c.args.plan.now)
size-is c = record-size _ _ _ c.whole.ensures c.kept_version.ensures _ c.write_singles-end.ensures.length

written-is : (c : After-write_singles-end) → c.write_singles-end.new.out ≡ written c.args.out.now 0 (split_record c.args.plan.now)
written-is c = record-written _ _ _ c.whole.ensures c.kept_version.ensures _ _ c.write_singles-end.ensures.written

pub slice_bounds-whole-end : goal.slice_bounds-whole-end
slice_bounds-whole-end c =
    let k = (goal.at.slice_bounds-whole-end c).After-write_singles-end in
    part_low _ c.requires.whole _ c.requires.count c.requires.few _ _ _ (size-is k) (written-is k) c.requires.long

pub slice_bounds-whole-end-2 : goal.slice_bounds-whole-end-2
slice_bounds-whole-end-2 c =
    let k = (goal.at.slice_bounds-whole-end-2 c).After-write_singles-end in
    part_length _ c.requires.whole _ c.requires.count c.requires.few _ _ _ (size-is k) (written-is k) c.requires.long

pub whole-record-requires : goal.whole-record-requires
whole-record-requires c =
    let k = (goal.at.whole-record-requires c).After-write_singles-end in
    part-whole _ c.requires.whole _ c.requires.count c.requires.few _ _ _ (size-is k) (written-is k) c.requires.long

pub returns-clause-divided : goal.returns-clause-divided
returns-clause-divided c =
    let k = (goal.at.returns-clause-divided c).After-write_singles-end in
    divided-is _ c.requires.whole _ c.requires.count c.requires.few _ _ _ (size-is k) (written-is k) c.requires.long _ _
    (c.plan_cost.ensures.cost ∙ ap (cost_of c.args.cluster.now) c.whole-record.ensures)

pub returns-clause-written : goal.returns-clause-written
returns-clause-written c = written-is (goal.at.returns-clause-written c).After-write_singles-end
