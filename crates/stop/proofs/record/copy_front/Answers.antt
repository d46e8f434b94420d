use borrow.Author.Rules.{rules}
use Rattle.records.proofs.Laws.Written.{put_rest}
use Rattle.stop.proofs.Laws.Writing.{copy_more, copy-end}
use Rattle.stop.proofs.record.copy_front.Goals as goal

pub loop-i-preserved : goal.loop-i-preserved
loop-i-preserved c = search (rules, copy_more, put_rest)

pub returns : goal.returns
returns c = search (rules, copy-end)
