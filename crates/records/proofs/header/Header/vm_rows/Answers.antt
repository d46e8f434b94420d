use Rattle.std.proofs.Common.{◌∙◌, ap}
use Rattle.records.specs.Inner.{row_vms}
use Rattle.records.proofs.Laws.Rows.{rows-apart}
use Rattle.records.proofs.header.Header.vm_rows.Goals as goal

pub returns : goal.returns
returns c =
    ap row_vms c.as_chunks.ensures.front ∙
    rows-apart c.args.self.now c.self.inside.bytes.now _ _ c.self.view_is c.vms_start-start.ensures.0 c.constraints_start-end.ensures.0 c.requires
