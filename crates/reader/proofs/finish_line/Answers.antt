-- `reader::finish_line` meets its contract. Assumes nothing.
use Rattle.line_reader.proofs.LineSteps.{able, end_is}
use Rattle.reader.proofs.EndLaws.{finish_seated, finish_end}
use Rattle.reader.proofs.finish_line.Goals as goal

pub handle_last-ended-requires : goal.handle_last-ended-requires
handle_last-ended-requires c =
    able (finish_seated c.args.m c.head-h.ensures c.requires (c.well_formed.0.1.1.0.1.0.1) c.last_of-slot.ensures)

pub put_change-requires : goal.put_change-requires
put_change-requires c =
    let w = finish_seated c.args.m c.head-h.ensures c.requires (c.well_formed.0.1.1.0.1.0.1) c.last_of-slot.ensures in
    (c.well_formed.0.1.1.0.1.0.1, (end_is w c.handle_last-ended.ensures).puts)

pub returns : goal.returns
returns c =
    let w = finish_seated c.args.m c.head-h.ensures c.requires (c.well_formed.0.1.1.0.1.0.1) c.last_of-slot.ensures in
    rw (c.under.ensures, c.head_after-head.ensures, c.put_change.ensures) (finish_end c.args.m c.head-h.ensures (end_is w c.handle_last-ended.ensures))
