-- `lent_reader::finish_line` meets its contract. Assumes nothing.
use mathlib.Core.Path.{refl}
use mathlib.Core.List.{[]}
use Rattle.line_reader.proofs.HeldLaws.{held_start}
use Rattle.line_reader.proofs.LineSteps.{able, end_is}
use Rattle.reader.proofs.EndLaws.{finish_end}
use Rattle.lent.specs.Table.{map_in}
use Rattle.lent.proofs.LentLaws.{fields_length}
use Rattle.lent_reader.proofs.LentSteps.{seated_in}
use Rattle.lent_reader.proofs.finish_line.Goals as goal

pub handle_last-ended-requires : goal.handle_last-ended-requires
handle_last-ended-requires c =
    let w = seated_in c.args.t.now c.args.h (held_start [] c.requires.1 (fields_length c.args.t.now 0 256)) c.last_of-slot.ensures c.field_at-last.ensures in
    able w

pub put_change-requires : goal.put_change-requires
put_change-requires c =
    let w = seated_in c.args.t.now c.args.h (held_start [] c.requires.1 (fields_length c.args.t.now 0 256)) c.last_of-slot.ensures c.field_at-last.ensures in
    (c.requires.0, (end_is w c.handle_last-ended.ensures).puts)

pub returns : goal.returns
returns c =
    let w = seated_in c.args.t.now c.args.h (held_start [] c.requires.1 (fields_length c.args.t.now 0 256)) c.last_of-slot.ensures c.field_at-last.ensures in
    rw (c.head_after.ensures, c.put_change.ensures) (finish_end (map_in c.args.t.now c.args.h) refl (end_is w c.handle_last-ended.ensures))
