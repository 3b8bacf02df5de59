-- `lent_writes::give_map` meets its contract. Assumes nothing.
use Rattle.writes.proofs.WriteLaws.{form_short, form_done}
use Rattle.lent.specs.Table.{map_in}
use Rattle.lent.proofs.LentLaws.{fields_take}
use native.Mathlib.Omega.{arith}
use Rattle.lent_writes.proofs.give_map.Goals as goal

pub returns-then-out-line : goal.returns-then-out-line
returns-then-out-line c =
    form_short (map_in c.args.t.now c.args.h) _ (fields_take c.args.t.now 0 256 c.args.h.fields c.requires.0) c.args.block.now c.args.store.now c.args.out.now (omega (arith, c.status_length-line.ensures.0, c.fields_length-lines.ensures.0, c.if-out-line.true))

pub returns : goal.returns
returns c =
    form_done (map_in c.args.t.now c.args.h) _ (fields_take c.args.t.now 0 256 c.args.h.fields c.requires.0) c.args.block.now c.args.store.now c.args.out.now (omega (arith, c.status_length-line.ensures.0, c.fields_length-lines.ensures.0, c.if-out-line.false)) _ _ _ _ _ _ c.put_status-i.ensures c.put_fields-j.ensures c.put_two.ensures
