-- `abi::reading::bisquecrow_begin` meets its contract. Assumes nothing.
use Rattle.abi.proofs.CallLaws.{long_head, begun_fine, begun_refused, gave_sound, gave_damaged}
use Rattle.abi.specs.Calls.{begin_gives}
use Rattle.lent.specs.Table.{table_of}
use mathlib.Core.Path.{sym, ◌∙◌}
use Rattle.abi.proofs.reading.bisquecrow_begin.Goals as goal

pub put_head-requires : goal.put_head-requires
put_head-requires c = long_head _ _ (sym c.is_long.ensures ∙ c.if-is_long.true)

pub returns-in-Ok : goal.returns-in-Ok
unfolding begin_gives
returns-in-Ok c =
    gave_sound _ _ _ _ _ _ _ _ _ _ _ _ _ (sym c.is_long.ensures ∙ c.if-is_long.true)
    (begun_fine _ _ _ _ _ _ (rw c.unmade-h.ensures at c.begin-made.ensures (table_of c.args.table.now)) _ c.in-Ok.is c.put_head.ensures)

pub returns-in-Err : goal.returns-in-Err
unfolding begin_gives
returns-in-Err c =
    gave_sound _ _ _ _ _ _ _ _ _ _ _ _ _ (sym c.is_long.ensures ∙ c.if-is_long.true)
    (begun_refused _ _ _ _ _ _ (rw c.unmade-h.ensures at c.begin-made.ensures (table_of c.args.table.now)) _ _ c.in-Err.is c.refused.ensures)

pub returns : goal.returns
unfolding begin_gives
returns c = gave_damaged _ _ _ _ _ _ _ (sym c.is_long.ensures ∙ c.if-is_long.false)
