-- `lent_writes::put_fields` meets its contract. Assumes nothing.
use Rattle.writes.proofs.FormLaws.{fields_room, fields_step, fields_end}
use Rattle.lent.proofs.LentLaws.{from_end}
use Rattle.lent_writes.proofs.TurnLaws.{turn_more}
use native.Mathlib.Omega.{arith}
use Rattle.lent_writes.proofs.put_fields.Goals as goal

pub put_pair-k-requires : goal.put_pair-k-requires
put_pair-k-requires c =
    let s = c.args in
    let h = c.loop-i-test.true in
    fields_room s.block.now s.store.now _ _ _ (turn_more s.t.now s.n c.loop-i.i _ c.field_at-f.ensures h) _ _ c.part-key.ensures.is c.part-value.ensures.is _ _ _ _ _ c.loop-i.invariant

pub loop-i-preserved : goal.loop-i-preserved
loop-i-preserved c =
    let s = c.args in
    let h = c.loop-i-test.true in
    fields_step s.block.now s.store.now _ _ _ (turn_more s.t.now s.n c.loop-i.i _ c.field_at-f.ensures h) _ _ c.part-key.ensures.is c.part-value.ensures.is _ _ _ _ _ c.loop-i.invariant _ _ c.put_pair-k.ensures

pub returns : goal.returns
returns c =
    let s = c.args in
    let h = c.loop-i-test.false in
    fields_end s.block.now s.store.now _ (from_end s.t.now s.n c.loop-i.i h) _ _ _ _ _ (omega arith) c.loop-i.invariant
