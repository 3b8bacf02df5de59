-- `lent_writes::fields_length` meets its contract. Assumes nothing.
use Rattle.writes.proofs.FormLaws.{lines_length, lines_none}
use Rattle.lent.proofs.LentLaws.{from_end}
use Rattle.lent_writes.proofs.TurnLaws.{turn_more}
use native.Mathlib.Omega.{arith}
use mathlib.Core.Path.{ap}
use lib.ListN.{length}
use Rattle.lent_writes.proofs.fields_length.Goals as goal

pub loop-i-preserved : goal.loop-i-preserved
loop-i-preserved c =
    let s = c.args in
    let h = c.loop-i-test.true in
    let e = lines_length s.block.now s.store.now _ _ _ (turn_more s.t.now s.n c.loop-i.i _ c.field_at-f.ensures h) _ _ c.part-key.ensures.is c.part-value.ensures.is in
    (omega (arith, c.pair_length-sum.ensures.1, c.loop-i.invariant.0), omega (arith, c.pair_length-sum.ensures.0, c.loop-i.invariant.1, e))

pub returns : goal.returns
returns c =
    let s = c.args in
    let h = c.loop-i-test.false in
    (omega (arith, c.loop-i.invariant.1, ap length (lines_none s.block.now s.store.now _ (from_end s.t.now s.n c.loop-i.i h))), omega (arith, c.loop-i.invariant.0))
