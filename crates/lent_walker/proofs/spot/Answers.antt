-- `lent_walker::spot` meets its contract. Assumes nothing.
use Rattle.lent_walker.proofs.SpotLaws.{table_next, spots_end}
use Rattle.openings.proofs.SightLaws.{passing_more}
use Rattle.lent.specs.Table.{field_at, table_of}
use native.Mathlib.Omega.{arith}
use mathlib.Core.Path.{◌∙◌}
use Prim.Native.Nat.{◌<◌}
use lib.ListN.{take}
use Rattle.lent_walker.proofs.spot.Goals as goal

pub loop-i-preserved : goal.loop-i-preserved
loop-i-preserved c =
    let a = c.args in
    let h : c.loop-i.i < a.n = omega arith in
    let w = c.requires.0 in
    passing_more a.block.now a.store.now (take a.n (table_of a.t.now)) c.loop-i.z c.loop-i.i c.loop-i.invariant (omega (arith, w)) (field_at a.t.now c.loop-i.i) (table_next a.t.now a.n c.loop-i.i w h) _ (c.part.ensures.is ∙ rw c.field_at-f.ensures) _ c.note-z.ensures

pub returns : goal.returns
returns c =
    let a = c.args in
    spots_end a.block.now a.store.now a.t.now a.n c.loop-i.i c.loop-i.z c.loop-i.invariant c.loop-i-test.false _ _ c.field_at.ensures c.field_at-2.ensures
