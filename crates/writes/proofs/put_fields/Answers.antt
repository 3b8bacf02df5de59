-- `writes::put_fields` meets its contract. Assumes nothing.
use Rattle.writes.proofs.FormLaws.{fields_room, fields_step, fields_end}
use Rattle.lookups.proofs.SeekLaws.{live_cons, live_end}
use native.Mathlib.Omega.{arith}
use Prim.Native.Nat.{◌≤◌}
use lib.ListN.{length}
use Rattle.writes.proofs.put_fields.Goals as goal

pub put_pair-k-requires : goal.put_pair-k-requires
put_pair-k-requires c =
    let s = c.args in
    let w : s.n ≤ length s.t = omega arith in
    let h = c.loop-i-test.true in
    fields_room s.block.now s.store.now _ _ _ (live_cons s.t s.n c.loop-i.i w h) _ _ c.part-key.ensures.is c.part-value.ensures.is _ _ _ _ _ c.loop-i.invariant

pub loop-i-preserved : goal.loop-i-preserved
loop-i-preserved c =
    let s = c.args in
    let w : s.n ≤ length s.t = omega arith in
    let h = c.loop-i-test.true in
    fields_step s.block.now s.store.now _ _ _ (live_cons s.t s.n c.loop-i.i w h) _ _ c.part-key.ensures.is c.part-value.ensures.is _ _ _ _ _ c.loop-i.invariant _ _ c.put_pair-k.ensures

pub returns : goal.returns
returns c =
    let s = c.args in
    let h = c.loop-i-test.false in
    fields_end s.block.now s.store.now _ (live_end s.t s.n c.loop-i.i h) _ _ _ _ _ (omega arith) c.loop-i.invariant
