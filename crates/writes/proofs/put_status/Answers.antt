-- `writes::put_status` meets its contract. Assumes nothing.
use Rattle.writes.proofs.FormLaws.{line_none, line_bare, line_full, line_length}
use Rattle.writes.proofs.PutLaws.{put_none, put_more}
use native.Mathlib.Omega.{arith}
use Prim.Native.Nat.{◌+◌, ◌≤◌}
use lib.ListN.{length}
use Rattle.writes.proofs.put_status.Goals as goal

pub returns-then-text-eq0 : goal.returns-then-text-eq0
returns-then-text-eq0 c =
    let s = c.args in
    let part = c.part-text.ensures in
    put_none _ _ (line_bare s.block.now s.store.now s.s _ _ c.in-Some.is part.is c.if-text-eq0.true)

pub put-a-requires : goal.put-a-requires
put-a-requires c =
    let s = c.args in
    let part = c.part-text.ensures in
    omega (arith, line_length s.block.now s.store.now s.s _ _ c.in-Some.is part.is c.if-text-eq0.false)

pub put_two-requires : goal.put_two-requires
put_two-requires c =
    let s = c.args in
    let part = c.part-text.ensures in
    omega (arith, line_length s.block.now s.store.now s.s _ _ c.in-Some.is part.is c.if-text-eq0.false, c.put-a.ensures.ends)

pub returns-in-None : goal.returns-in-None
returns-in-None c = let s = c.args in put_none _ _ (line_none s.block.now s.store.now s.s c.in-None.is)

pub returns-else-text-eq0 : goal.returns-else-text-eq0
returns-else-text-eq0 c =
    let s = c.args in
    let part = c.part-text.ensures in
    let e = line_length s.block.now s.store.now s.s _ _ c.in-Some.is part.is c.if-text-eq0.false in
    let h : 0 + length c.part-text.result.now ≤ length s.out.now = omega arith in
    rw (line_full s.block.now s.store.now s.s _ _ c.in-Some.is part.is c.if-text-eq0.false) (put_more s.out.now _ _ _ _ _ _ _ h c.put-a.ensures c.put_two.ensures)
