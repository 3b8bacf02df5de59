-- `writes::put_pair` meets its contract. Assumes nothing.
use Rattle.writes.proofs.FormLaws.{bare_length, full_length, pair_bare, pair_full}
use Rattle.writes.proofs.PutLaws.{put_more, put_four}
use native.Mathlib.Omega.{arith}
use Prim.Native.Nat.{◌+◌, ◌≤◌}
use lib.ListN.{length}
use Rattle.writes.proofs.put_pair.Goals as goal

pub put-a-requires : goal.put-a-requires
put-a-requires c = let s = c.args in let e = bare_length s.key.now s.value.now c.if-key-eq0.true in omega (arith, e)

pub put_two-requires : goal.put_two-requires
put_two-requires c = let s = c.args in let e = bare_length s.key.now s.value.now c.if-key-eq0.true in omega (arith, e, c.put-a.ensures.ends)

pub returns-then-key-eq0 : goal.returns-then-key-eq0
returns-then-key-eq0 c =
    let s = c.args in let e = bare_length s.key.now s.value.now c.if-key-eq0.true in
    let h : s.at + length s.value.now ≤ length s.out.now = omega arith in
    rw (pair_bare s.key.now s.value.now c.if-key-eq0.true) (put_more s.out.now _ _ _ _ _ _ _ h c.put-a.ensures c.put_two.ensures)

pub put-a-requires-2 : goal.put-a-requires-2
put-a-requires-2 c = let s = c.args in let e = full_length s.key.now s.value.now c.if-key-eq0.false in omega (arith, e)

pub put_two-b-requires : goal.put_two-b-requires
put_two-b-requires c = let s = c.args in let e = full_length s.key.now s.value.now c.if-key-eq0.false in omega (arith, e, c.put-a-2.ensures.ends)

pub put-c-requires : goal.put-c-requires
put-c-requires c = let s = c.args in let e = full_length s.key.now s.value.now c.if-key-eq0.false in omega (arith, e, c.put-a-2.ensures.ends, c.put_two-b.ensures.ends)

pub put_two-requires-2 : goal.put_two-requires-2
put_two-requires-2 c = let s = c.args in let e = full_length s.key.now s.value.now c.if-key-eq0.false in omega (arith, e, c.put-a-2.ensures.ends, c.put_two-b.ensures.ends, c.put-c.ensures.ends)

pub returns : goal.returns
returns c =
    let s = c.args in let e = full_length s.key.now s.value.now c.if-key-eq0.false in
    let h : s.at + length s.key.now ≤ length s.out.now = omega arith in
    rw (pair_full s.key.now s.value.now c.if-key-eq0.false) (put_four s.out.now _ _ _ _ _ _ _ _ _ s.key.now _ s.value.now _ (omega arith) c.put-a-2.ensures c.put_two-b.ensures c.put-c.ensures c.put_two-2.ensures)
