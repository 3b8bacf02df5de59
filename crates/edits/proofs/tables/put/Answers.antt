-- `edits::tables::put` meets its contract. Assumes nothing.
use Rattle.leaves.specs.Sanitise.{sanitised}
use Rattle.lookups.specs.Lookups.{named}
use Rattle.edits.proofs.PutLaws.{put_last, put_inner}
use native.Mathlib.Omega.{arith}
use mathlib.Core.Bool.{true}
use Prim.Native.Nat.{◌≤◌, ◌<◌}
use lib.ListN.{length}
use Rattle.edits.proofs.tables.put.Goals as goal

pub returns-then-n-start : goal.returns-then-n-start
returns-then-n-start c =
    let s = c.args in
    let p = named s.block.now s.store.now (sanitised true s.key.now) in
    let w : s.n ≤ length s.t = omega arith in
    let i : s.at < length s.t = omega arith in
    put_last p s.f s.t s.n s.at w c.requires.2 i c.if-n-start.true

pub returns : goal.returns
returns c =
    let s = c.args in
    let p = named s.block.now s.store.now (sanitised true s.key.now) in
    let w : s.n ≤ length s.t = omega arith in
    let i : s.at < length s.t = omega arith in
    put_inner p s.f s.t s.n s.at w c.requires.2 i c.if-n-start.false _ c.compact.ensures
