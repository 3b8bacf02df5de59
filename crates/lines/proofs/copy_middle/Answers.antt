-- `lines::copy_middle` meets its contract. Assumes nothing.
use native.Mathlib.Omega.{arith}
use Prim.Native.Nat.{◌-◌, ◌≤◌, ◌<◌}
use lib.ListN.{length}
use Rattle.leaves.proofs.PasteLaws.{copy_start, copy_over, copy_end}
use Rattle.lines.proofs.copy_middle.Goals as goal

pub returns-then-n-le32 : goal.returns-then-n-le32
returns-then-n-le32 c =
    let a = c.args in
    let n = length a.text.now in
    let one = copy_over (copy_start a.out.now 0 a.text.now (omega arith)) 0 16 _ (omega arith) (omega arith) c.copy_sixteen.ensures in
    copy_end (copy_over one (n - 16) 16 _ (omega arith) (omega arith) c.copy_sixteen-then-n-le32.ensures) (omega arith)

pub returns : goal.returns
returns c =
    let a = c.args in
    let n = length a.text.now in
    let most : n ≤ 64 = c.requires.1 in
    let over : 32 < n = omega (arith, c.if-n-le32.false) in
    let one = copy_over (copy_start a.out.now 0 a.text.now (omega arith)) 0 16 _ (omega arith) (omega arith) c.copy_sixteen.ensures in
    let two = copy_over one 16 16 _ (omega arith) (omega arith) c.copy_sixteen-2.ensures in
    let three = copy_over two (n - 32) 16 _ (omega arith) (omega arith) c.copy_sixteen-3.ensures in
    copy_end (copy_over three (n - 16) 16 _ (omega arith) (omega arith) c.copy_sixteen-4.ensures) (omega arith)
