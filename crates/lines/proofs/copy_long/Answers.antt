-- `lines::copy_long` meets its contract. Assumes nothing.
use native.Mathlib.Omega.{arith}
use Prim.Native.Nat.{◌-◌}
use lib.ListN.{length}
use Rattle.leaves.proofs.PasteLaws.{copy_group, copy_end}
use Rattle.lines.proofs.copy_long.Goals as goal

pub loop-i-preserved : goal.loop-i-preserved
loop-i-preserved c =
    copy_group c.loop-i.invariant c.loop-i.i 16 _ (omega arith) (omega arith) c.copy_sixteen.ensures (omega arith)

pub returns : goal.returns
returns c =
    let a = c.args in
    copy_end (copy_group c.loop-i.invariant (length a.text.now - 16) 16 _ (omega arith) (omega arith) c.copy_sixteen-2.ensures (omega (arith, c.loop-i.invariant.read))) (omega arith)
