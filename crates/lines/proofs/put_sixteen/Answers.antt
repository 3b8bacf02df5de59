-- `lines::put_sixteen` meets its contract. Assumes nothing.
use native.Mathlib.Omega.{arith}
use mathlib.Core.Path.{refl}
use Rattle.leaves.proofs.PasteLaws.{copy_step, copy_end}
use Rattle.lines.proofs.put_sixteen.Goals as goal

pub loop-j-preserved : goal.loop-j-preserved
loop-j-preserved c = copy_step c.loop-j.invariant (omega arith) _ _ refl refl

pub returns : goal.returns
returns c = copy_end c.loop-j.invariant (omega arith)
