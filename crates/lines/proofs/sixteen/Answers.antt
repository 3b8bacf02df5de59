-- `lines::sixteen` meets its contract. Assumes nothing.
use native.Mathlib.Omega.{arith}
use mathlib.Core.Path.{sym}
use Rattle.leaves.proofs.PasteLaws.{copy_step, group_length, group_at}
use Rattle.lines.proofs.sixteen.Goals as goal

pub loop-j-preserved : goal.loop-j-preserved
loop-j-preserved c =
    let a = c.args in
    let n = group_length a.text.now a.at 16 (omega arith) in
    copy_step c.loop-j.invariant (omega arith) _ _ (omega arith) (sym (group_at a.text.now a.at 16 (omega arith) c.loop-j.j (omega arith)))
