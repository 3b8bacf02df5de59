-- `lines::copy_short` meets its contract. Assumes nothing.
use Rattle.leaves.proofs.PasteLaws.{copy_end}
use Rattle.lines.proofs.copy_short.Goals as goal

pub returns : goal.returns
returns c = copy_end c.loop-i.invariant c.loop-i-test.false
