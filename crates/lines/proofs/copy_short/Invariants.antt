-- `lines::copy_short` meets its contract. Assumes nothing.
use Prim.Native.Nat.{◌-◌}
use lib.ListN.{length}
use Rattle.leaves.proofs.PasteLaws.{Copying}
use Rattle.lines.proofs.copy_short.Given as goal

abbrev pub invariant-loop-i : goal.invariant-loop-i
invariant-loop-i l = Copying l.initial.out 0 l.text l.out l.i
