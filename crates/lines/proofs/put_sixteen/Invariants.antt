-- `lines::put_sixteen` meets its contract. Assumes nothing.
use Prim.Native.Nat.{◌-◌}
use Rattle.leaves.proofs.PasteLaws.{Copying}
use Rattle.lines.proofs.put_sixteen.Given as goal

abbrev pub invariant-loop-j : goal.invariant-loop-j
invariant-loop-j l = Copying l.initial.out l.at l.group l.out l.j
