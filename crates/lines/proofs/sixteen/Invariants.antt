-- `lines::sixteen` meets its contract. Assumes nothing.
use Prim.Native.Nat.{◌-◌}
use lib.ListN.{take, drop}
use Rattle.leaves.proofs.PasteLaws.{Copying}
use Rattle.lines.proofs.sixteen.Given as goal

abbrev pub invariant-loop-j : goal.invariant-loop-j
invariant-loop-j l = Copying l.initial.group 0 (take 16 (drop l.at l.text)) l.group l.j
