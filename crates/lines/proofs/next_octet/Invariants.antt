-- `lines::next_octet` meets its contract. Assumes nothing.
use Prim.Native.Nat.{◌-◌}
use lib.ListN.{length}
use Rattle.leaves.specs.Octets.{Passed}
use Rattle.lines.proofs.next_octet.Given as goal

abbrev pub invariant-loop-i : goal.invariant-loop-i
invariant-loop-i l = Passed l.wanted l.s l.from l.i
