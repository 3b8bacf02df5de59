use Prim.Native.Nat.{◌-◌}
use lib.ListN.{length}
use Rattle.leaves.proofs.ScrubLaws.{Scrubbing}
use Rattle.leaves.proofs.sanitise.scrub_into.Given as goal

abbrev pub invariant-loop-i : goal.invariant-loop-i
invariant-loop-i l = Scrubbing l.initial.out l.part l.key l.out l.n l.i

abbrev pub decreases-loop-i : goal.decreases-loop-i
decreases-loop-i l = length l.part - l.i
