-- `openings::spot` meets its contract. Assumes nothing.
use Rattle.openings.proofs.SightLaws.{Passing}
use lib.ListN.{take}
use Rattle.openings.proofs.spot.Given as goal

abbrev pub invariant-loop-i : goal.invariant-loop-i
invariant-loop-i l = Passing l.block l.store (take l.n l.t) l.z l.i
