-- `lent_walker::spot` meets its contract. Assumes nothing.
use Rattle.openings.proofs.SightLaws.{Passing}
use Rattle.lent.specs.Table.{table_of}
use lib.ListN.{take}
use Rattle.lent_walker.proofs.spot.Given as goal

abbrev pub invariant-loop-i : goal.invariant-loop-i
invariant-loop-i l = Passing l.block l.store (take l.n (table_of l.t)) l.z l.i
