-- `lines::before_in_64` meets its contract. Assumes nothing.
use Prim.Native.Nat.{◌-◌}
use lib.ListN.{drop}
use Rattle.lines.proofs.ScanLaws.{Scanning}
use Rattle.lines.proofs.before_in_64.Given as goal

abbrev pub invariant-loop-j : goal.invariant-loop-j
invariant-loop-j l = Scanning l.wanted 64 (drop l.at l.s) l.best l.left l.j
