-- `tidy::scan::scan_pairs` meets its contract. Assumes nothing.
use Rattle.rebuilds.specs.Scan.{scan_pairs}
use mathlib.Core.Path.{◌≡◌}
use Prim.Native.Nat.{◌-◌, ◌≤◌}
use lib.ListN.{length, drop}
use Rattle.tidy.proofs.scan.scan_pairs.Given as goal

abbrev pub invariant-loop-passed : goal.invariant-loop-passed
invariant-loop-passed l = (l.at ≤ length l.octets) × (scan_pairs 256 (drop l.from l.octets) ≡ scan_pairs (256 - l.passed) (drop l.at l.octets))
