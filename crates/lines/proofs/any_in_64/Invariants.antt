-- `lines::any_in_64` meets its contract. Assumes nothing.
use mathlib.Core.Path.{◌≡◌}
use Prim.Native.Nat.{◌-◌, ◌≤◌}
use lib.ListN.{take, drop}
use Rattle.leaves.specs.Octets.{has}
use Rattle.lines.proofs.any_in_64.Given as goal

abbrev pub invariant-loop-j : goal.invariant-loop-j
invariant-loop-j l = (l.j ≤ 64) × (l.hit ≡ has l.wanted (take l.j (drop l.at l.s)))
