use Rattle.leaves.specs.Sanitise.{scrubbed}
use mathlib.Core.Path.{◌≡◌}
use Prim.Native.Nat.{◌+◌, ◌≤◌}
use lib.ListN.{length, drop}
use Rattle.leaves.proofs.sanitise.scrubbed_length.Given as goal

abbrev pub invariant-loop-x : goal.invariant-loop-x
invariant-loop-x l = (l.n ≤ l.x-index) × (l.n + length (scrubbed l.key (drop l.x-index l.part)) ≡ length (scrubbed l.key l.part))
