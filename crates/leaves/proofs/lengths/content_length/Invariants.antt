use mathlib.Core.Path.{◌≡◌}
use Prim.Native.Nat.{◌≤◌}
use lib.ListN.{drop}
use Rattle.leaves.specs.Number.{content_length}
use Rattle.leaves.proofs.NumberLaws.{length_from}
use Rattle.leaves.proofs.lengths.content_length.Given as goal

abbrev pub invariant-loop-x : goal.invariant-loop-x
invariant-loop-x l = (l.n ≤ 18446744073709551615) × (content_length l.value ≡ length_from l.n (drop l.x-index l.value))
