-- `writes::fields_length` meets its contract. Assumes nothing.
use mathlib.Core.List.{map}
use Rattle.maps.specs.Said.{pair_at}
use Rattle.writes.specs.Written.{pair_lines}
use mathlib.Core.Path.{◌≡◌}
use Prim.Native.Nat.{◌+◌, ◌*◌, ◌≤◌}
use lib.ListN.{length, take, drop}
use Rattle.writes.proofs.fields_length.Given as goal

abbrev pub invariant-loop-i : goal.invariant-loop-i
invariant-loop-i l = (l.sum ≤ l.i * 8589934594) × (l.sum + length (pair_lines (map (pair_at l.block l.store) (drop l.i (take l.n l.t)))) ≡ length (pair_lines (map (pair_at l.block l.store) (take l.n l.t))))
