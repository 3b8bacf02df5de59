-- `lent_writes::fields_length` meets its contract. Assumes nothing.
use Rattle.maps.specs.Said.{pair_at}
use Rattle.writes.specs.Written.{pair_lines}
use Rattle.lent.specs.Table.{fields_from}
use mathlib.Core.Path.{◌≡◌}
use mathlib.Core.List.{map}
use Prim.Native.Nat.{◌+◌, ◌-◌, ◌*◌, ◌≤◌}
use lib.ListN.{length}
use Rattle.lent_writes.proofs.fields_length.Given as goal

abbrev pub invariant-loop-i : goal.invariant-loop-i
invariant-loop-i l = (l.sum ≤ l.i * 8589934594) × (l.sum + length (pair_lines (map (pair_at l.block l.store) (fields_from l.t l.i (l.n - l.i)))) ≡ length (pair_lines (map (pair_at l.block l.store) (fields_from l.t 0 l.n))))
