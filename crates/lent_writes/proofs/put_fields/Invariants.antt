-- `lent_writes::put_fields` meets its contract. Assumes nothing.
use Rattle.maps.specs.Said.{pair_at}
use Rattle.writes.specs.Written.{pair_lines}
use Rattle.writes.proofs.PutLaws.{Writing}
use Rattle.lent.specs.Table.{fields_from}
use mathlib.Core.List.{map}
use Prim.Native.Nat.{◌-◌}
use Rattle.lent_writes.proofs.put_fields.Given as goal

abbrev pub invariant-loop-i : goal.invariant-loop-i
invariant-loop-i l = Writing l.initial.out l.at (pair_lines (map (pair_at l.block l.store) (fields_from l.t 0 l.n))) (pair_lines (map (pair_at l.block l.store) (fields_from l.t l.i (l.n - l.i)))) l.out l.k
