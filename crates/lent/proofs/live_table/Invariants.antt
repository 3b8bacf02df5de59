-- `lent::live_table` meets its contract. Assumes nothing.
use lib.ListN.{replicate, length}
use lib.Seq.{paste}
use Rattle.maps.specs.Places.{no_field}
use Rattle.lent.specs.Table.{table_of}
use mathlib.Core.Path.{◌≡◌}
use Prim.Native.Nat.{◌≤◌}
use Rattle.lent.proofs.live_table.Given as goal

abbrev pub invariant-loop-i : goal.invariant-loop-i
invariant-loop-i l = (l.i ≤ l.n) × (length l.table ≡ 256) × (l.table ≡ paste (replicate 256 no_field) 0 (table_of l.t) l.i)
