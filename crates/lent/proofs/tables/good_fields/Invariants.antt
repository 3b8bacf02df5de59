-- `lent::tables::good_fields` meets its contract. Assumes nothing.
use Rattle.maps.specs.Good.{good_fields}
use Rattle.lent.specs.Table.{fields_from}
use mathlib.Core.Path.{◌≡◌}
use Prim.Native.Nat.{◌-◌}
use Rattle.lent.proofs.tables.good_fields.Given as goal

abbrev pub invariant-loop-i : goal.invariant-loop-i
invariant-loop-i l = (good_fields l.count l.mark (fields_from l.t 0 l.n) ≡ good_fields l.count l.mark (fields_from l.t l.i (l.n - l.i)))
