-- `lent::tables::find` meets its contract. Assumes nothing.
use Rattle.lookups.specs.Lookups.{named, seeking}
use Rattle.lent.specs.Table.{fields_from}
use mathlib.Core.Path.{◌≡◌}
use Prim.Native.Nat.{◌-◌}
use Rattle.lent.proofs.tables.find.Given as goal

abbrev pub invariant-loop-i : goal.invariant-loop-i
invariant-loop-i l = (seeking (named l.block l.store l.name) l.from (fields_from l.t l.from (l.n - l.from)) ≡ seeking (named l.block l.store l.name) l.i (fields_from l.t l.i (l.n - l.i)))
