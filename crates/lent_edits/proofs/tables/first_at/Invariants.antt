-- `lent_edits::tables::first_at` meets its contract. Assumes nothing.
use Rattle.leaves.specs.Sanitise.{sanitised}
use Rattle.lookups.specs.Lookups.{named}
use Rattle.edits.specs.Fields.{first_at}
use Rattle.lent.specs.Table.{table_of}
use mathlib.Core.Path.{◌≡◌}
use mathlib.Core.Bool.{true}
use Prim.Native.Nat.{◌+◌}
use lib.ListN.{take, drop}
use Rattle.lent_edits.proofs.tables.first_at.Given as goal

abbrev pub invariant-loop-i : goal.invariant-loop-i
invariant-loop-i l = first_at (named l.block l.store (sanitised true l.key)) (take l.n (table_of l.t)) ≡ l.i + first_at (named l.block l.store (sanitised true l.key)) (drop l.i (take l.n (table_of l.t)))
