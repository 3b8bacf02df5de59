-- `edits::tables::first_at` meets its contract. Assumes nothing.
use Rattle.leaves.specs.Sanitise.{sanitised}
use Rattle.lookups.specs.Lookups.{named}
use Rattle.edits.specs.Fields.{first_at}
use mathlib.Core.Path.{◌≡◌}
use mathlib.Core.Bool.{true}
use Prim.Native.Nat.{◌+◌}
use lib.ListN.{drop}
use Rattle.edits.proofs.tables.first_at.Given as goal

abbrev pub invariant-loop-i : goal.invariant-loop-i
invariant-loop-i l = first_at (named l.block l.store (sanitised true l.key)) l.fields ≡ l.i + first_at (named l.block l.store (sanitised true l.key)) (drop l.i l.fields)
