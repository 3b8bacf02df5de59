-- `edits::tables::compact` meets its contract. Assumes nothing.
use Rattle.leaves.specs.Sanitise.{sanitised}
use Rattle.lookups.specs.Lookups.{named}
use Rattle.edits.proofs.KeepLaws.{Keeping}
use mathlib.Core.Bool.{true}
use Rattle.edits.proofs.tables.compact.Given as goal

abbrev pub invariant-loop-i : goal.invariant-loop-i
invariant-loop-i l = Keeping (named l.block l.store (sanitised true l.key)) l.initial.u l.start l.n l.u l.k l.i
