-- `lent_edits::tables::compact` meets its contract. Assumes nothing.
use Rattle.leaves.specs.Sanitise.{sanitised}
use Rattle.lookups.specs.Lookups.{named}
use Rattle.lent_edits.proofs.ThinLaws.{Thinning}
use mathlib.Core.Bool.{true}
use Rattle.lent_edits.proofs.tables.compact.Given as goal

abbrev pub invariant-loop-i : goal.invariant-loop-i
invariant-loop-i l = Thinning (named l.block l.store (sanitised true l.key)) l.initial.t l.start l.n l.t l.k l.i
