-- `lookups::seek` meets its contract. Assumes nothing.
use Rattle.lookups.specs.Lookups.{named, seeking}
use mathlib.Core.Path.{◌≡◌}
use lib.ListN.{drop}
use Rattle.lookups.proofs.seek.Given as goal

abbrev pub invariant-loop-i : goal.invariant-loop-i
invariant-loop-i l = (seeking (named l.block l.store l.name) l.from (drop l.from l.fields) ≡ seeking (named l.block l.store l.name) l.i (drop l.i l.fields))
