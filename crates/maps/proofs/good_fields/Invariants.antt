-- `maps::good_fields` meets its contract. Assumes nothing.
use Rattle.maps.specs.Good.{good_fields}
use mathlib.Core.Path.{◌≡◌}
use lib.ListN.{drop}
use Rattle.maps.proofs.good_fields.Given as goal

abbrev pub invariant-loop-f : goal.invariant-loop-f
invariant-loop-f l = (good_fields l.count l.mark l.f-items ≡ good_fields l.count l.mark (drop l.f-index l.f-items))
