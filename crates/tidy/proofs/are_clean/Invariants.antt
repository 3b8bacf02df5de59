-- `tidy::are_clean` meets its contract. Assumes nothing.
use mathlib.Core.List.{map}
use Rattle.maps.specs.Said.{pair_at}
use Rattle.rebuilds.specs.Clean.{clean_pairs}
use mathlib.Core.Path.{◌≡◌}
use lib.ListN.{take, drop}
use Rattle.tidy.proofs.are_clean.Given as goal

abbrev pub invariant-loop-i : goal.invariant-loop-i
invariant-loop-i l = (clean_pairs (map (pair_at l.block l.store) (take l.n l.t)) ≡ clean_pairs (map (pair_at l.block l.store) (drop l.i (take l.n l.t))))
