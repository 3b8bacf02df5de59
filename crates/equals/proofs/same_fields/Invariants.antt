-- `equals::same_fields` meets its contract. Assumes nothing.
use mathlib.Core.List.{map}
use Rattle.maps.specs.Said.{pair_at}
use Rattle.equals.specs.Equal.{same_pairs}
use mathlib.Core.Path.{◌≡◌}
use lib.ListN.{take, drop}
use Rattle.equals.proofs.same_fields.Given as goal

abbrev pub invariant-loop-i : goal.invariant-loop-i
invariant-loop-i l = (same_pairs (map (pair_at l.b l.s) (take l.n l.t)) (map (pair_at l.c l.z) (take l.n l.u)) ≡ same_pairs (map (pair_at l.b l.s) (drop l.i (take l.n l.t))) (map (pair_at l.c l.z) (drop l.i (take l.n l.u))))
