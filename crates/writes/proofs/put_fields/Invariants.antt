-- `writes::put_fields` meets its contract. Assumes nothing.
use mathlib.Core.List.{map}
use Rattle.writes.specs.Written.{pair_lines}
use Rattle.maps.specs.Said.{pair_at}
use Rattle.writes.proofs.PutLaws.{Writing}
use lib.ListN.{take, drop}
use Rattle.writes.proofs.put_fields.Given as goal

abbrev pub invariant-loop-i : goal.invariant-loop-i
invariant-loop-i l = Writing l.initial.out l.at (pair_lines (map (pair_at l.block l.store) (take l.n l.t))) (pair_lines (map (pair_at l.block l.store) (drop l.i (take l.n l.t)))) l.out l.k
