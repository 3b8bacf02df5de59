-- `writes::put` meets its contract. Assumes nothing.
use Rattle.leaves.proofs.PasteLaws.{part_back}
use native.Mathlib.Omega.{arith}
use mathlib.Core.Path.{refl}
use Prim.Native.Nat.{◌+◌}
use lib.ListN.{length}
use Rattle.writes.proofs.put.Goals as goal

pub returns : goal.returns
returns c =
    let s = c.args in
    record {
      ends = refl;
      is = part_back s.out.now s.at (s.at + length s.text.now) (omega arith) (omega arith) s.text.now _ (omega arith) c.copy_in.ensures;
    }
