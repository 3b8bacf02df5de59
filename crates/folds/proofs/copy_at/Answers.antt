-- `folds::copy_at` meets its contract. Assumes nothing.
use native.Mathlib.Omega.{arith}
use lib.ListN.{length}
use Rattle.leaves.proofs.PasteLaws.{part_back}
use Rattle.folds.proofs.copy_at.Goals as goal

pub returns : goal.returns
returns c =
    part_back c.args.store.now c.args.at (length c.args.store.now) (omega arith) (omega arith)
    c.args.text.now c.copy_in.new.out (omega arith) c.copy_in.ensures
