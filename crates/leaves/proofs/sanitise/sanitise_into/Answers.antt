use native.Mathlib.Omega.{arith}
use lib.ListN.{length}
use Rattle.leaves.specs.Sanitise.{sanitised}
use Rattle.leaves.proofs.PasteLaws.{part_back}
use Rattle.leaves.proofs.sanitise.sanitise_into.Goals as goal

pub returns : goal.returns
returns c = (
  rw (← c.trim-part.ensures.is) c.scrub_into.ensures.0,
  part_back c.args.store.now c.args.at (length c.args.store.now) (omega arith) (omega arith)
      (sanitised c.args.key c.args.text.now) c.scrub_into.new.out (omega arith)
      (rw (← c.trim-part.ensures.is) c.scrub_into.ensures.1),
)
