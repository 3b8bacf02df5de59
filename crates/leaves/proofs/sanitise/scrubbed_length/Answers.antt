use native.Mathlib.Omega.{arith}
use mathlib.Core.Path.{sym, ap, ◌∙◌}
use lib.ListN.{length}
use Rattle.leaves.proofs.ScrubLaws.{skipped, kept, ended}
use Rattle.leaves.proofs.sanitise.scrubbed_length.Goals as goal
use Rattle.leaves.proofs.sanitise.scrubbed_length.Goals.{then-not-is_dropped, else-not-is_dropped}

pub loop-x-preserved : goal.loop-x-preserved
loop-x-preserved c =
    let s = c.args.part.now in
    let i = c.loop-x.x-index in
    elim c.if-not-is_dropped.branch [
      | then-not-is_dropped w ↦
          (omega arith, omega (arith, ap length (kept c.args.key s i c.loop-x-test.true (sym c.is_dropped.ensures ∙ w.if-not-is_dropped.true))))
      | else-not-is_dropped w ↦
          (omega arith, omega (arith, ap length (skipped c.args.key s i c.loop-x-test.true (sym c.is_dropped.ensures ∙ w.if-not-is_dropped.false))))
    ]

pub returns : goal.returns
returns c = omega (arith, ap length (ended c.args.key c.args.part.now c.loop-x.x-index c.loop-x-test.false))
