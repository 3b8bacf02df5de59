use native.Mathlib.Omega.{arith}
use mathlib.Core.Path.{sym, ◌∙◌}
use Rattle.leaves.proofs.ScrubLaws.{scrub_skip, scrub_keep, scrub_room}
use Rattle.leaves.proofs.ScrubLaws.{scrub_length, scrub_end}
use Rattle.leaves.proofs.sanitise.scrub_into.Goals as goal

pub loop-i-preserved-then-is_dropped : goal.loop-i-preserved-then-is_dropped
loop-i-preserved-then-is_dropped c =
    scrub_skip _ _ _ _ _ _ c.loop-i.invariant (omega arith) (sym c.is_dropped.ensures ∙ c.if-is_dropped.true)

pub bounds-out-n : goal.bounds-out-n
bounds-out-n c =
    scrub_room _ _ _ _ _ _ c.loop-i.invariant (omega arith) (sym c.is_dropped.ensures ∙ c.if-is_dropped.false)

pub loop-i-preserved : goal.loop-i-preserved
loop-i-preserved c =
    scrub_keep _ _ _ _ _ _ c.loop-i.invariant (omega arith) (sym c.is_dropped.ensures ∙ c.if-is_dropped.false) _ c.no_break.ensures

pub returns : goal.returns
returns c =
    let inv = c.loop-i.invariant in
    (scrub_length _ _ _ _ _ _ inv c.loop-i-test.false, scrub_end _ _ _ _ _ _ inv c.loop-i-test.false)
