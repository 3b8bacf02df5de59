-- `lines::line_end` meets its contract. Assumes nothing.
use mathlib.Core.Path.{sym, ◌∙◌}
use Rattle.lines.proofs.EndLaws.{ending_end, ending_none, ending_stop, ending_more}
use Rattle.lines.proofs.line_end.Goals as goal
use Rattle.lines.proofs.line_end.Goals.{then-quirks-via-then-quirks, then-quirks-via-else-quirks+then-cr_at}

pub returns-then-s-j : goal.returns-then-s-j
returns-then-s-j c = ending_none c.loop-i.invariant _ c.find_octet-j.ensures c.if-s-j.true

pub returns-then-quirks : goal.returns-then-quirks
returns-then-quirks c =
    elim c.then-quirks.branch [
      | then-quirks-via-then-quirks w ↦ ending_stop c.loop-i.invariant _ c.find_octet-j.ensures c.if-s-j.false (rw w.if-quirks.true)
      | then-quirks-via-else-quirks+then-cr_at w ↦
          ending_stop c.loop-i.invariant _ c.find_octet-j.ensures c.if-s-j.false (rw w.if-quirks.false (sym w.cr_at.ensures ∙ w.if-cr_at.true))
    ]

pub loop-i-preserved : goal.loop-i-preserved
loop-i-preserved c = ending_more c.loop-i.invariant _ c.find_octet-j.ensures c.if-s-j.false (rw c.if-quirks.false (sym c.cr_at.ensures ∙ c.if-cr_at.false))

pub returns : goal.returns
returns c = ending_end c.loop-i.invariant c.loop-i-test.false
