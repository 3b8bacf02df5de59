-- `lines::before_in_64` meets its contract. Assumes nothing.
use native.Mathlib.Omega.{arith}
use mathlib.Core.Path.{ap, ◌∙◌}
use Prim.Native.Nat.{max}
use Rattle.lines.proofs.ScanLaws.{scan_step, scan_end}
use Rattle.lines.proofs.before_in_64.Goals as goal

pub loop-j-preserved : goal.loop-j-preserved
loop-j-preserved c =
    let a = c.args in
    rw (c.larger-best.ensures ∙ ap (max c.loop-j.best) c.worth.ensures) (scan_step a.s.now a.at c.loop-j.invariant c.loop-j-test.true (omega arith))

pub returns : goal.returns
returns c = scan_end c.loop-j.invariant c.loop-j-test.false
