-- `lines::skip_64` meets its contract. Assumes nothing.
use native.Mathlib.Omega.{arith}
use mathlib.Core.Path.{sym, ◌∙◌}
use lib.ListN.{drop}
use lib.ListN.{length-drop}
use Rattle.leaves.proofs.SearchLaws.{has_near, has_far, pass_more}
use Rattle.lines.proofs.skip_64.Goals as goal

pub returns-then-any_in_64 : goal.returns-then-any_in_64
returns-then-any_in_64 c =
    let a = c.args in
    record { passed = c.loop-i.invariant; near = λ h. has_near a.wanted 64 (drop c.loop-i.i a.s.now) (sym c.any_in_64.ensures ∙ c.if-any_in_64.true) }

pub loop-i-preserved : goal.loop-i-preserved
loop-i-preserved c =
    let a = c.args in
    pass_more c.loop-i.invariant 64 (omega arith) (has_far a.wanted 64 (drop c.loop-i.i a.s.now) (sym c.any_in_64.ensures ∙ c.if-any_in_64.false) (omega (arith, length-drop c.loop-i.i a.s.now)))
