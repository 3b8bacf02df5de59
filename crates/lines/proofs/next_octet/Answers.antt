-- `lines::next_octet` meets its contract. Assumes nothing.
use native.Mathlib.Omega.{arith}
use native.Mathlib.Nat.{add-zero}
use mathlib.Core.Path.{◌≡◌, sym, ap, ◌∙◌}
use lib.ListN.{length}
use Prim.Native.Nat.{ℕ, ◌+◌}
use borrow.Author.Tests.{ne_eqb}
use Rattle.leaves.proofs.SearchLaws.{before_here, before_not, before_end, pass_more}
use Rattle.lines.proofs.next_octet.Goals as goal

pub returns-then-s-i : goal.returns-then-s-i
returns-then-s-i c =
    let s = c.args.s.now in
    sym (c.loop-i.invariant.is ∙ ap (λ (n : ℕ). c.loop-i.i + n) (before_here c.args.wanted s c.loop-i.i (omega arith) c.if-s-i.true) ∙ add-zero _)

pub loop-i-preserved : goal.loop-i-preserved
loop-i-preserved c =
    let s = c.args.s.now in
    pass_more c.loop-i.invariant 1 (omega arith) (omega (arith, before_not c.args.wanted s c.loop-i.i (omega arith) (ne_eqb _ _ c.if-s-i.false)))

pub returns : goal.returns
returns c =
    let s = c.args.s.now in
    let e : length s ≡ c.loop-i.i = omega arith in
    e ∙ sym (c.loop-i.invariant.is ∙ ap (λ (n : ℕ). c.loop-i.i + n) (before_end c.args.wanted s c.loop-i.i c.loop-i-test.false) ∙ add-zero _)
