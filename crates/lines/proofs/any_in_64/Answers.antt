-- `lines::any_in_64` meets its contract. Assumes nothing.
use borrow.Author.Rules.{rules}
use native.Mathlib.Omega.{arith}
use mathlib.Core.Path.{sym, ◌∙◌}
use lib.ListN.{drop}
use Rattle.leaves.proofs.SearchLaws.{has_none, has_next}
use Rattle.lines.proofs.any_in_64.Goals as goal

pub loop-j-init : goal.loop-j-init
loop-j-init c = (search rules, has_none c.args.wanted (drop c.args.at c.args.s.now))

pub loop-j-preserved : goal.loop-j-preserved
loop-j-preserved c =
    let a = c.args in
    (omega arith, c.or_equal-hit.ensures ∙ rw c.loop-j.invariant.1 (sym (has_next a.wanted a.s.now a.at c.loop-j.j (omega arith))))
