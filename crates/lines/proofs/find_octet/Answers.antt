-- `lines::find_octet` meets its contract. Assumes nothing.
use native.Mathlib.Omega.{arith}
use mathlib.Core.Path.{sym, ◌∙◌}
use lib.ListN.{drop}
use Rattle.leaves.proofs.SearchLaws.{before_take, pass_start, pass_more}
use Rattle.lines.proofs.find_octet.Goals as goal

pub returns-then-k-lt64 : goal.returns-then-k-lt64
returns-then-k-lt64 c =
    let a = c.args in
    omega (arith, before_take a.wanted 64 (drop a.from a.s.now), c.before_in_64-k.ensures)

pub returns-then-s-from-ge64 : goal.returns-then-s-from-ge64
returns-then-s-from-ge64 c =
    let a = c.args in
    let far = before_take a.wanted 64 (drop a.from a.s.now) in
    c.find_far.ensures ∙ sym (pass_more (pass_start a.wanted a.s.now a.from (omega arith)) 64 (omega arith) (omega (arith, c.before_in_64-k.ensures))).is
