-- `lines::find_far` meets its contract. Assumes nothing.
use native.Mathlib.Omega.{arith}
use lib.ListN.{drop}
use Rattle.leaves.proofs.SearchLaws.{before_take, pass_end}
use Rattle.lines.proofs.find_far.Goals as goal

pub overflow_add-result : goal.overflow_add-result
overflow_add-result c =
    let a = c.args in
    let k = c.skip_64-i in
    omega (arith, before_take a.wanted 64 (drop k.result a.s.now), c.before_in_64.ensures, k.ensures.passed.within)

pub returns-then-s-i-ge64 : goal.returns-then-s-i-ge64
returns-then-s-i-ge64 c =
    let a = c.args in
    let k = c.skip_64-i in
    pass_end k.ensures.passed _ (omega (arith, before_take a.wanted 64 (drop k.result a.s.now), k.ensures.near (omega arith), c.before_in_64.ensures))
