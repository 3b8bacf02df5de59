-- `lines::before_within` meets its contract. Assumes nothing.
use native.Mathlib.Omega.{arith}
use mathlib.Core.Path.{◌≡◌, ap}
use Prim.Native.Nat.{◌+◌, ◌≤◌}
use lib.ListN.{length, take, drop}
use lib.Seq.{length-take-le}
use Rattle.leaves.specs.Octets.{before}
use Rattle.leaves.proofs.SearchLaws.{before_take, drop_cut, pass_start, pass_more}
use Rattle.lines.proofs.before_within.Goals as goal

pub returns-then-n-k : goal.returns-then-n-k
returns-then-n-k c =
    let a = c.args in
    let l = drop a.at a.s.now in
    omega (arith, before_take a.wanted 64 l, before_take a.wanted a.n l, c.before_in_64-k.ensures)

pub returns-then-k-lt64 : goal.returns-then-k-lt64
returns-then-k-lt64 c =
    let a = c.args in
    let l = drop a.at a.s.now in
    omega (arith, before_take a.wanted 64 l, before_take a.wanted a.n l, c.before_in_64-k.ensures)

pub returns-then-s-at-ge64 : goal.returns-then-s-at-ge64
returns-then-s-at-ge64 c =
    let a = c.args in
    let s = take (a.at + a.n) a.s.now in
    let l = drop a.at a.s.now in
    let e : length s ≡ a.at + a.n = length-take-le (a.at + a.n) a.s.now (omega arith) in
    let cut : before a.wanted (drop a.at s) ≡ before a.wanted (take a.n l) = ap (before a.wanted) (drop_cut a.s.now a.at a.n (omega arith)) in
    let far : 64 ≤ before a.wanted (drop a.at s) =
    omega (arith, before_take a.wanted 64 l, before_take a.wanted a.n l, c.before_in_64-k.ensures) in
    omega (arith, c.find_far.ensures, (pass_more (pass_start a.wanted s a.at (omega arith)) 64 (omega arith) far).is)

pub returns : goal.returns
returns c =
    let a = c.args in
    omega (arith, c.next_octet.ensures, ap (before a.wanted) (drop_cut a.s.now a.at a.n (omega arith)))
