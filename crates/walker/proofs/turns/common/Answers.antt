-- `walker::turns::common` meets its contract. Assumes nothing.
use Rattle.walker.proofs.WalkLaws.{common_more, common_differs, common_over}
use native.Mathlib.Omega.{arith}
use mathlib.Core.Path.{◌≡◌, ap, ◌∙◌}
use Prim.Native.Nat.{ℕ, ◌+◌, ◌<◌}
use lib.ListN.{length}
use Rattle.walker.proofs.turns.common.Goals as goal

pub loop-i-preserved : goal.loop-i-preserved
loop-i-preserved c =
    let a = c.args in
    let i = c.loop-i.i in
    let h : i < length a.x.now = omega (arith, c.loop-i-test.true, c.min-n.ensures) in
    let k : i < length a.y.now = omega (arith, c.loop-i-test.true, c.min-n.ensures) in
    c.loop-i.invariant ∙ ap (λ (n : ℕ). i + n) (common_more a.x.now a.y.now i h k c.if-x-i.false) ∙ omega arith

pub returns-then-x-i : goal.returns-then-x-i
returns-then-x-i c =
    let a = c.args in
    let i = c.loop-i.i in
    let h : i < length a.x.now = omega (arith, c.loop-i-test.true, c.min-n.ensures) in
    let k : i < length a.y.now = omega (arith, c.loop-i-test.true, c.min-n.ensures) in
    let z = common_differs a.x.now a.y.now i h k c.if-x-i.true in
    let y = c.loop-i.invariant in
    omega (arith, z, y)

pub returns : goal.returns
returns c =
    let a = c.args in
    let i = c.loop-i.i in
    let e : i ≡ c.min-n.result = omega (arith, c.loop-i-test.false, c.loop-i.auto.i-end) in
    let z = common_over a.x.now a.y.now i (omega (arith, e, c.min-n.ensures)) in
    let y = c.loop-i.invariant in
    omega (arith, e, z, y)
