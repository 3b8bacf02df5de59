-- `lent::tables::good_fields` meets its contract. Assumes nothing.
use Rattle.maps.proofs.GoodLaws.{and_go, and_stop}
use Rattle.lent.proofs.LentLaws.{good_next, good_end}
use native.Mathlib.Omega.{arith}
use mathlib.Core.Path.{sym, ◌∙◌}
use Prim.Native.Nat.{◌<◌}
use Rattle.lent.proofs.tables.good_fields.Goals as goal

pub loop-i-preserved : goal.loop-i-preserved
loop-i-preserved c =
    let a = c.args in
    let h : c.loop-i.i < a.n = omega (arith, c.loop-i-test.true) in
    let e = sym c.good_field.ensures ∙ c.if-not-good_field.false in
    let g = c.loop-i.invariant ∙ good_next a.count a.mark a.t.now a.n c.loop-i.i h in
    g ∙ sym (and_go _ _ e)

pub returns-then-not-good_field : goal.returns-then-not-good_field
returns-then-not-good_field c =
    let a = c.args in
    let h : c.loop-i.i < a.n = omega (arith, c.loop-i-test.true) in
    let e = sym c.good_field.ensures ∙ c.if-not-good_field.true in
    let g = c.loop-i.invariant ∙ good_next a.count a.mark a.t.now a.n c.loop-i.i h in
    sym (g ∙ sym (and_stop _ _ e))

pub returns : goal.returns
returns c =
    let a = c.args in
    sym (c.loop-i.invariant ∙ good_end a.count a.mark a.t.now a.n c.loop-i.i c.loop-i-test.false)
