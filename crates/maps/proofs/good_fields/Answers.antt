-- `maps::good_fields` meets its contract. Assumes nothing.
use native.Mathlib.Numerals.{add-one}
use mathlib.Core.Path.{sym, ◌∙◌}
use lib.ListN.{take}
use Rattle.maps.proofs.GoodLaws.{and_go, and_stop, fields_next, fields_end}
use Rattle.maps.proofs.good_fields.Goals as goal

pub loop-f-preserved : goal.loop-f-preserved
loop-f-preserved c =
    let a = c.args in
    let l = c.loop-f in
    l.invariant ∙ fields_next a.count a.mark (take a.n a.t) l.f-index _ c.loop-f-test.true ∙ sym (and_go _ _ (sym c.good_field.ensures ∙ c.if-not-good_field.false)) ∙ rw add-one

pub returns-then-not-good_field : goal.returns-then-not-good_field
returns-then-not-good_field c =
    let a = c.args in
    let l = c.loop-f in
    sym (l.invariant ∙ fields_next a.count a.mark (take a.n a.t) l.f-index _ c.loop-f-test.true ∙ sym (and_stop _ _ (sym c.good_field.ensures ∙ c.if-not-good_field.true)))

pub returns : goal.returns
returns c = let a = c.args in sym (c.loop-f.invariant ∙ fields_end a.count a.mark (take a.n a.t) c.loop-f.f-index c.loop-f-test.false)
