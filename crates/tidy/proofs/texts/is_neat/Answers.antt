-- `tidy::texts::is_neat` meets its contract. Assumes nothing.
use Rattle.tidy.proofs.TextLaws.{with_cr, with_lf, by_trim}
use mathlib.Core.Path.{sym, ◌∙◌}
use Rattle.tidy.proofs.texts.is_neat.Goals as goal

pub returns-then-holds : goal.returns-then-holds
returns-then-holds c = with_cr _ (sym c.holds.ensures ∙ c.if-holds.true)

pub returns-then-holds-2 : goal.returns-then-holds-2
returns-then-holds-2 c = with_lf _ (sym c.holds.ensures ∙ c.if-holds.false) (sym c.holds-2.ensures ∙ c.if-holds-2.true)

pub returns : goal.returns
returns c = by_trim _ (sym c.holds.ensures ∙ c.if-holds.false) (sym c.holds-2.ensures ∙ c.if-holds-2.false) _ c.trim-inner.ensures.is
