-- `openings::is_length` meets its contract. Assumes nothing.
use Rattle.openings.proofs.OpenLaws.{length_tested}
use mathlib.Core.Path.{sym, ◌∙◌}
use Rattle.openings.proofs.is_length.Goals as goal

pub returns-then-is_decimal : goal.returns-then-is_decimal
returns-then-is_decimal c = let a = c.args in length_tested a.value.now _ (sym c.is_decimal.ensures ∙ c.if-is_decimal.true) c.content_length.ensures
