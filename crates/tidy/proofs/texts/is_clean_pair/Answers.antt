-- `tidy::texts::is_clean_pair` meets its contract. Assumes nothing.
use Rattle.tidy.proofs.TextLaws.{pair_by, pair_not}
use mathlib.Core.Path.{sym, ◌∙◌}
use Rattle.tidy.proofs.texts.is_clean_pair.Goals as goal

pub returns-then-is_clean_key : goal.returns-then-is_clean_key
returns-then-is_clean_key c = let a = c.args in pair_by a.key.now a.value.now (sym c.is_clean_key.ensures ∙ c.if-is_clean_key.true) _ c.is_neat.ensures

pub returns : goal.returns
returns c = let a = c.args in pair_not a.key.now a.value.now (sym c.is_clean_key.ensures ∙ c.if-is_clean_key.false)
