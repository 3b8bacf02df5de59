-- `tidy::texts::is_clean_key` meets its contract. Assumes nothing.
use Rattle.tidy.proofs.TextLaws.{bare_key, colon_key, full_key}
use mathlib.Core.Path.{sym, ◌∙◌}
use Rattle.tidy.proofs.texts.is_clean_key.Goals as goal

pub returns-then-key-eq0 : goal.returns-then-key-eq0
returns-then-key-eq0 c = bare_key _ c.if-key-eq0.true

pub returns-then-holds : goal.returns-then-holds
returns-then-holds c = colon_key _ c.if-key-eq0.false (sym c.holds.ensures ∙ c.if-holds.true)

pub returns : goal.returns
returns c = full_key _ c.if-key-eq0.false (sym c.holds.ensures ∙ c.if-holds.false) _ c.is_neat.ensures
