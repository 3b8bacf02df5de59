-- `leaves::trim_bounds` meets its contract. Assumes nothing.
use mathlib.Core.Path.{sym, ◌∙◌}
use Rattle.leaves.proofs.Words.{leading_is}
use Rattle.leaves.proofs.TrimLaws.{bounds_lt, bounds_ge}
use Rattle.leaves.proofs.trims.trim_bounds.Goals as goal

pub returns-then-start-end : goal.returns-then-start-end
returns-then-start-end c =
    bounds_lt _ _ _ (c.count_leading-start.ensures ∙ sym (leading_is _)) c.find_end-end.ensures c.if-start-end.true

pub returns-else-start-end : goal.returns-else-start-end
returns-else-start-end c =
    bounds_ge _ _ _ (c.count_leading-start.ensures ∙ sym (leading_is _)) c.find_end-end.ensures c.if-start-end.false
