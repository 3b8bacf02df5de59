-- `codes::line::behind_space` meets its contract. Assumes nothing.
use Rattle.codes.proofs.LineLaws.{behind_hit, behind_none}
use mathlib.Core.Path.{sym}
use Rattle.codes.proofs.line.behind_space.Goals as goal

pub returns-then-i-text : goal.returns-then-i-text
returns-then-i-text c = sym (behind_hit _ _ _ c.find_octet-i.ensures c.if-i-text.true)

pub returns-else-i-text : goal.returns-else-i-text
returns-else-i-text c = sym (behind_none _ _ _ c.find_octet-i.ensures c.if-i-text.false)
