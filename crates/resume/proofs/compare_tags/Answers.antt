-- `resume::compare_tags` meets its contract. Assumes nothing.
use Rattle.resume.proofs.ResumeLaws.{tags_first, tags_second, tags_same, tags_differ}
use mathlib.Core.Path.{sym, ◌∙◌}
use Rattle.resume.proofs.compare_tags.Goals as goal

pub returns-then-x-eq0 : goal.returns-then-x-eq0
returns-then-x-eq0 c = tags_first _ _ c.if-x-eq0.true

pub returns-then-y-eq0 : goal.returns-then-y-eq0
returns-then-y-eq0 c = tags_second _ _ c.if-x-eq0.false c.if-y-eq0.true

pub returns-then-same_octets : goal.returns-then-same_octets
returns-then-same_octets c = tags_same _ _ c.if-x-eq0.false c.if-y-eq0.false (sym c.same_octets.ensures ∙ c.if-same_octets.true)

pub returns-else-same_octets : goal.returns-else-same_octets
returns-else-same_octets c = tags_differ _ _ c.if-x-eq0.false c.if-y-eq0.false (sym c.same_octets.ensures ∙ c.if-same_octets.false)
