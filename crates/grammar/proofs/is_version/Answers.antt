-- `grammar::is_version` meets its contract. Assumes nothing.
use mathlib.Core.Path.{sym, ◌∙◌}
use Rattle.grammar.proofs.StageLaws.{first_version, second_version}
use Rattle.grammar.proofs.is_version.Goals as goal

pub returns-then-same_octets : goal.returns-then-same_octets
returns-then-same_octets c = c.if-same_octets.true ∙ sym (first_version _ (sym c.same_octets.ensures ∙ c.if-same_octets.true))

pub returns-else-same_octets : goal.returns-else-same_octets
returns-else-same_octets c = c.same_octets-else-same_octets.ensures ∙ sym (second_version _ (sym c.same_octets.ensures ∙ c.if-same_octets.false))
