-- `abi::telling::bisquecrow_grammatical` meets its contract. Assumes nothing.
use Rattle.leaves.proofs.ChoiceLaws.{if_true, if_false}
use mathlib.Core.Path.{sym, ◌∙◌}
use Rattle.abi.proofs.telling.bisquecrow_grammatical.Goals as goal

pub returns-then-grammatical : goal.returns-then-grammatical
returns-then-grammatical c = sym (if_true _ _ (sym c.grammatical.ensures ∙ c.if-grammatical.true))

pub returns : goal.returns
returns c = sym (if_false _ _ (sym c.grammatical.ensures ∙ c.if-grammatical.false))
