-- `lent::heads::phase_of` meets its contract. Assumes nothing.
use borrow.Author.Tests.{eq-eqb, ne_eqb}
use Rattle.leaves.proofs.ChoiceLaws.{if_true, if_false}
use mathlib.Core.Path.{sym}
use Rattle.lent.proofs.heads.phase_of.Goals as goal

pub returns-then-n-eq1 : goal.returns-then-n-eq1
returns-then-n-eq1 c = sym (if_true _ _ (eq-eqb _ _ c.if-n-eq1.true))

pub returns-else-n-eq1 : goal.returns-else-n-eq1
returns-else-n-eq1 c = sym (if_false _ _ (ne_eqb _ _ c.if-n-eq1.false))
