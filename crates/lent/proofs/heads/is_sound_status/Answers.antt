-- `lent::heads::is_sound_status` meets its contract. Assumes nothing.
use borrow.Author.Tests.{eq-eqb, ne_eqb, lt-ltb, le-ltb, le-leb, lt-leb}
use Rattle.leaves.proofs.ChoiceLaws.{if_true, if_false}
use Rattle.maps.proofs.GoodLaws.{and_go, and_stop}
use Rattle.lent.specs.Numbers.{sound_status}
use mathlib.Core.Path.{sym, ◌∙◌}
use Rattle.lent.proofs.heads.is_sound_status.Goals as goal

pub returns-then-from-eq0 : goal.returns-then-from-eq0
unfolding sound_status
returns-then-from-eq0 c = and_go _ _ (eq-eqb _ _ c.if-from-eq0.true) ∙ sym (if_true _ _ (eq-eqb _ _ c.if-kind-eq0.true))

pub returns-else-from-eq0 : goal.returns-else-from-eq0
unfolding sound_status
returns-else-from-eq0 c =
    ne_eqb _ _ c.if-from-eq0.false ∙ and_stop _ _ (ne_eqb _ _ c.if-from-eq0.false) ∙ sym (if_true _ _ (eq-eqb _ _ c.if-kind-eq0.true))

pub returns-then-from-lt4294967296 : goal.returns-then-from-lt4294967296
unfolding sound_status
returns-then-from-lt4294967296 c = and_go _ _ (lt-ltb _ _ c.if-from-lt4294967296.true) ∙ and_go _ _ (le-leb _ _ c.if-kind-le2.true) ∙ sym (if_false _ _ (ne_eqb _ _ c.if-kind-eq0.false))

pub returns-else-from-lt4294967296 : goal.returns-else-from-lt4294967296
unfolding sound_status
returns-else-from-lt4294967296 c =
    le-ltb _ _ c.if-from-lt4294967296.false ∙ and_stop _ _ (le-ltb _ _ c.if-from-lt4294967296.false) ∙ and_go _ _ (le-leb _ _ c.if-kind-le2.true) ∙
    sym (if_false _ _ (ne_eqb _ _ c.if-kind-eq0.false))

pub returns : goal.returns
unfolding sound_status
returns c = and_stop _ _ (lt-leb _ _ c.if-kind-le2.false) ∙ sym (if_false _ _ (ne_eqb _ _ c.if-kind-eq0.false))
