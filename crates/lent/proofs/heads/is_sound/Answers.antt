-- `lent::heads::is_sound` meets its contract. Assumes nothing.
use borrow.Author.Tests.{eq-eqb, ne_eqb, le-leb, lt-leb}
use Rattle.maps.proofs.GoodLaws.{and_go, and_stop}
use Rattle.lent.specs.Numbers.{sound_head}
use mathlib.Core.Path.{sym, ◌∙◌}
use Rattle.lent.proofs.heads.is_sound.Goals as goal

pub returns-then-n-ne-HEAD : goal.returns-then-n-ne-HEAD
unfolding sound_head
returns-then-n-ne-HEAD c = and_stop _ _ (ne_eqb _ _ c.if-n-ne-HEAD.true)

pub returns-then-not-is_sound_status : goal.returns-then-not-is_sound_status
unfolding sound_head
returns-then-not-is_sound_status c = and_stop _ _ (sym c.is_sound_status.ensures ∙ c.if-not-is_sound_status.true) ∙ and_go _ _ (eq-eqb _ _ c.if-n-ne-HEAD.false)

pub returns-then-n-gt1 : goal.returns-then-n-gt1
unfolding sound_head
returns-then-n-gt1 c = and_stop _ _ (lt-leb _ _ c.if-n-gt1.true) ∙ and_go _ _ (sym c.is_sound_status.ensures ∙ c.if-not-is_sound_status.false) ∙ and_go _ _ (eq-eqb _ _ c.if-n-ne-HEAD.false)

pub returns-then-n-gt1-2 : goal.returns-then-n-gt1-2
unfolding sound_head
returns-then-n-gt1-2 c = and_stop _ _ (lt-leb _ _ c.if-n-gt1-2.true) ∙ and_go _ _ (le-leb _ _ c.if-n-gt1.false) ∙ and_go _ _ (sym c.is_sound_status.ensures ∙ c.if-not-is_sound_status.false) ∙ and_go _ _ (eq-eqb _ _ c.if-n-ne-HEAD.false)

pub returns-then-n-gt1-3 : goal.returns-then-n-gt1-3
unfolding sound_head
returns-then-n-gt1-3 c = and_stop _ _ (lt-leb _ _ c.if-n-gt1-3.true) ∙ and_go _ _ (le-leb _ _ c.if-n-gt1-2.false) ∙ and_go _ _ (le-leb _ _ c.if-n-gt1.false) ∙ and_go _ _ (sym c.is_sound_status.ensures ∙ c.if-not-is_sound_status.false) ∙ and_go _ _ (eq-eqb _ _ c.if-n-ne-HEAD.false)

pub returns : goal.returns
unfolding sound_head
returns c = and_go _ _ (le-leb _ _ c.if-n-gt1-3.false) ∙ and_go _ _ (le-leb _ _ c.if-n-gt1-2.false) ∙ and_go _ _ (le-leb _ _ c.if-n-gt1.false) ∙ and_go _ _ (sym c.is_sound_status.ensures ∙ c.if-not-is_sound_status.false) ∙ and_go _ _ (eq-eqb _ _ c.if-n-ne-HEAD.false)
