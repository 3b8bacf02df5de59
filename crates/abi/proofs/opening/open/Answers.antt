-- `abi::opening::open` meets its contract. Assumes nothing.
use Rattle.abi.proofs.CallLaws.{open_sound, open_damaged}
use Rattle.lent.proofs.LentLaws.{sound_parts}
use mathlib.Core.Path.{sym, ◌∙◌}
use Rattle.abi.proofs.opening.open.Goals as goal

pub head_at-h-requires : goal.head_at-h-requires
head_at-h-requires c = (sound_parts _ _ (sym c.is_sound.ensures ∙ c.if-is_sound.true)).0

pub check_done-requires : goal.check_done-requires
check_done-requires c = (sound_parts _ _ (sym c.is_sound.ensures ∙ c.if-is_sound.true)).1

pub returns-then-is_sound : goal.returns-then-is_sound
returns-then-is_sound c = rw c.head_at-h.ensures at c.check_done.ensures ∙ sym (open_sound _ _ _ _ (sym c.is_sound.ensures ∙ c.if-is_sound.true))

pub returns : goal.returns
returns c = sym (open_damaged _ _ _ _ (sym c.is_sound.ensures ∙ c.if-is_sound.false))
