-- `abi::editing::bisquecrow_append` meets its contract. Assumes nothing.
use Rattle.abi.proofs.CallLaws.{changed, gave_sound, gave_damaged}
use Rattle.abi.specs.Calls.{append_gives, edit_answer, no_numbers, edit_map}
use Rattle.lent.proofs.LentLaws.{sound_parts, sound_long}
use mathlib.Core.Path.{refl, sym, ◌∙◌}
use Rattle.abi.proofs.editing.bisquecrow_append.Goals as goal

pub head_at-h-requires : goal.head_at-h-requires
head_at-h-requires c = (sound_parts _ _ (sym c.is_sound.ensures ∙ c.if-is_sound.true)).0

pub append-edited-requires : goal.append-edited-requires
append-edited-requires c = (sound_parts _ _ (sym c.is_sound.ensures ∙ c.if-is_sound.true)).1

pub put_head-requires : goal.put_head-requires
put_head-requires c = (sound_long _ _ (sym c.is_sound.ensures ∙ c.if-is_sound.true)).0

pub returns-then-is_sound : goal.returns-then-is_sound
unfolding append_gives
returns-then-is_sound c =
    gave_sound _ _ _ _ _ _ _ _ _ _ _ _ _ (sym c.is_sound.ensures ∙ c.if-is_sound.true)
    (changed edit_answer no_numbers edit_map _ _ _ _ _ _ _ _ (rw c.head_at-h.ensures at c.append-edited.ensures) c.done.ensures refl c.put_head.ensures (c.append-edited.auto.t ∙ (sound_parts _ _ (sym c.is_sound.ensures ∙ c.if-is_sound.true)).1))

pub returns : goal.returns
unfolding append_gives
returns c = gave_damaged _ _ _ _ _ _ _ (sym c.is_sound.ensures ∙ c.if-is_sound.false)
