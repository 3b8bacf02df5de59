-- `abi::reading::bisquecrow_clear` meets its contract. Assumes nothing.
use Rattle.abi.proofs.CallLaws.{changed, gave_sound, gave_damaged}
use Rattle.abi.specs.Calls.{clear_gives, made_answer, no_numbers, made_map}
use Rattle.lent.proofs.LentLaws.{sound_parts, sound_long}
use mathlib.Core.Path.{refl, sym, ◌∙◌}
use Rattle.abi.proofs.reading.bisquecrow_clear.Goals as goal

pub head_at-h-requires : goal.head_at-h-requires
head_at-h-requires c = (sound_parts _ _ (sym c.is_sound.ensures ∙ c.if-is_sound.true)).0

pub clear-made-requires : goal.clear-made-requires
clear-made-requires c = (sound_parts _ _ (sym c.is_sound.ensures ∙ c.if-is_sound.true)).1

pub put_head-requires : goal.put_head-requires
put_head-requires c = (sound_long _ _ (sym c.is_sound.ensures ∙ c.if-is_sound.true)).0

pub returns-then-is_sound : goal.returns-then-is_sound
unfolding clear_gives
returns-then-is_sound c =
    gave_sound _ _ _ _ _ _ _ _ _ _ _ _ _ (sym c.is_sound.ensures ∙ c.if-is_sound.true)
    (changed made_answer no_numbers made_map _ _ _ _ _ _ _ _ (rw c.head_at-h.ensures at c.clear-made.ensures) c.done.ensures refl c.put_head.ensures (sound_parts _ _ (sym c.is_sound.ensures ∙ c.if-is_sound.true)).1)

pub returns : goal.returns
unfolding clear_gives
returns c = gave_damaged _ _ _ _ _ _ _ (sym c.is_sound.ensures ∙ c.if-is_sound.false)
