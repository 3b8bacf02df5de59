-- `abi::reading::bisquecrow_feed` meets its contract. Assumes nothing.
use Rattle.abi.proofs.CallLaws.{changed, gave_sound, gave_damaged}
use Rattle.abi.specs.Calls.{feed_gives, fed_answer, fed_taken, fed_map}
use Rattle.lent.proofs.LentLaws.{sound_parts, sound_long}
use mathlib.Core.Path.{refl, sym, ◌∙◌}
use Rattle.abi.proofs.reading.bisquecrow_feed.Goals as goal

pub head_at-h-requires : goal.head_at-h-requires
head_at-h-requires c = (sound_parts _ _ (sym c.is_sound.ensures ∙ c.if-is_sound.true)).0

pub feed-fed-requires : goal.feed-fed-requires
feed-fed-requires c = (sound_parts _ _ (sym c.is_sound.ensures ∙ c.if-is_sound.true)).1

pub put_head-requires : goal.put_head-requires
put_head-requires c = (sound_long _ _ (sym c.is_sound.ensures ∙ c.if-is_sound.true)).0

pub returns-then-is_sound : goal.returns-then-is_sound
unfolding feed_gives
returns-then-is_sound c =
    gave_sound _ _ _ _ _ _ _ _ _ _ _ _ _ (sym c.is_sound.ensures ∙ c.if-is_sound.true)
    (changed fed_answer fed_taken fed_map _ _ _ _ _ _ _ _ (rw c.head_at-h.ensures at c.feed-fed.ensures) c.read.ensures refl c.put_head.ensures (c.feed-fed.auto.t ∙ (sound_parts _ _ (sym c.is_sound.ensures ∙ c.if-is_sound.true)).1))

pub returns : goal.returns
unfolding feed_gives
returns c = gave_damaged _ _ _ _ _ _ _ (sym c.is_sound.ensures ∙ c.if-is_sound.false)
