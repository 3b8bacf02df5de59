-- `abi::walking::bisquecrow_walk` meets its contract. Assumes nothing.
use Rattle.abi.proofs.WalkedLaws.{went, goes_sound, goes_no_map, goes_no_trail}
use Rattle.abi.specs.Calls.{walk_gives, walked_numbers}
use Rattle.lent.proofs.LentLaws.{sound_parts, sound_long}
use Rattle.trails.proofs.TrailLaws.{sound_four}
use mathlib.Core.Path.{refl, sym, ◌∙◌}
use Rattle.abi.proofs.walking.bisquecrow_walk.Goals as goal

pub trail_at-w-requires : goal.trail_at-w-requires
trail_at-w-requires c = sound_four _ (sym c.is_sound.ensures ∙ c.if-is_sound.true)

pub head_at-h-requires : goal.head_at-h-requires
head_at-h-requires c = (sound_parts _ _ (sym c.is_sound-then-is_sound.ensures ∙ c.if-is_sound-2.true)).0

pub walk-walked-requires : goal.walk-walked-requires
walk-walked-requires c = (sound_parts _ _ (sym c.is_sound-then-is_sound.ensures ∙ c.if-is_sound-2.true)).1

pub put_head-requires : goal.put_head-requires
put_head-requires c = (sound_long _ _ (sym c.is_sound-then-is_sound.ensures ∙ c.if-is_sound-2.true)).0

pub put_trail-requires : goal.put_trail-requires
put_trail-requires c = sound_four _ (sym c.is_sound.ensures ∙ c.if-is_sound.true)

pub returns-then-is_sound-2 : goal.returns-then-is_sound-2
unfolding walk_gives
returns-then-is_sound-2 c =
    rw c.put_record.ensures
    (goes_sound _ _ _ _ _ _ _ _ _ _ _ _ _ _ _ _ (sym c.is_sound.ensures ∙ c.if-is_sound.true) (sym c.is_sound-then-is_sound.ensures ∙ c.if-is_sound-2.true)
    (went (walked_numbers _) _ _ _ _ _ _ _ _ _ _ (rw (c.trail_at-w.ensures, c.head_at-h.ensures) at c.walk-walked.ensures) c.walked.ensures refl c.put_head.ensures c.put_trail.ensures (c.walk-walked.auto.t ∙ (sound_parts _ _ (sym c.is_sound-then-is_sound.ensures ∙ c.if-is_sound-2.true)).1)))

pub returns-then-is_sound : goal.returns-then-is_sound
unfolding walk_gives
returns-then-is_sound c = goes_no_map _ _ _ _ _ _ _ _ _ (sym c.is_sound.ensures ∙ c.if-is_sound.true) (sym c.is_sound-then-is_sound.ensures ∙ c.if-is_sound-2.false)

pub returns : goal.returns
unfolding walk_gives
returns c = goes_no_trail _ _ _ _ _ _ _ _ _ (sym c.is_sound.ensures ∙ c.if-is_sound.false)
