-- `abi::telling::bisquecrow_equal` meets its contract. Assumes nothing.
use Rattle.abi.proofs.CallLaws.{opens, two_refused, two_second, two_both}
use Rattle.abi.proofs.TellLaws.{equal_live}
use mathlib.Core.Path.{sym, ◌∙◌}
use Rattle.abi.proofs.telling.bisquecrow_equal.Goals as goal

pub live_at-one-requires : goal.live_at-one-requires
live_at-one-requires c = (opens _ _ _ _ (sym c.in-Ok.is ∙ c.«open».ensures)).sound

pub returns-then-is_sound : goal.returns-then-is_sound
returns-then-is_sound c =
    let a = c.args in
    let w = sym c.is_sound.ensures ∙ c.if-is_sound.true in
    two_both a.head.now a.table.now a.block.now a.store.now _ _ _ _ (sym c.in-Ok.is ∙ c.«open».ensures) w (equal_live a.head.now a.table.now a.block.now a.store.now _ c.live_at-one.ensures a.head2.now a.table2.now a.block2.now a.store2.now _ c.live_at-two.ensures _ _ c.compare-e.ensures c.told.ensures)

pub returns-else-is_sound : goal.returns-else-is_sound
returns-else-is_sound c = two_second _ _ _ _ _ _ _ (sym c.in-Ok.is ∙ c.«open».ensures) (sym c.is_sound.ensures ∙ c.if-is_sound.false)

pub returns-in-Err : goal.returns-in-Err
returns-in-Err c = two_refused _ _ _ _ _ _ _ _ _ (sym c.in-Err.is ∙ c.«open».ensures) c.refused.ensures
