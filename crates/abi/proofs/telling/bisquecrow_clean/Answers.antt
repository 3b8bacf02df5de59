-- `abi::telling::bisquecrow_clean` meets its contract. Assumes nothing.
use Rattle.abi.proofs.TellLaws.{clean_live}
use Rattle.leaves.proofs.ChoiceLaws.{if_false}
use mathlib.Core.Path.{sym, ◌∙◌}
use Rattle.abi.proofs.telling.bisquecrow_clean.Goals as goal

pub returns-then-is_sound : goal.returns-then-is_sound
returns-then-is_sound c =
    let a = c.args in
    clean_live a.head.now a.table.now a.block.now a.store.now _ c.live_at-m.ensures _ _ (sym c.is_sound.ensures ∙ c.if-is_sound.true) c.clean-t.ensures c.told.ensures

pub returns : goal.returns
returns c = sym (if_false _ _ (sym c.is_sound.ensures ∙ c.if-is_sound.false))
