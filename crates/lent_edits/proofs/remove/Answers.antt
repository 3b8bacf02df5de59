-- `lent_edits::remove` meets its contract. Assumes nothing.
use Rattle.maps.proofs.GoodLaws.{ready_of}
use Rattle.edits.specs.Edits.{removing}
use Rattle.edits.proofs.EditLaws.{edit_refused, remove_is}
use Rattle.lent.specs.Table.{map_in}
use Rattle.lent_edits.proofs.PutInLaws.{all_fit}
use borrow.Author.Rules.{rules}
use mathlib.Core.Path.{sym, ◌∙◌}
use Rattle.lent_edits.proofs.remove.Goals as goal

pub compact-fields-requires : goal.compact-fields-requires
compact-fields-requires c =
    let a = c.args in
    let e = sym c.in-Ok.is ∙ c.check_done.ensures in
    let w = ready_of _ (map_in a.t.now a.h) a.block.now a.store.now e in
    (search rules, w.few, c.requires, all_fit w)

pub returns-in-Ok : goal.returns-in-Ok
returns-in-Ok c =
    let a = c.args in
    let e = sym c.in-Ok.is ∙ c.check_done.ensures in
    remove_is (map_in a.t.now a.h) a.block.now a.store.now a.key.now e _ c.compact-fields.ensures _ c.changed.ensures

pub returns-in-Err : goal.returns-in-Err
unfolding removing
returns-in-Err c = rw c.refused.ensures (edit_refused _ _ _ _ _ (sym c.in-Err.is ∙ c.check_done.ensures))
