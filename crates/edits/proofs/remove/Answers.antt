-- `edits::remove` meets its contract. Assumes nothing.
use Rattle.maps.proofs.GoodLaws.{ready_of}
use Rattle.edits.specs.Edits.{removing}
use Rattle.edits.proofs.EditLaws.{edit_refused, remove_is}
use borrow.Author.Rules.{rules}
use mathlib.Core.Path.{sym, ◌∙◌}
use Rattle.edits.proofs.remove.Goals as goal

pub compact-kept-requires : goal.compact-kept-requires
compact-kept-requires c =
    let a = c.args in
    let e = sym c.in-Ok.is ∙ c.check_done.ensures in
    let w = ready_of _ a.m a.block.now a.store.now e in
    (search rules, w.few)

pub returns-in-Ok : goal.returns-in-Ok
returns-in-Ok c = let a = c.args in remove_is a.m a.block.now a.store.now a.key.now (sym c.in-Ok.is ∙ c.check_done.ensures) _ c.compact-kept.ensures _ c.changed.ensures

pub returns-in-Err : goal.returns-in-Err
unfolding removing
returns-in-Err c = rw c.refused.ensures (edit_refused _ _ _ _ _ (sym c.in-Err.is ∙ c.check_done.ensures))
