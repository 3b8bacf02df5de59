-- `edits::set` meets its contract. Assumes nothing.
use Rattle.maps.proofs.GoodLaws.{ready_of}
use Rattle.edits.specs.Edits.{setting}
use Rattle.edits.proofs.EditLaws.{is_by, edit_refused, set_is}
use mathlib.Core.Path.{sym, ◌∙◌}
use Rattle.edits.proofs.set.Goals as goal

pub shared_ref_as_front-first_at : goal.shared_ref_as_front-first_at
shared_ref_as_front-first_at c =
    let a = c.args in
    let e = sym c.in-Ok.is ∙ c.check_done.ensures in
    let w = ready_of _ a.m a.block.now a.store.now e in
    w.few

pub returns-in-Ok : goal.returns-in-Ok
returns-in-Ok c = is_by (set_is _ _ _ _ _ (sym c.in-Ok.is ∙ c.check_done.ensures) _ c.first_at-at.ensures.0) c.put_at.ensures

pub returns-in-Err : goal.returns-in-Err
unfolding setting
returns-in-Err c = rw c.refused.ensures (edit_refused _ _ _ _ _ (sym c.in-Err.is ∙ c.check_done.ensures))
