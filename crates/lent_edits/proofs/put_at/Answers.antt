-- `lent_edits::put_at` meets its contract. Assumes nothing.
use native.Mathlib.Omega.{arith}
use mathlib.Core.Path.{sym, ◌∙◌}
use Rattle.maps.proofs.GoodLaws.{ready_of}
use Rattle.edits.proofs.EditLaws.{plan_of, put_refused, put_done}
use Rattle.lent.specs.Table.{map_in}
use Rattle.lent.proofs.LentLaws.{fields_length}
use Rattle.lent_edits.proofs.PutInLaws.{all_fit, new_fit}
use Rattle.lent_edits.proofs.put_at.Goals as goal

pub plan_put-requires : goal.plan_put-requires
plan_put-requires c =
    let a = c.args in
    let w = ready_of _ (map_in a.t.now a.h) a.block.now a.store.now c.requires.1 in
    (w.mark, w.most)

pub put-fields-requires : goal.put-fields-requires
put-fields-requires c =
    let a = c.args in
    let w = ready_of _ (map_in a.t.now a.h) a.block.now a.store.now c.requires.1 in
    let p = plan_of _ _ _ _ _ w.mark _ (sym c.in-Ok.is ∙ c.plan_put.ensures) in
    (w.few, p.inside, c.requires.2, c.requires.0, all_fit w, new_fit _ _ _ (omega (arith, p.fits, w.most)) _ p.is)

pub write_both-mark-requires : goal.write_both-mark-requires
write_both-mark-requires c =
    let a = c.args in
    let w = ready_of _ (map_in a.t.now a.h) a.block.now a.store.now c.requires.1 in
    let p = plan_of _ _ _ _ _ w.mark _ (sym c.in-Ok.is ∙ c.plan_put.ensures) in
    omega (arith, p.fits, w.store)

pub returns-in-Ok : goal.returns-in-Ok
returns-in-Ok c =
    let a = c.args in
    let w = ready_of _ (map_in a.t.now a.h) a.block.now a.store.now c.requires.1 in
    let p = plan_of _ _ _ _ _ w.mark _ (sym c.in-Ok.is ∙ c.plan_put.ensures) in
    put_done (map_in a.t.now a.h) a.block.now a.store.now a.key.now a.value.now a.at w.few p.inside p.fits _ p.is _ c.put-fields.ensures _ c.write_both-mark.ensures.0 _ c.write_both-mark.ensures.1

pub returns-in-Err : goal.returns-in-Err
returns-in-Err c =
    let a = c.args in
    let w = ready_of _ (map_in a.t.now a.h) a.block.now a.store.now c.requires.1 in
    rw c.refused.ensures (put_refused (map_in a.t.now a.h) a.block.now a.store.now a.key.now a.value.now a.at w.few (fields_length a.t.now 0 256) c.requires.2 w.mark _ (sym c.in-Err.is ∙ c.plan_put.ensures))
