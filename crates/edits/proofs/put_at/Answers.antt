-- `edits::put_at` meets its contract. Assumes nothing.
use native.Mathlib.Omega.{arith}
use mathlib.Core.Path.{sym, ◌∙◌}
use Rattle.maps.proofs.GoodLaws.{ready_of}
use Rattle.edits.proofs.EditLaws.{plan_of, put_refused, put_done}
use Rattle.edits.proofs.put_at.Goals as goal

pub plan_put-requires : goal.plan_put-requires
plan_put-requires c =
    let a = c.args in
    let w = ready_of _ a.m a.block.now a.store.now c.requires.0 in
    (w.mark, w.most)

pub put-kept-requires : goal.put-kept-requires
put-kept-requires c =
    let a = c.args in
    let w = ready_of _ a.m a.block.now a.store.now c.requires.0 in
    let p = plan_of _ _ _ _ _ w.mark _ (sym c.in-Ok.is ∙ c.plan_put.ensures) in
    (w.few, p.inside, c.requires.1)

pub write_both-mark-requires : goal.write_both-mark-requires
write_both-mark-requires c =
    let a = c.args in
    let w = ready_of _ a.m a.block.now a.store.now c.requires.0 in
    let p = plan_of _ _ _ _ _ w.mark _ (sym c.in-Ok.is ∙ c.plan_put.ensures) in
    omega (arith, p.fits, w.store)

pub returns-in-Ok : goal.returns-in-Ok
returns-in-Ok c =
    let a = c.args in
    let w = ready_of _ a.m a.block.now a.store.now c.requires.0 in
    let p = plan_of _ _ _ _ _ w.mark _ (sym c.in-Ok.is ∙ c.plan_put.ensures) in
    put_done a.m a.block.now a.store.now a.key.now a.value.now a.at w.few p.inside p.fits _ p.is _ c.put-kept.ensures _ c.write_both-mark.ensures.0 _ c.write_both-mark.ensures.1

pub returns-in-Err : goal.returns-in-Err
returns-in-Err c =
    let a = c.args in
    let w = ready_of _ a.m a.block.now a.store.now c.requires.0 in
    rw c.refused.ensures (put_refused a.m a.block.now a.store.now a.key.now a.value.now a.at w.few (c.well_formed.0.1.1.0.1.0.1) c.requires.1 w.mark _ (sym c.in-Err.is ∙ c.plan_put.ensures))
