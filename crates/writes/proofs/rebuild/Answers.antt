-- `writes::rebuild` meets its contract. Assumes nothing.
use Rattle.std.proofs.lemmas.Result.{err_from_is_err_and}
use Rattle.maps.proofs.GoodLaws.{ready_of}
use Rattle.writes.proofs.WriteLaws.{rebuild_refused, rebuild_fine, form_short, form_done}
use native.Mathlib.Omega.{arith}
use mathlib.Core.Path.{refl, sym, ◌∙◌}
use Rattle.writes.proofs.rebuild.Goals as goal

pub fields_length-lines-requires : goal.fields_length-lines-requires
fields_length-lines-requires c =
    let s = c.args in
    let m = s.m in
    let e = sym c.in_ok-check_done.was ∙ c.check_done.ensures in
    let w = ready_of _ m s.block.now s.store.now e in
    w.few

pub returns-then-out-line : goal.returns-then-out-line
returns-then-out-line c =
    let s = c.args in
    let m = s.m in
    let e = sym c.in_ok-check_done.was ∙ c.check_done.ensures in
    rebuild_fine m s.block.now s.store.now s.out.now e
    (form_short m _ refl s.block.now s.store.now s.out.now (omega (arith, c.status_length-line.ensures.0, c.fields_length-lines.ensures.0, c.if-out-line.true)))

pub put_fields-j-requires : goal.put_fields-j-requires
put_fields-j-requires c =
    let s = c.args in
    let m = s.m in
    let e = sym c.in_ok-check_done.was ∙ c.check_done.ensures in
    let w = ready_of _ m s.block.now s.store.now e in
    (w.few, omega (arith, c.status_length-line.ensures.0, c.fields_length-lines.ensures.0, c.put_status-i.ensures.ends, c.if-out-line.false))

pub returns : goal.returns
returns c =
    let s = c.args in
    let m = s.m in
    let e = sym c.in_ok-check_done.was ∙ c.check_done.ensures in
    rebuild_fine m s.block.now s.store.now s.out.now e
    (form_done m _ refl s.block.now s.store.now s.out.now (omega (arith, c.status_length-line.ensures.0, c.fields_length-lines.ensures.0, c.if-out-line.false)) _ _ _ _ _ _ c.put_status-i.ensures c.put_fields-j.ensures c.put_two.ensures)

pub returns-in_err-check_done : goal.returns-in_err-check_done
returns-in_err-check_done c =
    let p = err_from_is_err_and c.from_residual.result c.from_residual.ensures.1 in
    rw (p.1, p.2) (rebuild_refused _ _ _ _ _ (sym c.in_err-check_done.was ∙ c.check_done.ensures))
