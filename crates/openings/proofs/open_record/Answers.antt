-- `openings::open_record` meets its contract. Assumes nothing.
use Rattle.std.proofs.lemmas.Result.{err_from_is_err_and}
use Rattle.std.specs.Prelude.{Err}
use Rattle.openings.proofs.OpenLaws.{opening_goes, opening_refused}
use mathlib.Core.Path.{sym, ap, ◌∙◌}
use Rattle.openings.proofs.open_record.Goals as goal

pub returns-in_err-check_done : goal.returns-in_err-check_done
returns-in_err-check_done c =
    let a = c.args in
    let p = err_from_is_err_and c.from_residual.result c.from_residual.ensures.1 in
    p.1 ∙ ap Err p.2 ∙ sym (opening_refused a.m a.block.now a.store.now _ (sym c.in_err-check_done.was ∙ c.check_done.ensures))

pub returns : goal.returns
returns c =
    let a = c.args in
    c.open_good.ensures ∙ sym (opening_goes a.m a.block.now a.store.now (sym c.in_ok-check_done.was ∙ c.check_done.ensures))
