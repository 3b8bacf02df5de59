-- `lent_codes::status_code` meets its contract. Assumes nothing.
use Rattle.std.proofs.lemmas.Result.{err_from_is_err_and}
use Rattle.std.specs.Prelude.{Ok, Err}
use mathlib.Core.Path.{sym, ap, ◌∙◌}
use Rattle.codes.proofs.MapLaws.{code_fine, code_refused}
use Rattle.lent.specs.Table.{map_in}
use Rattle.lent_codes.proofs.status_code.Goals as goal

pub returns : goal.returns
returns c =
    let s = c.args in
    code_fine (map_in s.t.now s.h) s.block.now s.store.now (sym c.in_ok-check_done.was ∙ c.check_done.ensures) _ c.status_text-text.ensures _ (ap Ok c.code_of.ensures)

pub returns-in_err-check_done : goal.returns-in_err-check_done
returns-in_err-check_done c =
    let s = c.args in
    let p = err_from_is_err_and c.from_residual.result c.from_residual.ensures.1 in
    p.1 ∙ ap Err p.2 ∙ code_refused (map_in s.t.now s.h) s.block.now s.store.now _ (sym c.in_err-check_done.was ∙ c.check_done.ensures)
