-- `lent_codes::find` meets its contract. Assumes nothing.
use Rattle.std.proofs.lemmas.Result.{err_from_is_err_and}
use Rattle.std.specs.Prelude.{Ok, Err}
use mathlib.Core.Path.{sym, ap, ◌∙◌}
use Rattle.lookups.proofs.SeekLaws.{find_refused}
use Rattle.lent.specs.Table.{map_in}
use Rattle.lent_codes.proofs.FindLaws.{find_few, find_lent}
use Rattle.lent_codes.proofs.find.Goals as goal

pub find-requires : goal.find-requires
find-requires c =
    let s = c.args in
    (find_few s.t.now s.h s.block.now s.store.now s.name.now (sym c.in_ok-check_done.was ∙ c.check_done.ensures), c.requires)

pub returns : goal.returns
returns c =
    let s = c.args in
    ap Ok c.find.ensures ∙ find_lent s.t.now s.h s.block.now s.store.now s.name.now (sym c.in_ok-check_done.was ∙ c.check_done.ensures)

pub returns-in_err-check_done : goal.returns-in_err-check_done
returns-in_err-check_done c =
    let s = c.args in
    let p = err_from_is_err_and c.from_residual.result c.from_residual.ensures.1 in
    p.1 ∙ ap Err p.2 ∙ sym (find_refused (map_in s.t.now s.h) s.block.now s.store.now s.name.now 0 _ (sym c.in_err-check_done.was ∙ c.check_done.ensures))
