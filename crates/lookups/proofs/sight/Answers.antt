-- `lookups::sight` meets its contract. Assumes nothing.
use Rattle.std.proofs.lemmas.Result.{err_from_is_err_and}
use Rattle.std.specs.Prelude.{Ok, Err}
use Rattle.lookups.proofs.FoundLaws.{sight_fine, sight_refused}
use Rattle.maps.proofs.GoodLaws.{ready_of}
use mathlib.Core.Path.{sym, ap, ◌∙◌}
use Rattle.lookups.proofs.sight.Goals as goal

pub returns-in_err-check_done : goal.returns-in_err-check_done
returns-in_err-check_done c =
    let p = err_from_is_err_and c.from_residual.result c.from_residual.ensures.1 in
    p.1 ∙ ap Err p.2 ∙ sight_refused _ _ _ _ _ _ (sym c.in_err-check_done.was ∙ c.check_done.ensures)

pub shared_ref_as_front-seek : goal.shared_ref_as_front-seek
shared_ref_as_front-seek c =
    let a = c.args in
    (ready_of _ a.m a.block.now a.store.now (sym c.in_ok-check_done.was ∙ c.check_done.ensures)).few

pub returns : goal.returns
returns c = ap Ok c.seek.ensures ∙ sight_fine _ _ _ _ _ (sym c.in_ok-check_done.was ∙ c.check_done.ensures)
