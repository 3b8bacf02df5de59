-- `lookups::find` meets its contract. Assumes nothing.
use Rattle.std.proofs.lemmas.Result.{err_from_is_err_and}
use Rattle.std.specs.Prelude.{Ok, Err}
use Rattle.lookups.proofs.FoundLaws.{sight_at, sight_missing, sight_blind}
use mathlib.Core.Path.{sym, ap, ◌∙◌}
use Rattle.lookups.proofs.find.Goals as goal

pub returns-in_err-i : goal.returns-in_err-i
returns-in_err-i c =
    let a = c.args in
    let p = err_from_is_err_and c.from_residual.result c.from_residual.ensures.1 in
    p.1 ∙ ap Err p.2 ∙ sym (sight_blind a.m a.block.now a.store.now a.name.now a.from _ (sym c.sight.ensures ∙ c.in_err-i.was))

pub returns-in-Some : goal.returns-in-Some
returns-in-Some c =
    let a = c.args in
    sym (sight_at a.m a.block.now a.store.now a.name.now a.from _ _ (sym c.sight.ensures ∙ c.in_ok-i.was ∙ ap Ok c.in-Some.is))

pub returns-in-None : goal.returns-in-None
returns-in-None c =
    let a = c.args in
    sym (sight_missing a.m a.block.now a.store.now a.name.now a.from (sym c.sight.ensures ∙ c.in_ok-i.was ∙ ap Ok c.in-None.is))
