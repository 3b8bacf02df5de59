-- `lookups::shown_status` meets its contract. Assumes nothing.
use Rattle.lookups.proofs.HandLaws.{status_fine, status_refused}
use mathlib.Core.Path.{sym, ◌∙◌}
use Rattle.lookups.proofs.shown_status.Goals as goal

pub returns-in-Ok : goal.returns-in-Ok
returns-in-Ok c = sym (status_fine _ _ _ (sym c.in-Ok.is ∙ c.check_done.ensures))

pub returns-in-Err : goal.returns-in-Err
returns-in-Err c = sym (status_refused _ _ _ _ (sym c.in-Err.is ∙ c.check_done.ensures))
