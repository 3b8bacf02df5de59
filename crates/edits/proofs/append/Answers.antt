-- `edits::append` meets its contract. Assumes nothing.
use Rattle.edits.specs.Edits.{appending}
use Rattle.edits.proofs.EditLaws.{is_by, edit_refused, append_is}
use mathlib.Core.Path.{sym, ◌∙◌}
use Rattle.edits.proofs.append.Goals as goal

pub returns-in-Ok : goal.returns-in-Ok
returns-in-Ok c = is_by (append_is _ _ _ _ _ (sym c.in-Ok.is ∙ c.check_done.ensures)) c.put_at.ensures

pub returns-in-Err : goal.returns-in-Err
unfolding appending
returns-in-Err c = rw c.refused.ensures (edit_refused _ _ _ _ _ (sym c.in-Err.is ∙ c.check_done.ensures))
