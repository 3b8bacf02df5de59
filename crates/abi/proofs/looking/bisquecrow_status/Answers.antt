-- `abi::looking::bisquecrow_status` meets its contract. Assumes nothing.
use Rattle.abi.proofs.CallLaws.{opens, lies_fine, lies_refused, status_there}
use Rattle.lent.proofs.LentLaws.{sound_parts}
use mathlib.Core.Path.{sym, ◌∙◌}
use Rattle.abi.proofs.looking.bisquecrow_status.Goals as goal

pub head_at-h-requires : goal.head_at-h-requires
head_at-h-requires c = (sound_parts _ _ (opens _ _ _ _ (sym c.in-Ok.is ∙ c.«open».ensures)).sound).0

pub returns-in-Ok : goal.returns-in-Ok
returns-in-Ok c =
    let s = c.args in
    let o = sym c.in-Ok.is ∙ c.«open».ensures in
    lies_fine _ _ _ _ _ _ _ _ _ _ o (rw (status_there s.head.now s.table.now s.block.now s.store.now o) (rw c.head_at-h.ensures at c.put_status.ensures))

pub returns-in-Err : goal.returns-in-Err
returns-in-Err c = lies_refused _ _ _ _ _ _ _ _ _ (sym c.in-Err.is ∙ c.«open».ensures) c.refused.ensures
