-- `abi::looking::bisquecrow_fields` meets its contract. Assumes nothing.
use Rattle.abi.proofs.CallLaws.{opens, fields_fine, fields_refused}
use Rattle.lent.proofs.LentLaws.{sound_long}
use native.Mathlib.Omega.{arith}
use mathlib.Core.Path.{refl, sym, ◌∙◌}
use Rattle.abi.proofs.looking.bisquecrow_fields.Goals as goal

pub bounds-head-5 : goal.bounds-head-5
bounds-head-5 c =
    let s = c.args in
    let o = opens s.head.now s.table.now s.block.now s.store.now (sym c.in-Ok.is ∙ c.«open».ensures) in
    omega (arith, (sound_long _ _ o.sound).0)

pub returns-in-Ok : goal.returns-in-Ok
returns-in-Ok c = fields_fine _ _ _ _ _ _ (sym c.in-Ok.is ∙ c.«open».ensures) refl _ refl

pub returns-in-Err : goal.returns-in-Err
returns-in-Err c = fields_refused _ _ _ _ _ _ _ (sym c.in-Err.is ∙ c.«open».ensures) c.refused.ensures
