-- `abi::looking::bisquecrow_key` meets its contract. Assumes nothing.
use Rattle.abi.proofs.CallLaws.{opens, lies_fine, lies_refused, few, slot_there, slot_none}
use Rattle.lent.proofs.LentLaws.{sound_long}
use native.Mathlib.Omega.{arith}
use mathlib.Core.Path.{refl, sym, ◌∙◌}
use Rattle.abi.proofs.looking.bisquecrow_key.Goals as goal

pub bounds-head-5 : goal.bounds-head-5
bounds-head-5 c =
    let s = c.args in
    let o = opens s.head.now s.table.now s.block.now s.store.now (sym c.in-Ok.is ∙ c.«open».ensures) in
    omega (arith, (sound_long _ _ o.sound).0)

pub field_at-f-requires : goal.field_at-f-requires
field_at-f-requires c =
    let s = c.args in
    let o = sym c.in-Ok.is ∙ c.«open».ensures in
    let l = few s.head.now s.table.now s.block.now s.store.now o in
    (omega (arith, l, c.if-number-head.true), (sound_long _ _ (opens _ _ _ _ o).sound).1)

pub returns-then-number-head : goal.returns-then-number-head
returns-then-number-head c =
    let s = c.args in
    let o = sym c.in-Ok.is ∙ c.«open».ensures in
    lies_fine _ _ _ _ _ _ _ _ _ _ o (rw (slot_there s.head.now s.table.now s.block.now s.store.now o s.number c.if-number-head.true) (rw c.field_at-f.ensures at c.put_place.ensures))

pub returns-else-number-head : goal.returns-else-number-head
returns-else-number-head c =
    let s = c.args in
    let o = sym c.in-Ok.is ∙ c.«open».ensures in
    lies_fine _ _ _ _ _ _ _ _ _ _ o (rw (slot_none s.head.now s.table.now s.block.now s.store.now o s.number c.if-number-head.false) (record { answer = refl; from = refl; to = refl }))

pub returns-in-Err : goal.returns-in-Err
returns-in-Err c = lies_refused _ _ _ _ _ _ _ _ _ (sym c.in-Err.is ∙ c.«open».ensures) c.refused.ensures
