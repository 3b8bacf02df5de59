-- `abi::looking::bisquecrow_find` meets its contract. Assumes nothing.
use Rattle.abi.proofs.CallLaws.{opens, few, sought, seek_below, sees_fine, sees_refused, seen_of}
use Rattle.lookups.specs.Lookups.{named}
use Rattle.lent.proofs.LentLaws.{sound_parts, sound_long}
use mathlib.Core.Path.{sym, ◌∙◌}
use Rattle.abi.proofs.looking.bisquecrow_find.Goals as goal

pub head_at-h-requires : goal.head_at-h-requires
head_at-h-requires c = (sound_parts _ _ (opens _ _ _ _ (sym c.in-Ok.is ∙ c.«open».ensures)).sound).0

pub find-found-requires : goal.find-found-requires
find-found-requires c =
    let s = c.args in
    let o = sym c.in-Ok.is ∙ c.«open».ensures in
    (rw c.head_at-h.ensures (few s.head.now s.table.now s.block.now s.store.now o), (sound_long _ _ (opens _ _ _ _ o).sound).1)

pub put_found-requires : goal.put_found-requires
put_found-requires c =
    let s = c.args in
    let o = sym c.in-Ok.is ∙ c.«open».ensures in
    let e = rw c.head_at-h.ensures at c.find-found.ensures in
    ((sound_long _ _ (opens _ _ _ _ o).sound).1, rw e (seek_below (named s.block.now s.store.now s.name.now) s.table.now _ s.start (few s.head.now s.table.now s.block.now s.store.now o)))

pub returns-in-Ok : goal.returns-in-Ok
returns-in-Ok c =
    let s = c.args in
    let o = sym c.in-Ok.is ∙ c.«open».ensures in
    let e = rw c.head_at-h.ensures at c.find-found.ensures in
    sees_fine _ _ _ _ _ _ _ _ _ _ _ _ _ _ o (e ∙ sought s.head.now s.table.now s.block.now s.store.now o (named s.block.now s.store.now s.name.now) s.start) (seen_of s.table.now c.head_at-h.ensures s.number.now s.from.now s.to.now c.find-found.result c.put_found.ensures)

pub returns-in-Err : goal.returns-in-Err
returns-in-Err c = sees_refused _ _ _ _ _ _ _ _ _ _ _ (sym c.in-Err.is ∙ c.«open».ensures) c.refused.ensures
