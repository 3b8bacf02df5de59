-- `lent_edits::set_status` meets its contract. Assumes nothing.
use Rattle.leaves.specs.Sanitise.{sanitised}
use Rattle.maps.proofs.GoodLaws.{ready_of}
use Rattle.edits.specs.Edits.{statusing}
use Rattle.edits.proofs.EditLaws.{edit_refused, status_room, status_done}
use Rattle.lent.specs.Table.{map_in}
use native.Mathlib.Omega.{arith}
use mathlib.Core.Path.{◌≡◌, sym, ◌∙◌}
use mathlib.Core.Bool.{true}
use Prim.Native.Nat.{◌+◌, ◌≤◌, ◌<◌}
use lib.ListN.{length}
use Rattle.lent_edits.proofs.set_status.Goals as goal

pub overflow_sub-h : goal.overflow_sub-h
overflow_sub-h c =
    let a = c.args in
    let e = sym c.in-Ok.is ∙ c.check_done.ensures in
    let w = ready_of _ (map_in a.t.now a.h) a.block.now a.store.now e in
    w.mark

pub sanitise_into-requires : goal.sanitise_into-requires
sanitise_into-requires c =
    let a = c.args in
    let e = sym c.in-Ok.is ∙ c.check_done.ensures in
    let w = ready_of _ (map_in a.t.now a.h) a.block.now a.store.now e in
    let k : c.sanitised_length-k.result ≡ length (sanitised true a.text.now) = c.sanitised_length-k.ensures in
    omega (arith, w.mark, w.store, k, c.if-k-h.false)

pub in_store-requires : goal.in_store-requires
in_store-requires c =
    let a = c.args in
    let e = sym c.in-Ok.is ∙ c.check_done.ensures in
    let w = ready_of _ (map_in a.t.now a.h) a.block.now a.store.now e in
    let k : c.sanitised_length-k.result ≡ length (sanitised true a.text.now) = c.sanitised_length-k.ensures in
    (omega (arith, w.mark, w.most), omega (arith, w.mark, w.most, k, c.if-k-h.false, c.sanitise_into.ensures.0))

pub returns-else-k-h : goal.returns-else-k-h
returns-else-k-h c =
    let a = c.args in
    let e = sym c.in-Ok.is ∙ c.check_done.ensures in
    let w = ready_of _ (map_in a.t.now a.h) a.block.now a.store.now e in
    let k : c.sanitised_length-k.result ≡ length (sanitised true a.text.now) = c.sanitised_length-k.ensures in
    let g : a.h.mark + length (sanitised true a.text.now) ≤ a.h.room = omega (arith, w.mark, k, c.if-k-h.false) in
    let n : c.sanitise_into.result ≡ length (sanitised true a.text.now) = c.sanitise_into.ensures.0 in
    status_done (map_in a.t.now a.h) a.block.now a.store.now a.text.now e w.few g _ (rw n) _ c.in_store.ensures _ c.sanitise_into.ensures.1

pub returns-then-k-h : goal.returns-then-k-h
returns-then-k-h c =
    let a = c.args in
    let e = sym c.in-Ok.is ∙ c.check_done.ensures in
    let w = ready_of _ (map_in a.t.now a.h) a.block.now a.store.now e in
    let k : c.sanitised_length-k.result ≡ length (sanitised true a.text.now) = c.sanitised_length-k.ensures in
    let g : a.h.room < a.h.mark + length (sanitised true a.text.now) = omega (arith, w.mark, k, c.if-k-h.true) in
    rw c.refused.ensures (status_room (map_in a.t.now a.h) a.block.now a.store.now a.text.now e w.few g)

pub returns-in-Err : goal.returns-in-Err
unfolding statusing
returns-in-Err c = rw c.refused-in-Err.ensures (edit_refused _ _ _ _ _ (sym c.in-Err.is ∙ c.check_done.ensures))
