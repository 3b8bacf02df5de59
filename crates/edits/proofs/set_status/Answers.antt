-- `edits::set_status` meets its contract. Assumes nothing.
use Rattle.leaves.specs.Sanitise.{sanitised}
use Rattle.maps.proofs.GoodLaws.{ready_of}
use Rattle.edits.specs.Edits.{statusing}
use Rattle.edits.proofs.EditLaws.{edit_refused, status_room, status_done}
use native.Mathlib.Omega.{arith}
use mathlib.Core.Path.{◌≡◌, sym, ◌∙◌}
use mathlib.Core.Bool.{true}
use Prim.Native.Nat.{◌+◌, ◌≤◌, ◌<◌}
use lib.ListN.{length}
use Rattle.edits.proofs.set_status.Goals as goal

pub overflow_sub-m : goal.overflow_sub-m
overflow_sub-m c =
    let a = c.args in
    let e = sym c.in-Ok.is ∙ c.check_done.ensures in
    let w = ready_of _ a.m a.block.now a.store.now e in
    w.mark

pub sanitise_into-requires : goal.sanitise_into-requires
sanitise_into-requires c =
    let a = c.args in
    let e = sym c.in-Ok.is ∙ c.check_done.ensures in
    let w = ready_of _ a.m a.block.now a.store.now e in
    let k : c.sanitised_length-k.result ≡ length (sanitised true a.text.now) = c.sanitised_length-k.ensures in
    omega (arith, w.mark, w.store, c.if-k-m.false)

pub in_store-requires : goal.in_store-requires
in_store-requires c =
    let a = c.args in
    let e = sym c.in-Ok.is ∙ c.check_done.ensures in
    let w = ready_of _ a.m a.block.now a.store.now e in
    let k : c.sanitised_length-k.result ≡ length (sanitised true a.text.now) = c.sanitised_length-k.ensures in
    (omega (arith, w.mark, w.most), omega (arith, w.mark, w.most, c.if-k-m.false, c.sanitise_into.ensures.0))

pub returns-else-k-m : goal.returns-else-k-m
returns-else-k-m c =
    let a = c.args in
    let e = sym c.in-Ok.is ∙ c.check_done.ensures in
    let w = ready_of _ a.m a.block.now a.store.now e in
    let k : c.sanitised_length-k.result ≡ length (sanitised true a.text.now) = c.sanitised_length-k.ensures in
    let g : a.m.mark + length (sanitised true a.text.now) ≤ a.m.room = omega (arith, w.mark, c.if-k-m.false) in
    let n : c.sanitise_into.result ≡ length (sanitised true a.text.now) = c.sanitise_into.ensures.0 in
    status_done a.m a.block.now a.store.now a.text.now e w.few g _ (rw n) _ c.in_store.ensures _ c.sanitise_into.ensures.1

pub returns-then-k-m : goal.returns-then-k-m
returns-then-k-m c =
    let a = c.args in
    let e = sym c.in-Ok.is ∙ c.check_done.ensures in
    let w = ready_of _ a.m a.block.now a.store.now e in
    let k : c.sanitised_length-k.result ≡ length (sanitised true a.text.now) = c.sanitised_length-k.ensures in
    let g : a.m.room < a.m.mark + length (sanitised true a.text.now) = omega (arith, w.mark, c.if-k-m.true) in
    rw c.refused.ensures (status_room a.m a.block.now a.store.now a.text.now e w.few g)

pub returns-in-Err : goal.returns-in-Err
unfolding statusing
returns-in-Err c = rw c.refused-in-Err.ensures (edit_refused _ _ _ _ _ (sym c.in-Err.is ∙ c.check_done.ensures))
