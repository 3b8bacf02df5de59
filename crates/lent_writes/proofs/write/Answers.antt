-- `lent_writes::write` meets its contract. Assumes nothing.
use Rattle.std.proofs.lemmas.Result.{err_from_is_err_and}
use Rattle.maps.proofs.GoodLaws.{ready_of}
use Rattle.writes.proofs.WriteLaws.{rebuild_fine, write_refused, write_rebuilt, write_plain}
use Rattle.lent.specs.Table.{map_in}
use native.Mathlib.Omega.{arith}
use mathlib.Core.Path.{◌≡◌, sym, ◌∙◌}
use Prim.Native.Nat.{◌-◌}
use Rattle.lent_writes.proofs.write.Goals as goal

pub slice_bounds-give-end : goal.slice_bounds-give-end
slice_bounds-give-end c =
    let s = c.args in
    let e = sym c.in_ok-check_done.was ∙ c.check_done.ensures in
    let w = ready_of _ (map_in s.t.now s.h) s.block.now s.store.now e in
    omega (arith, w.count, w.block)

pub returns-then-is_untouched : goal.returns-then-is_untouched
returns-then-is_untouched c =
    let s = c.args in
    let e = sym c.in_ok-check_done.was ∙ c.check_done.ensures in
    let u = sym c.is_untouched.ensures ∙ c.if-is_untouched.true in
    let z : s.h.count - 0 ≡ s.h.count = omega arith in
    write_plain (map_in s.t.now s.h) s.block.now s.store.now s.out.now e u (rw z at c.give.ensures)

pub give_map-requires : goal.give_map-requires
give_map-requires c =
    let e = sym c.in_ok-check_done.was ∙ c.check_done.ensures in
    ((ready_of _ (map_in c.args.t.now c.args.h) c.args.block.now c.args.store.now e).few, c.requires)

pub returns-else-is_untouched : goal.returns-else-is_untouched
returns-else-is_untouched c =
    let s = c.args in
    let e = sym c.in_ok-check_done.was ∙ c.check_done.ensures in
    let u = sym c.is_untouched.ensures ∙ c.if-is_untouched.false in
    write_rebuilt (map_in s.t.now s.h) s.block.now s.store.now s.out.now u (rebuild_fine (map_in s.t.now s.h) s.block.now s.store.now s.out.now e c.give_map.ensures)

pub returns-in_err-check_done : goal.returns-in_err-check_done
returns-in_err-check_done c =
    let s = c.args in
    let p = err_from_is_err_and c.from_residual.result c.from_residual.ensures.1 in
    rw (p.1, p.2) (write_refused (map_in s.t.now s.h) s.block.now s.store.now s.out.now _ (sym c.in_err-check_done.was ∙ c.check_done.ensures))
