-- `writes::write` meets its contract. Assumes nothing.
use Rattle.std.proofs.lemmas.Result.{err_from_is_err_and}
use Rattle.maps.proofs.GoodLaws.{ready_of}
use Rattle.writes.proofs.WriteLaws.{write_refused, write_rebuilt, write_plain}
use native.Mathlib.Omega.{arith}
use mathlib.Core.Path.{◌≡◌, sym, ◌∙◌}
use Prim.Native.Nat.{◌-◌}
use Rattle.writes.proofs.write.Goals as goal

pub slice_bounds-give-end : goal.slice_bounds-give-end
slice_bounds-give-end c =
    let s = c.args in
    let e = sym c.in_ok-check_done.was ∙ c.check_done.ensures in
    let w = ready_of _ s.m s.block.now s.store.now e in
    omega (arith, w.count, w.block)

pub returns-then-is_untouched : goal.returns-then-is_untouched
returns-then-is_untouched c =
    let s = c.args in
    let e = sym c.in_ok-check_done.was ∙ c.check_done.ensures in
    let u = sym c.is_untouched.ensures ∙ c.if-is_untouched.true in
    let z : s.m.count - 0 ≡ s.m.count = omega arith in
    write_plain s.m s.block.now s.store.now s.out.now e u (rw z at c.give.ensures)

pub returns : goal.returns
returns c = write_rebuilt _ _ _ _ (sym c.is_untouched.ensures ∙ c.if-is_untouched.false) c.rebuild.ensures

pub returns-in_err-check_done : goal.returns-in_err-check_done
returns-in_err-check_done c =
    let p = err_from_is_err_and c.from_residual.result c.from_residual.ensures.1 in
    rw (p.1, p.2) (write_refused _ _ _ _ _ (sym c.in_err-check_done.was ∙ c.check_done.ensures))
