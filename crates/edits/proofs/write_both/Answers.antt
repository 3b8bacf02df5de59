-- `edits::write_both` meets its contract. Assumes nothing.
use Rattle.leaves.specs.Sanitise.{sanitised}
use Rattle.leaves.proofs.PasteLaws.{pasted_more}
use native.Mathlib.Omega.{arith}
use mathlib.Core.Path.{◌∙◌}
use mathlib.Core.Bool.{true, false}
use Prim.Native.Nat.{◌+◌, ◌≤◌}
use lib.ListN.{length}
use Rattle.edits.proofs.write_both.Goals as goal

pub returns : goal.returns
returns c =
    let s = c.args in
    let a = c.sanitise_into-k.ensures in
    let b = c.sanitise_into-v.ensures in
    let k = sanitised true s.key.now in
    let v = sanitised false s.value.now in
    let h : s.mark + length k ≤ length s.store.now = omega arith in
    (omega (arith, a.0, b.0), rw (a.0, a.1) at b.1 ∙ pasted_more s.store.now k v s.mark h)
