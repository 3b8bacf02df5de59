-- `tidy::scan::scan_pairs` meets its contract. Assumes nothing.
use Rattle.tidy.proofs.PassLaws.{pair_within}
use Rattle.tidy.proofs.ScanLaws.{scan_ends, scan_none, scan_more, scan_stop}
use Rattle.rebuilds.specs.Scan.{scan_pairs}
use native.Mathlib.Omega.{arith}
use mathlib.Core.Path.{◌≡◌, sym, ap, ◌∙◌}
use Prim.Native.Nat.{ℕ, ◌-◌, ◌+◌, ◌<◌, ◌≤◌}
use lib.ListN.{drop}
use Rattle.tidy.proofs.scan.scan_pairs.Goals as goal

pub returns-then-ends_at : goal.returns-then-ends_at
returns-then-ends_at c =
    let l = c.loop-passed in
    sym (l.invariant.1 ∙ scan_ends _ (drop l.at c.args.octets.now) (sym c.ends_at.ensures ∙ c.if-ends_at.true))

pub loop-passed-preserved : goal.loop-passed-preserved
loop-passed-preserved c =
    let s = c.args.octets.now in
    let l = c.loop-passed in
    let e = sym c.in-Some.is ∙ c.past_pair.ensures in
    let left : 0 < 256 - l.passed = omega (arith, c.loop-passed-test.true) in
    let z : 256 - l.passed - 1 ≡ 256 - (l.passed + 1) = omega arith in (
      pair_within s l.at l.invariant.0 _ e,
      l.invariant.1 ∙ scan_more s l.at (sym c.ends_at.ensures ∙ c.if-ends_at.false) (256 - l.passed) _ left e ∙ ap (λ (n : ℕ). scan_pairs n (drop c.in-Some.next s)) z,
    )

pub returns-in-None : goal.returns-in-None
returns-in-None c =
    let s = c.args.octets.now in
    let l = c.loop-passed in
    let e = sym c.in-None.is ∙ c.past_pair.ensures in
    let left : 0 < 256 - l.passed = omega (arith, c.loop-passed-test.true) in
    sym (l.invariant.1 ∙ scan_stop s l.at (sym c.ends_at.ensures ∙ c.if-ends_at.false) (256 - l.passed) left e)

pub returns : goal.returns
returns c =
    let l = c.loop-passed in
    let none : 256 - l.passed ≤ 0 = omega (arith, c.loop-passed-test.false) in
    c.ends_at-2.ensures ∙ sym (l.invariant.1 ∙ scan_none (256 - l.passed) (drop l.at c.args.octets.now) none)
