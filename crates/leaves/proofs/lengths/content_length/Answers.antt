use native.Mathlib.Omega.{arith}
use mathlib.Core.Path.{◌≡◌, sym, ap, ◌∙◌}
use mathlib.Core.Bool.{true}
use Prim.Native.Nat.{ℕ, ◌+◌}
use lib.ListN.{get_or, drop}
use Rattle.leaves.proofs.NumberLaws.{digit_range, length_from, length_start, length_more, length_stop, length_end}
use Rattle.leaves.specs.Class.{digit}
use Rattle.leaves.proofs.lengths.content_length.Goals as goal

pub loop-x-init : goal.loop-x-init
loop-x-init c = (omega arith, length_start _)

pub with_digit-n-requires : goal.with_digit-n-requires
with_digit-n-requires c = digit_range _ (sym c.is_digit.ensures ∙ c.if-not-is_digit.false)

pub loop-x-preserved : goal.loop-x-preserved
loop-x-preserved c =
    let s = c.args.value.now in
    let e : digit (get_or s c.loop-x.x-index 0) ≡ true = sym c.is_digit.ensures ∙ c.if-not-is_digit.false in (
      omega arith,
      c.loop-x.invariant.1 ∙ length_more s c.loop-x.x-index c.loop-x.n c.loop-x-test.true e
          ∙ ap (λ (k : ℕ). length_from k (drop (c.loop-x.x-index + 1) s)) (sym c.with_digit-n.ensures),
    )

pub returns-then-not-is_digit : goal.returns-then-not-is_digit
returns-then-not-is_digit c =
    sym (c.loop-x.invariant.1 ∙ length_stop c.args.value.now c.loop-x.x-index c.loop-x.n c.loop-x-test.true (sym c.is_digit.ensures ∙ c.if-not-is_digit.true))

pub returns : goal.returns
returns c = sym (c.loop-x.invariant.1 ∙ length_end c.args.value.now c.loop-x.x-index c.loop-x.n c.loop-x-test.false c.loop-x.invariant.0)
