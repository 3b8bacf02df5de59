-- `tidy::are_clean` meets its contract. Assumes nothing.
use Rattle.tidy.proofs.CleanLaws.{pair_test, clean_more, clean_stop, clean_end}
use native.Mathlib.Omega.{arith}
use mathlib.Core.Path.{sym, ◌∙◌}
use Prim.Native.Nat.{◌≤◌}
use lib.ListN.{length}
use Rattle.tidy.proofs.are_clean.Goals as goal

pub loop-i-preserved : goal.loop-i-preserved
loop-i-preserved c =
    let a = c.args in
    let w : a.n ≤ length a.t = omega arith in
    let p = sym (pair_test a.block.now a.store.now a.t a.n c.loop-i.i _ _ _ c.part-key.ensures.is c.part-value.ensures.is c.is_clean_pair.ensures) ∙ c.if-not-is_clean_pair.false in
    c.loop-i.invariant ∙ clean_more a.block.now a.store.now a.t a.n c.loop-i.i w c.loop-i-test.true p

pub returns-then-not-is_clean_pair : goal.returns-then-not-is_clean_pair
returns-then-not-is_clean_pair c =
    let a = c.args in
    let w : a.n ≤ length a.t = omega arith in
    let p = sym (pair_test a.block.now a.store.now a.t a.n c.loop-i.i _ _ _ c.part-key.ensures.is c.part-value.ensures.is c.is_clean_pair.ensures) ∙ c.if-not-is_clean_pair.true in
    sym (c.loop-i.invariant ∙ clean_stop a.block.now a.store.now a.t a.n c.loop-i.i w c.loop-i-test.true p)

pub returns : goal.returns
returns c = let a = c.args in sym (c.loop-i.invariant ∙ clean_end a.block.now a.store.now a.t a.n c.loop-i.i c.loop-i-test.false)
