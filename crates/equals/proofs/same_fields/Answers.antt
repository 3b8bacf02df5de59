-- `equals::same_fields` meets its contract. Assumes nothing.
use Rattle.equals.proofs.OctetLaws.{same_by}
use Rattle.equals.proofs.PairLaws.{pairs_more, keys_differ, values_differ, pairs_end}
use native.Mathlib.Omega.{arith}
use mathlib.Core.Path.{sym, ◌∙◌}
use Prim.Native.Nat.{◌≤◌}
use lib.ListN.{length}
use Rattle.equals.proofs.same_fields.Goals as goal

pub loop-i-preserved : goal.loop-i-preserved
loop-i-preserved c =
    let s = c.args in
    let v : s.n ≤ length s.t = omega arith in
    let w : s.n ≤ length s.u = omega arith in
    let k = sym (same_by _ _ _ _ _ c.part.ensures.is c.part-in-loop-i.ensures.is c.same_octets.ensures) ∙ c.if-not-same_octets.false in
    let l = sym (same_by _ _ _ _ _ c.part-in-loop-i-2.ensures.is c.part-in-loop-i-3.ensures.is c.same_octets-in-loop-i.ensures) ∙ c.if-not-same_octets-2.false in
    c.loop-i.invariant ∙ pairs_more s.b.now s.s.now s.c.now s.z.now s.t s.u s.n c.loop-i.i v w c.loop-i-test.true k l

pub returns-then-not-same_octets-2 : goal.returns-then-not-same_octets-2
returns-then-not-same_octets-2 c =
    let s = c.args in
    let v : s.n ≤ length s.t = omega arith in
    let w : s.n ≤ length s.u = omega arith in
    let k = sym (same_by _ _ _ _ _ c.part.ensures.is c.part-in-loop-i.ensures.is c.same_octets.ensures) ∙ c.if-not-same_octets.false in
    let l = sym (same_by _ _ _ _ _ c.part-in-loop-i-2.ensures.is c.part-in-loop-i-3.ensures.is c.same_octets-in-loop-i.ensures) ∙ c.if-not-same_octets-2.true in
    sym (c.loop-i.invariant ∙ values_differ s.b.now s.s.now s.c.now s.z.now s.t s.u s.n c.loop-i.i v w c.loop-i-test.true k l)

pub returns-then-not-same_octets : goal.returns-then-not-same_octets
returns-then-not-same_octets c =
    let s = c.args in
    let v : s.n ≤ length s.t = omega arith in
    let w : s.n ≤ length s.u = omega arith in
    let k = sym (same_by _ _ _ _ _ c.part.ensures.is c.part-in-loop-i.ensures.is c.same_octets.ensures) ∙ c.if-not-same_octets.true in
    sym (c.loop-i.invariant ∙ keys_differ s.b.now s.s.now s.c.now s.z.now s.t s.u s.n c.loop-i.i v w c.loop-i-test.true k)

pub returns : goal.returns
returns c =
    let s = c.args in
    let v : s.n ≤ length s.t = omega arith in
    let w : s.n ≤ length s.u = omega arith in
    sym (c.loop-i.invariant ∙ pairs_end s.b.now s.s.now s.c.now s.z.now s.t s.u s.n c.loop-i.i v w c.loop-i-test.false)
