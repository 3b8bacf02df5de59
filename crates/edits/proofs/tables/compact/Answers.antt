-- `edits::tables::compact` meets its contract. Assumes nothing.
use mathlib.Core.List.{List}
use Rattle.leaves.specs.Name.{same_name}
use Rattle.leaves.specs.Sanitise.{sanitised}
use Rattle.lookups.specs.Lookups.{named}
use Rattle.edits.proofs.KeepLaws.{keep_drop, keep_move, keep_end}
use native.Mathlib.Omega.{arith}
use mathlib.Core.Path.{sym, ap, ◌∙◌}
use mathlib.Core.Bool.{true}
use Prim.Native.Nat.{ℕ, ◌≤◌, ◌<◌}
use lib.ListN.{length}
use Rattle.edits.proofs.tables.compact.Goals as goal

pub loop-i-preserved-then-matches_sanitised : goal.loop-i-preserved-then-matches_sanitised
unfolding named
loop-i-preserved-then-matches_sanitised c =
    let s = c.args in
    let w : s.n ≤ length s.t = omega arith in
    let h : c.loop-i.i < s.n = omega arith in
    let p = named s.block.now s.store.now (sanitised true s.key.now) in
    let e = sym (c.matches_sanitised.ensures ∙ ap (λ (x : List ℕ). same_name x (sanitised true s.key.now)) c.part-text.ensures.is) ∙ c.if-matches_sanitised.true in
    keep_drop p _ _ _ w _ _ _ c.loop-i.invariant h e

pub loop-i-preserved : goal.loop-i-preserved
unfolding named
loop-i-preserved c =
    let s = c.args in
    let w : s.n ≤ length s.t = omega arith in
    let h : c.loop-i.i < s.n = omega arith in
    let p = named s.block.now s.store.now (sanitised true s.key.now) in
    let e = sym (c.matches_sanitised.ensures ∙ ap (λ (x : List ℕ). same_name x (sanitised true s.key.now)) c.part-text.ensures.is) ∙ c.if-matches_sanitised.false in
    keep_move p _ _ _ w _ _ _ c.loop-i.invariant h e

pub returns : goal.returns
returns c =
    let s = c.args in
    let w : s.n ≤ length s.t = omega arith in
    let p = named s.block.now s.store.now (sanitised true s.key.now) in
    keep_end p _ _ _ w _ _ _ c.loop-i.invariant c.loop-i-test.false
