-- `edits::tables::first_at` meets its contract. Assumes nothing.
use mathlib.Core.List.{List}
use Rattle.leaves.specs.Name.{same_name}
use Rattle.leaves.specs.Sanitise.{sanitised}
use Rattle.lookups.specs.Lookups.{named}
use Rattle.edits.proofs.KeepLaws.{first_more, first_hit, first_end}
use native.Mathlib.Omega.{arith}
use mathlib.Core.Path.{◌≡◌, sym, ap, ◌∙◌}
use mathlib.Core.Bool.{true}
use Prim.Native.Nat.{ℕ}
use lib.ListN.{length}
use Rattle.edits.proofs.tables.first_at.Goals as goal

pub returns-then-matches_sanitised : goal.returns-then-matches_sanitised
unfolding named
returns-then-matches_sanitised c =
    let s = c.args in
    let p = named s.block.now s.store.now (sanitised true s.key.now) in
    let e = sym (c.matches_sanitised.ensures ∙ ap (λ (x : List ℕ). same_name x (sanitised true s.key.now)) c.part-text.ensures.is) ∙ c.if-matches_sanitised.true in
    (sym (c.loop-i.invariant ∙ first_hit p s.fields.now c.loop-i.i c.loop-i-test.true e), omega arith)

pub loop-i-preserved : goal.loop-i-preserved
unfolding named
loop-i-preserved c =
    let s = c.args in
    let p = named s.block.now s.store.now (sanitised true s.key.now) in
    let e = sym (c.matches_sanitised.ensures ∙ ap (λ (x : List ℕ). same_name x (sanitised true s.key.now)) c.part-text.ensures.is) ∙ c.if-matches_sanitised.false in
    c.loop-i.invariant ∙ first_more p s.fields.now c.loop-i.i c.loop-i-test.true e

pub returns : goal.returns
returns c =
    let s = c.args in
    let p = named s.block.now s.store.now (sanitised true s.key.now) in
    let z : c.loop-i.i ≡ length s.fields.now = omega arith in
    (sym z ∙ sym (c.loop-i.invariant ∙ first_end p s.fields.now c.loop-i.i c.loop-i-test.false), omega arith)
