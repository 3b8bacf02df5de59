-- `lent_edits::tables::first_at` meets its contract. Assumes nothing.
use mathlib.Core.List.{List}
use Rattle.leaves.specs.Name.{same_name}
use Rattle.leaves.specs.Sanitise.{sanitised}
use Rattle.lookups.specs.Lookups.{named}
use Rattle.edits.proofs.KeepLaws.{first_end}
use Rattle.lent.specs.Table.{table_of}
use Rattle.lent_edits.proofs.ThinLaws.{first_passed, first_found}
use native.Mathlib.Omega.{arith}
use mathlib.Core.Path.{◌≡◌, sym, ap, ◌∙◌}
use mathlib.Core.Bool.{true}
use Prim.Native.Nat.{ℕ, ◌<◌, ◌≤◌}
use lib.ListN.{length, take, length-take}
use Rattle.lent_edits.proofs.tables.first_at.Goals as goal

pub returns-then-matches_sanitised : goal.returns-then-matches_sanitised
unfolding named
returns-then-matches_sanitised c =
    let l = c.loop-i in
    let h : l.i < c.args.n = c.loop-i-test.true in
    let p = named c.args.block.now c.args.store.now (sanitised true c.args.key.now) in
    let e = sym (c.matches_sanitised.ensures ∙ ap (λ (x : List ℕ). same_name x (sanitised true c.args.key.now)) c.part-text.ensures.is) ∙ c.if-matches_sanitised.true in
    (sym (l.invariant ∙ first_found p c.args.t.now c.args.n l.i c.requires.0 h _ c.field_at-field.ensures e), omega (arith, h))

pub loop-i-preserved : goal.loop-i-preserved
unfolding named
loop-i-preserved c =
    let l = c.loop-i in
    let h : l.i < c.args.n = c.loop-i-test.true in
    let p = named c.args.block.now c.args.store.now (sanitised true c.args.key.now) in
    let e = sym (c.matches_sanitised.ensures ∙ ap (λ (x : List ℕ). same_name x (sanitised true c.args.key.now)) c.part-text.ensures.is) ∙ c.if-matches_sanitised.false in
    l.invariant ∙ first_passed p c.args.t.now c.args.n l.i c.requires.0 h _ c.field_at-field.ensures e

pub returns : goal.returns
returns c =
    let l = c.loop-i in
    let p = named c.args.block.now c.args.store.now (sanitised true c.args.key.now) in
    let z : l.i ≡ c.args.n = omega (arith, c.loop-i-test.false) in
    let h : length (take c.args.n (table_of c.args.t.now)) ≤ l.i = omega (arith, c.loop-i-test.false, length-take c.args.n (table_of c.args.t.now)) in
    (sym z ∙ sym (l.invariant ∙ first_end p (take c.args.n (table_of c.args.t.now)) l.i h), omega arith)
