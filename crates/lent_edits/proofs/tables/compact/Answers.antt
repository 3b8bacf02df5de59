-- `lent_edits::tables::compact` meets its contract. Assumes nothing.
use mathlib.Core.List.{List}
use Rattle.leaves.specs.Name.{same_name}
use Rattle.leaves.specs.Sanitise.{sanitised}
use Rattle.lookups.specs.Lookups.{named}
use Rattle.lent_edits.proofs.ThinLaws.{thin_drop, thin_fit, thin_move, thin_end}
use native.Mathlib.Omega.{arith}
use mathlib.Core.Path.{sym, ap, ◌∙◌}
use mathlib.Core.Bool.{true}
use Prim.Native.Nat.{ℕ, ◌<◌}
use Rattle.lent_edits.proofs.tables.compact.Goals as goal

pub loop-i-preserved-then-matches_sanitised : goal.loop-i-preserved-then-matches_sanitised
unfolding named
loop-i-preserved-then-matches_sanitised c =
    let l = c.loop-i in
    let h : l.i < c.args.n = c.loop-i-test.true in
    let p = named c.args.block.now c.args.store.now (sanitised true c.args.key.now) in
    let e = sym (c.matches_sanitised.ensures ∙ ap (λ (x : List ℕ). same_name x (sanitised true c.args.key.now)) c.part-text.ensures.is) ∙ c.if-matches_sanitised.true in
    thin_drop p c.args.t.now c.args.start c.args.n c.requires.1 l.t l.k l.i l.invariant h _ c.field_at-field.ensures e

pub put_field-requires : goal.put_field-requires
put_field-requires c =
    let l = c.loop-i in
    let h : l.i < c.args.n = c.loop-i-test.true in
    let p = named c.args.block.now c.args.store.now (sanitised true c.args.key.now) in
    (omega (arith, l.invariant.keeping.order, h, c.requires.1), l.invariant.long, thin_fit p c.args.t.now c.args.start c.args.n c.requires.1 l.t l.k l.i l.invariant h _ c.field_at-field.ensures c.requires.3)

pub loop-i-preserved : goal.loop-i-preserved
unfolding named
loop-i-preserved c =
    let l = c.loop-i in
    let h : l.i < c.args.n = c.loop-i-test.true in
    let p = named c.args.block.now c.args.store.now (sanitised true c.args.key.now) in
    let e = sym (c.matches_sanitised.ensures ∙ ap (λ (x : List ℕ). same_name x (sanitised true c.args.key.now)) c.part-text.ensures.is) ∙ c.if-matches_sanitised.false in
    thin_move p c.args.t.now c.args.start c.args.n c.requires.1 l.t l.k l.i l.invariant h _ c.field_at-field.ensures c.requires.3 e _ c.put_field.ensures

pub returns : goal.returns
returns c =
    let l = c.loop-i in
    let p = named c.args.block.now c.args.store.now (sanitised true c.args.key.now) in
    thin_end p c.args.t.now c.args.start c.args.n c.requires.1 l.t l.k l.i l.invariant c.loop-i-test.false
