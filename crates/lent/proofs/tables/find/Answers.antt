-- `lent::tables::find` meets its contract. Assumes nothing.
use mathlib.Core.List.{List}
use Rattle.leaves.specs.Name.{same_name}
use Rattle.maps.specs.Places.{at}
use Rattle.maps.specs.declared.Place.{Place}
use Rattle.lookups.specs.Lookups.{named}
use Rattle.lent.proofs.LentLaws.{seek_hit, seek_more, seek_end}
use mathlib.Core.Path.{sym, ap, ◌∙◌}
use Prim.Native.Nat.{ℕ}
use Rattle.lent.proofs.tables.find.Goals as goal

pub returns-then-same_name : goal.returns-then-same_name
unfolding named
returns-then-same_name c =
    let s = c.args in
    let e = sym (c.same_name.ensures ∙ ap (λ (x : List ℕ). same_name x s.name.now) (c.part-key.ensures.is ∙ ap (λ (p : Place). at s.block.now s.store.now p) c.place_at.ensures)) ∙ c.if-same_name.true in
    sym (c.loop-i.invariant ∙ seek_hit s.t.now s.n c.loop-i.i (named s.block.now s.store.now s.name.now) c.loop-i-test.true e)

pub loop-i-preserved : goal.loop-i-preserved
unfolding named
loop-i-preserved c =
    let s = c.args in
    let e = sym (c.same_name.ensures ∙ ap (λ (x : List ℕ). same_name x s.name.now) (c.part-key.ensures.is ∙ ap (λ (p : Place). at s.block.now s.store.now p) c.place_at.ensures)) ∙ c.if-same_name.false in
    c.loop-i.invariant ∙ seek_more s.t.now s.n c.loop-i.i (named s.block.now s.store.now s.name.now) c.loop-i-test.true e

pub returns : goal.returns
returns c =
    let s = c.args in
    sym (c.loop-i.invariant ∙ seek_end s.t.now s.n c.loop-i.i (named s.block.now s.store.now s.name.now) c.loop-i-test.false)
