-- `lookups::seek` meets its contract. Assumes nothing.
use mathlib.Core.List.{List}
use Rattle.leaves.specs.Name.{same_name}
use Rattle.lookups.specs.Lookups.{named, sighted_in}
use Rattle.lookups.proofs.SeekLaws.{seek_hit, seek_more, seek_end}
use mathlib.Core.Path.{sym, ap, ◌∙◌}
use Prim.Native.Nat.{ℕ}
use Rattle.lookups.proofs.seek.Goals as goal

pub returns-then-same_name : goal.returns-then-same_name
unfolding named
returns-then-same_name c =
    let s = c.args in
    let e = sym (c.same_name.ensures ∙ ap (λ (x : List ℕ). same_name x s.name.now) c.part-key.ensures.is) ∙ c.if-same_name.true in
    sym (ap (sighted_in s.fields.now) (c.loop-i.invariant ∙ seek_hit s.fields.now c.loop-i.i (named s.block.now s.store.now s.name.now) c.loop-i-test.true e))

pub loop-i-preserved : goal.loop-i-preserved
unfolding named
loop-i-preserved c =
    let s = c.args in
    let e = sym (c.same_name.ensures ∙ ap (λ (x : List ℕ). same_name x s.name.now) c.part-key.ensures.is) ∙ c.if-same_name.false in
    c.loop-i.invariant ∙ seek_more s.fields.now c.loop-i.i (named s.block.now s.store.now s.name.now) c.loop-i-test.true e

pub returns : goal.returns
returns c =
    let s = c.args in
    sym (ap (sighted_in s.fields.now) (c.loop-i.invariant ∙ seek_end s.fields.now c.loop-i.i (named s.block.now s.store.now s.name.now) c.loop-i-test.false))
