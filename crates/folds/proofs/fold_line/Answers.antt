-- `folds::fold_line` meets its contract. Assumes nothing.
use mathlib.Core.Path.{sym, ◌∙◌}
use lib.ListN.{take}
use Rattle.folds.proofs.GrowLaws.{folded_first, folded_block, folded_here, folded_again}
use Rattle.folds.proofs.fold_line.Goals as goal

pub returns-then-fields-eq0 : goal.returns-then-fields-eq0
returns-then-fields-eq0 c =
    let a = c.args in
    rw (folded_first a.room a.block.now a.fields a.last a.mark (take a.mark a.store.now) a.text.now c.if-fields-eq0.true) (rw c.in_store-none.ensures at c.grow_new.ensures)

pub returns-in-Block : goal.returns-in-Block
returns-in-Block c =
    let a = c.args in
    rw (folded_block a.room a.block.now a.fields a.last a.mark (take a.mark a.store.now) a.text.now c.if-fields-eq0.false _ _ c.in-Block.is)
    (rw (c.wide-end.ensures, c.wide-from.ensures) at c.grow_copy.ensures)

pub returns-then-end-mark : goal.returns-then-end-mark
returns-then-end-mark c =
    let a = c.args in
    rw (folded_here a.room a.block.now a.fields a.last a.mark (take a.mark a.store.now) a.text.now c.if-fields-eq0.false _ _ c.in-Store.is (sym c.wide-end-in-Store.ensures ∙ c.if-end-mark.true))
    (rw c.wide-from-in-Store.ensures at c.grow_here.ensures)

pub returns-else-end-mark : goal.returns-else-end-mark
returns-else-end-mark c =
    let a = c.args in
    rw (folded_again a.room a.block.now a.fields a.last a.mark (take a.mark a.store.now) a.text.now c.if-fields-eq0.false _ _ c.in-Store.is (λ e. c.if-end-mark.false (c.wide-end-in-Store.ensures ∙ e)))
    (rw (c.wide-end-in-Store.ensures, c.wide-from-in-Store.ensures) at c.grow_again.ensures)
