-- `folds::rule_four` meets its contract. Assumes nothing.
use mathlib.Core.Path.{◌≡◌, sym, ◌∙◌}
use lib.ListN.{length, take}
use Rattle.folds.proofs.GrowLaws.{rule4_head, rule4_fold, rule4_split, plain_change}
use lib.Seq.{length-take-le}
use Rattle.leaves.proofs.PasteLaws.{tail_all}
use Rattle.folds.proofs.rule_four.Goals as goal

pub returns-then-awaits : goal.returns-then-awaits
returns-then-awaits c =
    let a = c.args in
    let w = take a.count a.block.now in
    let z : length w ≡ a.count = length-take-le a.count a.block.now c.requires.inside in
    let q = tail_all w a.start in
    plain_change _ _ _ _ (rule4_head a.room w a.start a.awaits a.fields a.last a.mark (take a.mark a.store.now) c.if-awaits.true ∙ rw (c.trimmed_place.ensures, q))

pub returns-then-is_fold : goal.returns-then-is_fold
returns-then-is_fold c =
    let a = c.args in
    let w = take a.count a.block.now in
    let z : length w ≡ a.count = length-take-le a.count a.block.now c.requires.inside in
    let q = tail_all w a.start in
    rw (rule4_fold a.room w a.start a.awaits a.fields a.last a.mark (take a.mark a.store.now) c.if-awaits.false (sym (rw q at c.is_fold.ensures) ∙ c.if-is_fold.true))
    (rw (c.trim-text.ensures.is, q) at c.fold_line.ensures)

pub returns : goal.returns
returns c =
    let a = c.args in
    let w = take a.count a.block.now in
    let z : length w ≡ a.count = length-take-le a.count a.block.now c.requires.inside in
    let q = tail_all w a.start in
    plain_change _ _ _ _ (rule4_split a.room w a.start a.awaits a.fields a.last a.mark (take a.mark a.store.now) c.if-awaits.false (sym (rw q at c.is_fold.ensures) ∙ c.if-is_fold.false) ∙ rw q at c.name_line.ensures)
