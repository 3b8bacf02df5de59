-- `folds::ends_block` meets its contract. Assumes nothing.
use mathlib.Core.Path.{sym, ap, ◌∙◌}
use mathlib.Core.List.{[], ◌∷◌}
use lib.Dec.{eqb}
use lib.Pointwise.{pointwise}
use Rattle.leaves.specs.declared.trims.Span.{Span}
use Rattle.leaves.proofs.ChoiceLaws.{if_true, if_false}
use Rattle.folds.specs.Rule.{ends_block}
use Rattle.folds.proofs.LineTexts.{all_blank, pointwise_same}
use Rattle.folds.proofs.ends_block.Goals as goal

pub returns-then-quirks : goal.returns-then-quirks
unfolding ends_block
returns-then-quirks c = ap (λ (s : Span). eqb s.«end» 0) c.trim_bounds.ensures.is ∙ sym (if_true _ _ c.if-quirks.true ∙ all_blank _)

pub returns-else-quirks : goal.returns-else-quirks
unfolding ends_block
returns-else-quirks c =
    let l = c.args.line.now in
    c.eq.ensures ∙ ap (pointwise eqb l) c.as_slice.ensures ∙ pointwise_same l (13 ∷ 10 ∷ []) ∙ sym (if_false _ _ c.if-quirks.false)
