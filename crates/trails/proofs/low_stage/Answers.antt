-- `trails::low_stage` meets its contract. Assumes nothing.
use borrow.Author.Tests.{ne_eqb}
use Rattle.leaves.proofs.ChoiceLaws.{if_false}
use Rattle.trails.specs.Trail.{low_stage}
use mathlib.Core.Path.{sym, ◌∙◌}
use Rattle.trails.proofs.low_stage.Goals as goal

pub returns-in_default : goal.returns-in_default
unfolding low_stage
returns-in_default c =
    let r = c.in_default.in_default-own.rest in
    sym (if_false _ _ (ne_eqb _ _ r.0.0.0.0.0.0.1) ∙ if_false _ _ (ne_eqb _ _ r.0.0.0.0.0.1) ∙ if_false _ _ (ne_eqb _ _ r.0.0.0.0.1) ∙ if_false _ _ (ne_eqb _ _ r.0.0.0.1) ∙ if_false _ _ (ne_eqb _ _ r.0.0.1) ∙ if_false _ _ (ne_eqb _ _ r.0.1) ∙ if_false _ _ (ne_eqb _ _ r.1))
