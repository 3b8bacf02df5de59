-- `trails::stage_of` meets its contract. Assumes nothing.
use borrow.Author.Tests.{lt-ltb, le-ltb}
use Rattle.leaves.proofs.ChoiceLaws.{if_true, if_false}
use Rattle.walker.specs.declared.Stage.TheVariants.{Stopped}
use Rattle.trails.specs.Trail.{stage_of}
use mathlib.Core.Path.{sym, ap, ◌∙◌}
use Rattle.trails.proofs.stage_of.Goals as goal

pub returns-then-n-lt8 : goal.returns-then-n-lt8
unfolding stage_of
returns-then-n-lt8 c = c.low_stage.ensures ∙ sym (if_true _ _ (lt-ltb _ _ c.if-n-lt8.true))

pub returns-else-n-lt8 : goal.returns-else-n-lt8
unfolding stage_of
returns-else-n-lt8 c = ap Stopped c.refusal_of.ensures ∙ sym (if_false _ _ (le-ltb _ _ c.if-n-lt8.false))
