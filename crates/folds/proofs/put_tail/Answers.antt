-- `folds::put_tail` meets its contract. Assumes nothing.
use native.Mathlib.Omega.{arith}
use mathlib.Core.Path.{◌∙◌}
use Rattle.folds.proofs.GrowLaws.{tail_pasted}
use Rattle.folds.proofs.put_tail.Goals as goal

pub returns : goal.returns
returns c =
    c.copy_at.ensures ∙ tail_pasted c.args.store.now c.args.at c.args.text.now (omega arith)
