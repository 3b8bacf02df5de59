-- `folds::grow_here` meets its contract. Assumes nothing.
use native.Mathlib.Omega.{arith}
use mathlib.Core.List.{◌∷◌}
use Rattle.folds.proofs.GrowLaws.{grown_full, grown_fits}
use Rattle.folds.proofs.grow_here.Goals as goal

pub returns-then-room-mark : goal.returns-then-room-mark
returns-then-room-mark c = grown_full _ _ _ _ _ _ (32 ∷ c.args.text.now) _ (omega arith) c.requires.0.marked c.if-room-mark.true

pub returns : goal.returns
returns c =
    grown_fits _ _ _ _ _ _ (32 ∷ c.args.text.now) _ _ _ (omega arith) c.requires.0.marked (omega arith) c.put_field.ensures c.put_tail.ensures
