-- `folds::grow_new` meets its contract. Assumes nothing.
use native.Mathlib.Omega.{arith}
use mathlib.Core.Path.{refl}
use Rattle.folds.proofs.GrowLaws.{grown_full, grown_fits}
use Rattle.folds.proofs.grow_new.Goals as goal

pub returns-then-room-mark : goal.returns-then-room-mark
returns-then-room-mark c = grown_full _ _ _ _ _ _ c.args.text.now _ refl c.requires.marked c.if-room-mark.true

pub returns : goal.returns
returns c =
    grown_fits _ _ _ _ _ _ c.args.text.now _ _ _ refl c.requires.marked (omega arith) c.put_field.ensures c.copy_at.ensures
