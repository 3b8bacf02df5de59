-- `folds::grow_copy` meets its contract. Assumes nothing.
use native.Mathlib.Omega.{arith}
use mathlib.Core.Path.{refl}
use mathlib.Core.List.{◌∷◌, ◌++◌}
use Rattle.folds.proofs.GrowLaws.{grown_full, grown_fits, grow_twice, length_joined}
use Rattle.folds.proofs.grow_copy.Goals as goal

pub returns-then-room-mark : goal.returns-then-room-mark
returns-then-room-mark c = grown_full _ _ _ _ _ _ (c.args.old.now ++ (32 ∷ c.args.text.now)) _ (length_joined c.args.old.now c.args.text.now _ refl) c.requires.0.marked c.if-room-mark.true

pub returns : goal.returns
returns c =
    grown_fits _ _ _ _ _ _ (c.args.old.now ++ (32 ∷ c.args.text.now)) _ _ _ (length_joined c.args.old.now c.args.text.now _ refl) c.requires.0.marked (omega arith) c.put_field.ensures
    (grow_twice c.args.store.now c.args.old.now c.args.text.now _ _ _ _ refl (omega arith) c.copy_at.ensures c.put_tail.ensures)
