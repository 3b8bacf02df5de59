-- `walker::turns::common` meets its contract. Assumes nothing.
use Rattle.walker.specs.Walk.{common as commonOf}
use mathlib.Core.Path.{◌≡◌}
use Prim.Native.Nat.{◌+◌}
use lib.ListN.{drop}
use Rattle.walker.proofs.turns.common.Given as goal

abbrev pub invariant-loop-i : goal.invariant-loop-i
invariant-loop-i l = commonOf l.x l.y ≡ l.i + commonOf (drop l.i l.x) (drop l.i l.y)
