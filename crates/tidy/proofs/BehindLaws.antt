-- What stands behind the fields that count is never looked at. Assumes nothing.
use mathlib.Core.Path.{◌≡◌}
use mathlib.Core.List.{List}
use Prim.Native.Nat.{ℕ}
use lib.ListN.{take}
use Rattle.maps.specs.Heads.{under}
use Rattle.maps.specs.declared.Field.{Field}
use Rattle.maps.specs.declared.Head.{Head}
use Rattle.maps.proofs.BehindLaws.{done_behind, saying_behind}
use Rattle.tidy.specs.Calls.{cleaning}

module _ (h : Head) (t u : List Field) (e : take h.fields t ≡ take h.fields u) where
  pub cleaning_behind : (b s : List ℕ) → cleaning (under t h) b s ≡ cleaning (under u h) b s
  unfolding cleaning
  cleaning_behind b s = rw (done_behind h t u e b s, saying_behind h t u e b s)
