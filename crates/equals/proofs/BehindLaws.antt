-- What stands behind the fields that count is never looked at. Assumes nothing.
use mathlib.Core.Path.{◌≡◌}
use mathlib.Core.List.{List}
use Prim.Native.Nat.{ℕ}
use lib.ListN.{take}
use Rattle.maps.specs.Heads.{under}
use Rattle.maps.specs.declared.Field.{Field}
use Rattle.maps.specs.declared.Head.{Head}
use Rattle.maps.proofs.BehindLaws.{done_behind, saying_behind}
use Rattle.equals.specs.Equal.{comparing}

module _ (h : Head) (t u : List Field) (e : take h.fields t ≡ take h.fields u)
    (k : Head) (v w : List Field) (f : take k.fields v ≡ take k.fields w) where
  pub comparing_behind : (b s c z : List ℕ) → comparing (under t h) b s (under v k) c z ≡ comparing (under u h) b s (under w k) c z
  unfolding comparing
  comparing_behind b s c z = rw (done_behind h t u e b s, done_behind k v w f c z, saying_behind h t u e b s, saying_behind k v w f c z)
