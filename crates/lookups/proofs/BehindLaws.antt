-- What stands behind the fields that count is never looked at. Assumes nothing.
use mathlib.Core.Path.{◌≡◌, ap}
use mathlib.Core.List.{List}
use Prim.Native.Nat.{ℕ}
use lib.ListN.{take}
use Rattle.maps.specs.Heads.{under}
use Rattle.maps.specs.declared.Field.{Field}
use Rattle.maps.specs.declared.Head.{Head}
use Rattle.maps.proofs.BehindLaws.{done_behind}
use Rattle.lookups.specs.Lookups.{shown_status, status_in, status_place}

module _ (h : Head) (t u : List Field) (e : take h.fields t ≡ take h.fields u) where
  pub shown_behind : (b s : List ℕ) → shown_status (under t h) b s ≡ shown_status (under u h) b s
  unfolding shown_status
  shown_behind b s = rw (done_behind h t u e b s)

  pub status_behind : (b s : List ℕ) → status_place (under t h) b s ≡ status_place (under u h) b s
  status_behind b s = ap status_in (shown_behind b s)
