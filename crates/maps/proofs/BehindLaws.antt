-- What stands behind the fields that count is never looked at. Assumes nothing.
use mathlib.Core.Path.{◌≡◌}
use mathlib.Core.Bool.{Bool}
use mathlib.Core.List.{List}
use Prim.Native.Nat.{ℕ}
use lib.ListN.{length, take}
use Rattle.maps.specs.Good.{good, is_done, checked, checked_done}
use Rattle.maps.specs.Heads.{under}
use Rattle.maps.specs.Said.{saying}
use Rattle.maps.specs.declared.Field.{Field}
use Rattle.maps.specs.declared.Head.{Head}

module _ (h : Head) (t u : List Field) (e : take h.fields t ≡ take h.fields u) where
  pub good_behind : good (under t h) ≡ good (under u h)
  unfolding good
  good_behind = rw e

  pub checked_behind : (ready : Bool) (b s : ℕ) → checked ready (under t h) b s ≡ checked ready (under u h) b s
  unfolding checked
  checked_behind ready b s = rw good_behind

  pub done_behind : (b s : List ℕ) → checked_done (under t h) b s ≡ checked_done (under u h) b s
  done_behind b s = checked_behind (is_done h.phase) (length b) (length s)

  pub saying_behind : (b s : List ℕ) → saying (under t h) b s ≡ saying (under u h) b s
  unfolding saying
  saying_behind b s = rw e
