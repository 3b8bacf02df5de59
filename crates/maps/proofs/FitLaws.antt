-- Places that fit: in more room, in lists joined, cut and looked into, and in the loans. Assumes nothing.
use Rattle.std.specs.Prelude.{Option}
use mathlib.Core.List.{List, [], ◌∷◌, ◌++◌}
use Prim.Native.Nat.{ℕ, zero, suc, ◌≤◌, ◌<◌}
use native.Mathlib.Omega.{arith}
use lib.ListN.{length, take, get_or}
use Rattle.maps.specs.Places.{Within, no_field}
use Rattle.maps.specs.Good.{Fits, lies_in_block, lies_in_store, Fit, FitAll, fit_none, fit_more, FitStatus, fit_absent, fit_at}
use Rattle.maps.specs.declared.Field.{Field}
use Rattle.maps.specs.declared.Place.{Place}

-- what fits still fits when the block and the store have grown
module _ {b b' s s' : ℕ} (h : b ≤ b') (k : s ≤ s') where
  pub fits_mono : {p : Place} → Fits b s p → Fits b' s' p
  fits_mono (lies_in_block x y i j) = lies_in_block x y i (omega arith)
  fits_mono (lies_in_store x y i j) = lies_in_store x y i (omega arith)

  pub fit_mono : {x : Field} → Fit b s x → Fit b' s' x
  fit_mono f = record { key = fits_mono f.key; value = fits_mono f.value }

  pub all_mono : {xs : List Field} → FitAll b s xs → FitAll b' s' xs
  all_mono fit_none = fit_none
  all_mono (fit_more f r) = fit_more (fit_mono f) (all_mono r)

  pub status_mono : {t : Option Place} → FitStatus b s t → FitStatus b' s' t
  status_mono fit_absent = fit_absent
  status_mono (fit_at f) = fit_at (fits_mono f)

module _ {b s : ℕ} where
  pub all_append : {xs ys : List Field} → FitAll b s xs → FitAll b s ys → FitAll b s (xs ++ ys)
  all_append fit_none g = g
  all_append (fit_more f r) g = fit_more f (all_append r g)

  pub all_snoc : {x : Field} {xs : List Field} → FitAll b s xs → Fit b s x → FitAll b s (xs ++ x ∷ [])
  all_snoc r f = all_append r (fit_more f fit_none)

  pub all_take : (n : ℕ) {xs : List Field} → FitAll b s xs → FitAll b s (take n xs)
  all_take zero r = fit_none
  all_take (suc n) fit_none = fit_none
  all_take (suc n) (fit_more f r) = fit_more f (all_take n r)

  pub all_get : {xs : List Field} (i : ℕ) (d : Field) → i < length xs → FitAll b s xs → Fit b s (get_or xs i d)
  all_get i d h fit_none = absurd (omega arith)
  all_get zero d h (fit_more f r) = f
  all_get (suc i) d h (fit_more f r) = all_get i d (omega arith) r

  none_fits : Fit b s no_field
  none_fits = record { key = lies_in_block 0 0 (omega arith) (omega arith); value = lies_in_block 0 0 (omega arith) (omega arith) }

  -- past the end of a list too, where no field stands
  pub fit_get : {xs : List Field} → FitAll b s xs → (i : ℕ) → Fit b s (get_or xs i no_field)
  fit_get fit_none i = none_fits
  fit_get (fit_more f r) zero = f
  fit_get (fit_more f r) (suc i) = fit_get r i

-- a place that fits lies in what is lent
pub fits_within : {c k : ℕ} {p : Place} (b s : List ℕ) → c ≤ length b → k ≤ length s → Fits c k p → Within b s p
fits_within b s u v (lies_in_block x y l h) = (l, omega arith)
fits_within b s u v (lies_in_store x y l h) = (l, omega arith)
