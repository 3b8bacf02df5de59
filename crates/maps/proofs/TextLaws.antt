-- What places that fit say hangs on the octets below the count and the mark alone. Assumes nothing.
use Rattle.std.specs.Prelude.{Option, Some}
use mathlib.Core.Path.{◌≡◌, refl, sym, ap, ◌∙◌}
use mathlib.Core.List.{List, ◌++◌, map}
use Prim.Native.Nat.{ℕ, ◌-◌, ◌≤◌}
use native.Mathlib.Omega.{arith}
use lib.ListN.{length, take, drop}
use lib.Seq.{take-take, take-length, take-append_seam}
use Rattle.leaves.proofs.PasteLaws.{drop_take}
use Rattle.maps.specs.Places.{at, part}
use Rattle.maps.specs.Good.{Fits, lies_in_block, lies_in_store, FitAll, fit_none, fit_more, FitStatus, fit_absent, fit_at}
use Rattle.maps.specs.Said.{pair_at, status_at}
use Rattle.maps.specs.declared.Field.{Field}
use Rattle.maps.specs.declared.Place.{Place}

-- a part that ends before n is one of the first n
pub part_cut : (l : List ℕ) (i j n : ℕ) → j ≤ n → part i j (take n l) ≡ part i j l
part_cut l i j n h = ap (take (j - i)) (drop_take i n l) ∙ take-take (j - i) (n - i) (drop i l) (omega arith)

-- two texts that agree on the first n have the same parts there
pub part_same : (l l' : List ℕ) (i j n : ℕ) → j ≤ n → take n l ≡ take n l' → part i j l ≡ part i j l'
part_same l l' i j n h e = sym (part_cut l i j n h) ∙ ap (part i j) e ∙ part_cut l' i j n h

-- two pairs of loans that agree below the count and the mark
module _ (count mark : ℕ) (b b' s s' : List ℕ) (e : take count b ≡ take count b') (g : take mark s ≡ take mark s') where
  pub same_at : {p : Place} → Fits count mark p → at b s p ≡ at b' s' p
  same_at (lies_in_block i j l h) = part_same b b' i j count h e
  same_at (lies_in_store i j l h) = part_same s s' i j mark h g

  pub same_status_lem : {t : Option Place} → FitStatus count mark t → status_at b s t ≡ status_at b' s' t
  same_status_lem fit_absent = refl
  same_status_lem (fit_at f) = ap Some (same_at f)

  pub same_pairs_lem : {xs : List Field} → FitAll count mark xs → map (pair_at b s) xs ≡ map (pair_at b' s') xs
  same_pairs_lem fit_none = refl
  same_pairs_lem (fit_more f r) = rw (same_at f.key, same_at f.value, same_pairs_lem r)

-- more octets behind those of the block and of the store
module _ (b s x y : List ℕ) where
  front : (l q : List ℕ) → take (length l) (l ++ q) ≡ take (length l) l
  front l q = take-append_seam l q ∙ sym (take-length l)

  pub at_front : {p : Place} → Fits (length b) (length s) p → at (b ++ x) (s ++ y) p ≡ at b s p
  at_front f = same_at (length b) (length s) (b ++ x) b (s ++ y) s (front b x) (front s y) f

  pub status_front : {t : Option Place} → FitStatus (length b) (length s) t → status_at (b ++ x) (s ++ y) t ≡ status_at b s t
  status_front f = same_status_lem (length b) (length s) (b ++ x) b (s ++ y) s (front b x) (front s y) f

  pub pairs_front : {xs : List Field} → FitAll (length b) (length s) xs → map (pair_at (b ++ x) (s ++ y)) xs ≡ map (pair_at b s) xs
  pairs_front f = same_pairs_lem (length b) (length s) (b ++ x) b (s ++ y) s (front b x) (front s y) f
