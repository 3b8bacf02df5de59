-- Laws of fields and status lines that say the same. Assumes nothing.
use Rattle.std.specs.Prelude.{None, Option, Some}
use mathlib.Core.Path.{◌≡◌, refl, ap}
use mathlib.Core.Bool.{Bool, true, false}
use mathlib.Core.List.{List, [], ◌∷◌, map}
use Prim.Native.Nat.{ℕ, suc, ◌+◌, ◌≤◌, ◌<◌}
use lib.ListN.{length, get_or, take, drop}
use Rattle.leaves.specs.Octets.{same_list}
use Rattle.leaves.proofs.ChoiceLaws.{and_false}
use Rattle.maps.specs.Places.{at, no_field}
use Rattle.lookups.proofs.SeekLaws.{live_cons, live_end}
use Rattle.maps.specs.declared.Field.{Field}
use Rattle.maps.specs.declared.Place.{Place}
use Rattle.maps.specs.Said.{Pair, pair_at, status_at}
use Rattle.equals.specs.Equal.{same_pairs, same_status}

-- the fields from i on
module _ (b s c z : List ℕ) (t u : List Field) (n i : ℕ) (v : n ≤ length t) (w : n ≤ length u) where
  pub pairs_more : i < n → same_list (at b s (get_or t i no_field).key) (at c z (get_or u i no_field).key) ≡ true
      → same_list (at b s (get_or t i no_field).value) (at c z (get_or u i no_field).value) ≡ true
      → same_pairs (map (pair_at b s) (drop i (take n t))) (map (pair_at c z) (drop i (take n u))) ≡ same_pairs (map (pair_at b s) (drop (i + 1) (take n t))) (map (pair_at c z) (drop (i + 1) (take n u)))
  unfolding same_pairs
  pairs_more h p q = rw (live_cons t n i v h, live_cons u n i w h, p, q)

  pub keys_differ : i < n → same_list (at b s (get_or t i no_field).key) (at c z (get_or u i no_field).key) ≡ false
      → same_pairs (map (pair_at b s) (drop i (take n t))) (map (pair_at c z) (drop i (take n u))) ≡ false
  unfolding same_pairs
  keys_differ h p = rw (live_cons t n i v h, live_cons u n i w h, p)

  pub values_differ : i < n → same_list (at b s (get_or t i no_field).key) (at c z (get_or u i no_field).key) ≡ true
      → same_list (at b s (get_or t i no_field).value) (at c z (get_or u i no_field).value) ≡ false
      → same_pairs (map (pair_at b s) (drop i (take n t))) (map (pair_at c z) (drop i (take n u))) ≡ false
  unfolding same_pairs
  values_differ h p q = rw (live_cons t n i v h, live_cons u n i w h, p, q)

  pub pairs_end : n ≤ i → same_pairs (map (pair_at b s) (drop i (take n t))) (map (pair_at c z) (drop i (take n u))) ≡ true
  unfolding same_pairs
  pairs_end h = rw (live_end t n i h, live_end u n i h)

pub pairs_apart : (x y : List Pair) → (length x ≡ length y → ⊥) → same_pairs x y ≡ false
unfolding same_pairs
pairs_apart [] [] h = absurd (h refl)
pairs_apart [] (q ∷ qs) h = refl
pairs_apart (p ∷ ps) [] h = refl
pairs_apart (p ∷ ps) (q ∷ qs) h = and_false (same_list p.key q.key) _ (and_false (same_list p.value q.value) _ (pairs_apart ps qs (λ e. h (ap suc e))))

-- the status, by what both are
module _ (b s c z : List ℕ) (x y : Option Place) where
  pub both_none : x ≡ None → y ≡ None → true ≡ same_status (status_at b s x) (status_at c z y)
  unfolding same_status
  both_none e f = rw (e, f)

  pub second_some : (q : Place) → x ≡ None → y ≡ Some q → false ≡ same_status (status_at b s x) (status_at c z y)
  unfolding same_status
  second_some q e f = rw (e, f)

  pub first_some : (p : Place) → x ≡ Some p → y ≡ None → false ≡ same_status (status_at b s x) (status_at c z y)
  unfolding same_status
  first_some p e f = rw (e, f)

  pub both_some : (p q : Place) → x ≡ Some p → y ≡ Some q → (k l : List ℕ) → k ≡ at b s p → l ≡ at c z q → (r : Bool) → r ≡ same_list k l → r ≡ same_status (status_at b s x) (status_at c z y)
  unfolding same_status
  both_some p q e f k l ke le r h = rw (e, f, ← ke, ← le) h
