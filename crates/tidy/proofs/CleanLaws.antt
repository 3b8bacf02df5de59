-- What the clean test gives, case by case. Assumes nothing.
use Rattle.std.specs.Prelude.{Err, None, Ok, Option, Some}
use mathlib.Core.Path.{◌≡◌, sym}
use mathlib.Core.Bool.{Bool, true, false, ◌&&◌}
use mathlib.Core.List.{List, map}
use Prim.Native.Nat.{ℕ, ◌+◌, ◌≤◌, ◌<◌}
use lib.ListN.{length, get_or, take, drop}
use Rattle.leaves.specs.declared.refusals.Refusal.{Refusal}
use Rattle.maps.specs.Places.{at, no_field}
use Rattle.maps.specs.Good.{checked_done, live}
use Rattle.maps.specs.declared.Field.{Field}
use Rattle.maps.specs.declared.Place.{Place}
use Rattle.maps.specs.declared.HeaderMap.{HeaderMap}
use Rattle.maps.specs.Said.{pair_at, status_at}
use Rattle.maps.proofs.SaidLaws.{said_is}
use Rattle.lookups.proofs.SeekLaws.{live_cons, live_end}
use Rattle.rebuilds.specs.Clean.{clean_pair, clean_pairs, clean_status, clean}
use Rattle.tidy.specs.Calls.{answer, cleaning}

module _ (b s : List ℕ) where
  -- the status
  pub status_none : (x : Option Place) → x ≡ None → true ≡ clean_status (status_at b s x)
  unfolding clean_status
  status_none x e = rw e

  pub status_some : (x : Option Place) (p : Place) (k : List ℕ) (r : Bool) → x ≡ Some p → k ≡ at b s p → r ≡ clean_status (Some k) → r ≡ clean_status (status_at b s x)
  status_some x p k r e f h = rw (e, ← f) h

  -- the fields from i on
  module _ (t : List Field) (n i : ℕ) (k v : List ℕ) (r : Bool) where
    pub pair_test : k ≡ at b s (get_or t i no_field).key → v ≡ at b s (get_or t i no_field).value → r ≡ clean_pair (record { key = k; value = v })
        → r ≡ clean_pair (pair_at b s (get_or t i no_field))
    pair_test e f h = rw (← e, ← f) h

  module _ (t : List Field) (n i : ℕ) where
    pub clean_more : n ≤ length t → i < n → clean_pair (pair_at b s (get_or t i no_field)) ≡ true
        → clean_pairs (map (pair_at b s) (drop i (take n t))) ≡ clean_pairs (map (pair_at b s) (drop (i + 1) (take n t)))
    unfolding clean_pairs
    clean_more w h e = rw (live_cons t n i w h, e)

    pub clean_stop : n ≤ length t → i < n → clean_pair (pair_at b s (get_or t i no_field)) ≡ false → clean_pairs (map (pair_at b s) (drop i (take n t))) ≡ false
    unfolding clean_pairs
    clean_stop w h e = rw (live_cons t n i w h, e)

    pub clean_end : n ≤ i → clean_pairs (map (pair_at b s) (drop i (take n t))) ≡ true
    unfolding clean_pairs
    clean_end h = rw (live_end t n i h)

-- by cases of the call
module _ (m : HeaderMap) (b s : List ℕ) where
  pub clean_refused : (x : Refusal) → Err x ≡ checked_done m b s → Err x ≡ cleaning m b s
  unfolding cleaning
  clean_refused x e = rw (sym e)

  module _ (e : Ok tt ≡ checked_done m b s) where
    by : (t : Bool) → (clean_status (status_at b s m.status) && clean_pairs (map (pair_at b s) (live m))) ≡ t → answer t ≡ cleaning m b s
    unfolding cleaning clean
    by t h = rw (sym e, said_is m b s, h)

    pub clean_is : clean_status (status_at b s m.status) ≡ true → (r : Bool) → r ≡ clean_pairs (map (pair_at b s) (take m.fields m.table)) → Ok r ≡ cleaning m b s
    clean_is f r g = by r (rw (f, ← g))

    pub status_not : clean_status (status_at b s m.status) ≡ false → Ok false ≡ cleaning m b s
    status_not f = by false (rw f)
