-- Laws of a search among the first fields of a table. Assumes nothing.
use Rattle.std.specs.Prelude.{Err, None, Ok, Some}
use mathlib.Core.Path.{◌≡◌, refl, ◌∙◌}
use mathlib.Core.Bool.{Bool, true, false}
use mathlib.Core.List.{List, [], ◌∷◌, map}
use Prim.Native.Nat.{ℕ, ◌+◌, ◌≤◌, ◌<◌}
use native.Mathlib.Omega.{arith}
use native.Mathlib.Numerals.{add-one}
use lib.ListN.{length, get_or, take, drop, length-take, drop_of_length-le}
use lib.Seq.{drop-cons, get_or-take, length-take-le}
use Rattle.leaves.specs.Choice.{when◌then◌else◌}
use Rattle.maps.specs.Places.{no_field}
use Rattle.maps.specs.Good.{live, checked_done}
use Rattle.maps.specs.declared.Field.{Field}
use Rattle.maps.specs.declared.HeaderMap.{HeaderMap}
use Rattle.maps.proofs.GoodLaws.{goes_on, refused_by}
use Rattle.leaves.specs.declared.refusals.Refusal.{Refusal}
use Rattle.lookups.specs.Lookups.{named, seeking, finding}

module _ (t : List Field) (n i : ℕ) where
  -- the field at i of the first n of a table
  pub live_cons : n ≤ length t → i < n → drop i (take n t) ≡ get_or t i no_field ∷ drop (i + 1) (take n t)
  live_cons w h =
      let k : i < length (take n t) = rw (length-take-le n t w) h in
      drop-cons (take n t) i no_field k ∙ rw (get_or-take n t i no_field h, add-one)

  pub live_end : n ≤ i → drop i (take n t) ≡ []
  live_end h =
      let k : length (take n t) ≤ i = simp length-take (omega arith) in
      drop_of_length-le (take n t) k

module _ (xs : List Field) (i : ℕ) (p : Field → Bool) where
  pub seek_hit : i < length xs → p (get_or xs i no_field) ≡ true → seeking p i (drop i xs) ≡ Some i
  unfolding seeking when◌then◌else◌
  seek_hit h e = rw (drop-cons xs i no_field h, e)

  pub seek_more : i < length xs → p (get_or xs i no_field) ≡ false → seeking p i (drop i xs) ≡ seeking p (i + 1) (drop (i + 1) xs)
  unfolding seeking when◌then◌else◌
  seek_more h e = rw (drop-cons xs i no_field h, e, add-one)

  pub seek_end : length xs ≤ i → seeking p i (drop i xs) ≡ None
  unfolding seeking
  seek_end h = rw (drop_of_length-le xs h)

-- a search sees only what the test says of each
pub seek_map {ℓ κ} : {A : Type ℓ} {B : Type κ} (f : A → B) (p : A → Bool) (q : B → Bool) (n : ℕ) (xs : List A) → map p xs ≡ map q (map f xs)
    → seeking p n xs ≡ seeking q n (map f xs)
unfolding seeking
seek_map f p q n [] e = refl
seek_map f p q n (x ∷ xs) e =
    let h : p x ≡ q (f x) = cc in
    let t : map p xs ≡ map q (map f xs) = cc in
    rw (h, seek_map f p q (n + 1) xs t)

module _ (m : HeaderMap) (b s name : List ℕ) (from : ℕ) where
  pub find_fine : Ok tt ≡ checked_done m b s → finding m b s name from ≡ Ok (seeking (named b s name) from (drop from (live m)))
  unfolding finding
  find_fine e = goes_on Err _ _ e

  pub find_refused : (x : Refusal) → Err x ≡ checked_done m b s → finding m b s name from ≡ Err x
  unfolding finding
  find_refused x e = refused_by Err _ _ x e
