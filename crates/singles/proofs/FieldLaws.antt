-- The fields of a name: what two lookups tell of them. Assumes nothing.
use Rattle.std.specs.Prelude.{Err, None, Ok, Option, Result, Some, ⊤}
use mathlib.Core.Path.{◌≡◌, refl, sym, ap, ◌∙◌}
use mathlib.Core.Bool.{Bool, true, false}
use mathlib.Core.List.{List, [], ◌∷◌, map}
use Prim.Native.Nat.{ℕ, suc, ◌+◌, ◌≤◌, ◌<◌}
use native.Mathlib.Omega.{arith}
use native.Mathlib.Numerals.{add-one}
use lib.ListN.{length, get_or, drop, length-take}
use lib.Seq.{get_or-take}
use Rattle.leaves.specs.Choice.{when◌then◌else◌}
use Rattle.leaves.proofs.ChoiceLaws.{clash}
use Rattle.leaves.specs.declared.refusals.Refusal.{Refusal}
use Rattle.maps.specs.Places.{at, no_field}
use Rattle.maps.specs.Good.{live, checked_done}
use Rattle.maps.specs.declared.Field.{Field}
use Rattle.maps.specs.declared.HeaderMap.{HeaderMap}
use Rattle.maps.proofs.GoodLaws.{ready_of, goes_on, refused_by}
use Rattle.maps.specs.Said.{pair_at, saying}
use Rattle.lookups.specs.Lookups.{named, seeking, finding, value_in, value_place, handed_out}
use Rattle.lookups.proofs.SeekLaws.{find_fine, find_refused}
use Rattle.lookups.proofs.HandLaws.{slot_fine}
use Rattle.singles.specs.Single.{values_of, only_of, only_value, single}

abbrev pub worth : List ℕ → List ℕ → List ℕ → List Field → List (List ℕ)
worth b s name xs = values_of name (map (pair_at b s) xs)

-- a search from number n on that found number i
record Hit (b s name : List ℕ) (n i : ℕ) (xs : List Field) : Type 0 where
  index : ℕ
  is : i ≡ n + index
  inside : index < length xs
  values : worth b s name xs ≡ at b s (get_or xs index no_field).value ∷ worth b s name (drop (suc index) xs)

module _ (b s name : List ℕ) where
  module _ (x : Field) (xs : List Field) where
    pub values_hit : named b s name x ≡ true → worth b s name (x ∷ xs) ≡ at b s x.value ∷ worth b s name xs
    unfolding values_of named when◌then◌else◌
    values_hit e = rw e

    pub values_skip : named b s name x ≡ false → worth b s name (x ∷ xs) ≡ worth b s name xs
    unfolding values_of named when◌then◌else◌
    values_skip e = rw e

    seek_at : (n : ℕ) → named b s name x ≡ true → seeking (named b s name) n (x ∷ xs) ≡ Some n
    unfolding seeking when◌then◌else◌
    seek_at n e = rw e

    seek_on : (n : ℕ) → named b s name x ≡ false → seeking (named b s name) n (x ∷ xs) ≡ seeking (named b s name) (n + 1) xs
    unfolding seeking when◌then◌else◌
    seek_on n e = rw e

  pub no_values : worth b s name [] ≡ []
  unfolding values_of
  no_values = refl

  seek_none : (n : ℕ) → seeking (named b s name) n [] ≡ None
  unfolding seeking
  seek_none n = refl

  missing_none : (n : ℕ) (xs : List Field) → seeking (named b s name) n xs ≡ None → worth b s name xs ≡ []
  missing_none n [] e = no_values
  missing_none n (x ∷ xs) e = choose (named b s name x) refl (λ h. missing_none (n + 1) xs h)
    where
      choose : (t : Bool) → named b s name x ≡ t → (seeking (named b s name) (n + 1) xs ≡ None → worth b s name xs ≡ []) → worth b s name (x ∷ xs) ≡ []
      choose true f ih = clash (cc (seek_at x xs n f))
      choose false f ih = values_skip x xs f ∙ ih (sym (seek_on x xs n f) ∙ e)

  found_hit : (n i : ℕ) (xs : List Field) → seeking (named b s name) n xs ≡ Some i → Hit b s name n i xs
  found_hit n i [] e = clash (cc (seek_none n))
  found_hit n i (x ∷ xs) e = choose (named b s name x) refl (λ h. found_hit (n + 1) i xs h)
    where
      choose : (t : Bool) → named b s name x ≡ t → (seeking (named b s name) (n + 1) xs ≡ Some i → Hit b s name (n + 1) i xs) → Hit b s name n i (x ∷ xs)
      choose true f ih =
          let z : n ≡ i = cc (seek_at x xs n f) in
          record { index = 0; is = omega arith; inside = omega arith; values = values_hit x xs f }
      choose false f ih =
          let h = ih (sym (seek_on x xs n f) ∙ e) in
          let z : i ≡ n + 1 + h.index = h.is in
          let y : h.index < length xs = h.inside in
          record { index = suc h.index; is = omega arith; inside = omega arith; values = values_skip x xs f ∙ h.values }

  hit_values : (n i j : ℕ) (xs : List Field) → Hit b s name n i xs → i ≡ n + j
      → (j < length xs) × (worth b s name xs ≡ at b s (get_or xs j no_field).value ∷ worth b s name (drop (suc j) xs))
  hit_values n i j xs h e =
      let y : i ≡ n + h.index = h.is in
      let z : h.index ≡ j = omega arith in
      (rw z at h.inside, rw z at h.values)

module _ (m : HeaderMap) (b s name : List ℕ) (e : Ok tt ≡ checked_done m b s) where
  -- what was searched for, from what was found
  some_of : (from : ℕ) (f : Option ℕ) → finding m b s name from ≡ Ok f → seeking (named b s name) from (drop from (live m)) ≡ f
  some_of from f g = let h : Ok (seeking (named b s name) from (drop from (live m))) ≡ Ok f = sym (find_fine m b s name from e) ∙ g in cc

  first_hit : (i : ℕ) → finding m b s name 0 ≡ Ok (Some i)
      → (i < length (live m)) × (worth b s name (live m) ≡ at b s (get_or (live m) i no_field).value ∷ worth b s name (drop (suc i) (live m)))
  first_hit i f = hit_values b s name 0 i i (live m) (found_hit b s name 0 i (live m) (some_of 0 (Some i) f)) (omega arith)

  few : length (live m) ≤ 256
  few = let w = (ready_of _ m b s e).few in omega (arith, w, length-take m.fields m.table)

  within : (i : ℕ) → i < length (live m) → i < m.fields
  within i h = omega (arith, h, length-take m.fields m.table)

  small : (i : ℕ) → finding m b s name 0 ≡ Ok (Some i) → i < 256
  small i f = let h = (first_hit i f).0 in let k = few in omega arith

  pub never_refused : {A : Type 0} (from : ℕ) (x : Refusal) → finding m b s name from ≡ Err x → A
  never_refused from x f = clash (cc (find_fine m b s name from e))

  values_none : finding m b s name 0 ≡ Ok None → worth b s name (live m) ≡ []
  values_none f = missing_none b s name 0 (live m) (some_of 0 None f)

  rest_of : (i : ℕ) (f : Option ℕ) → finding m b s name (i + 1) ≡ Ok f → seeking (named b s name) (suc i) (drop (suc i) (live m)) ≡ f
  rest_of i f g = rw add-one at (some_of (i + 1) f g)

  -- the value that a lookup hands out for a field that it found
  handed_is : (i : ℕ) → i < length (live m) → handed_out b s (value_place m b s i) ≡ at b s (get_or (live m) i no_field).value
  handed_is i h =
      ap (λ (p : Option _). handed_out b s p) (ap value_in (slot_fine m b s i e (within i h))) ∙
      ap (λ (x : Field). at b s x.value) (sym (get_or-take m.fields m.table i no_field (within i h)))

  said_values : (vs : List (List ℕ)) → worth b s name (live m) ≡ vs → values_of name (saying m b s).pairs ≡ vs
  unfolding saying
  said_values vs h = h

  pub values_missing : finding m b s name 0 ≡ Ok None → values_of name (saying m b s).pairs ≡ []
  values_missing f = said_values [] (values_none f)

  pub values_found : (i : ℕ) → finding m b s name 0 ≡ Ok (Some i)
      → values_of name (saying m b s).pairs ≡ handed_out b s (value_place m b s i) ∷ worth b s name (drop (suc i) (live m))
  values_found i f =
      let h = first_hit i f in
      said_values _ (h.1 ∙ ap (λ (v : List ℕ). v ∷ worth b s name (drop (suc i) (live m))) (sym (handed_is i h.0)))

  only_missing : finding m b s name 0 ≡ Ok None → [] ≡ only_value name (saying m b s)
  only_missing f = sym (ap only_of (values_missing f))

  only_found : (i : ℕ) → finding m b s name 0 ≡ Ok (Some i) → finding m b s name (i + 1) ≡ Ok None
      → (v : List ℕ) → v ≡ handed_out b s (value_place m b s i) → v ≡ only_value name (saying m b s)
  only_found i f g v h =
      let r : worth b s name (drop (suc i) (live m)) ≡ [] = missing_none b s name (suc i) (drop (suc i) (live m)) (rest_of i None g) in
      h ∙ sym (ap only_of (values_found i f ∙ ap (λ (vs : List (List ℕ)). handed_out b s (value_place m b s i) ∷ vs) r))

  only_again : (i j : ℕ) → finding m b s name 0 ≡ Ok (Some i) → finding m b s name (i + 1) ≡ Ok (Some j) → [] ≡ only_value name (saying m b s)
  only_again i j f g =
      let h = found_hit b s name (suc i) j (drop (suc i) (live m)) (rest_of i (Some j) g) in
      sym (ap only_of (values_found i f ∙ ap (λ (vs : List (List ℕ)). handed_out b s (value_place m b s i) ∷ vs) h.values))

module _ (m : HeaderMap) (b s name : List ℕ) where
  pub single_is : Ok tt ≡ checked_done m b s → single m b s name ≡ only_value name (saying m b s)
  unfolding single
  single_is e = goes_on (λ (x : Refusal). []) _ _ e

  single_none : (x : Refusal) → Err x ≡ checked_done m b s → single m b s name ≡ []
  unfolding single
  single_none x e = refused_by (λ (x : Refusal). []) _ _ x e

  -- a lookup that is not refused looked at a map that can be looked at
  fine_by : (from : ℕ) (f : Result (Option ℕ) Refusal) → finding m b s name from ≡ f → ((x : Refusal) → f ≡ Err x → ⊥) → Ok tt ≡ checked_done m b s
  fine_by from f g never = by (checked_done m b s) refl
    where
      by : (c : Result ⊤ Refusal) → c ≡ checked_done m b s → Ok tt ≡ checked_done m b s
      by (Ok _) e = e
      by (Err x) e = absurd (never x (sym g ∙ find_refused m b s name from x e))

  found_fine : (from i : ℕ) → finding m b s name from ≡ Ok (Some i) → Ok tt ≡ checked_done m b s
  found_fine from i f = fine_by from (Ok (Some i)) f (λ x e. clash (cc))

  missing_fine : (from : ℕ) → finding m b s name from ≡ Ok None → Ok tt ≡ checked_done m b s
  missing_fine from f = fine_by from (Ok None) f (λ x e. clash (cc))

  pub found_small : (i : ℕ) → finding m b s name 0 ≡ Ok (Some i) → i < 256
  found_small i f = small m b s name (found_fine 0 i f) i f

  pub none_missing : finding m b s name 0 ≡ Ok None → [] ≡ single m b s name
  none_missing f = let e = missing_fine 0 f in only_missing m b s name e f ∙ sym (single_is e)

  pub one_found : (i : ℕ) → finding m b s name 0 ≡ Ok (Some i) → finding m b s name (i + 1) ≡ Ok None
      → (v : List ℕ) → v ≡ handed_out b s (value_place m b s i) → v ≡ single m b s name
  one_found i f g v h = let e = found_fine 0 i f in only_found m b s name e i f g v h ∙ sym (single_is e)

  pub none_again : (i j : ℕ) → finding m b s name 0 ≡ Ok (Some i) → finding m b s name (i + 1) ≡ Ok (Some j) → [] ≡ single m b s name
  none_again i j f g = let e = found_fine 0 i f in only_again m b s name e i j f g ∙ sym (single_is e)

  pub none_refused : (from : ℕ) (x : Refusal) → finding m b s name from ≡ Err x → [] ≡ single m b s name
  none_refused from x f = by (checked_done m b s) refl
    where
      by : (c : Result ⊤ Refusal) → c ≡ checked_done m b s → [] ≡ single m b s name
      by (Ok _) e = never_refused m b s name e from x f
      by (Err y) e = sym (single_none y e)
