-- A field that a lookup found: its number, and its value. Assumes nothing.
use Rattle.std.specs.Prelude.{Err, None, Ok, Option, Result, Some, option_map, ⊤}
use mathlib.Core.Path.{◌≡◌, refl, sym, ap, ◌∙◌}
use mathlib.Core.Bool.{Bool, true, false}
use mathlib.Core.List.{List, [], ◌∷◌}
use Prim.Native.Nat.{ℕ, ◌+◌, ◌≤◌, ◌<◌}
use native.Mathlib.Omega.{arith}
use lib.ListN.{length, get_or, take, drop, length-take, length-drop}
use lib.Seq.{get_or-take}
use Rattle.leaves.specs.Choice.{when◌then◌else◌}
use Rattle.leaves.proofs.ChoiceLaws.{clash}
use Rattle.leaves.specs.declared.refusals.Refusal.{Refusal}
use Rattle.maps.specs.Places.{at, no_field}
use Rattle.maps.specs.Good.{live, checked_done}
use Rattle.maps.specs.declared.Field.{Field}
use Rattle.maps.specs.declared.HeaderMap.{HeaderMap}
use Rattle.lookups.specs.Lookups.{named, seeking, finding, sighted_in, sighting, value_in, value_place, handed_out}
use Rattle.maps.proofs.GoodLaws.{goes_on, refused_by}
use Rattle.lookups.proofs.SeekLaws.{find_fine, find_refused}
use Rattle.lookups.proofs.HandLaws.{slot_fine}

-- a number that a search finds is one of those it looks at
module _ (p : Field → Bool) where
  seek_at : (n : ℕ) (x : Field) (xs : List Field) → p x ≡ true → seeking p n (x ∷ xs) ≡ Some n
  unfolding seeking when◌then◌else◌
  seek_at n x xs e = rw e

  seek_on : (n : ℕ) (x : Field) (xs : List Field) → p x ≡ false → seeking p n (x ∷ xs) ≡ seeking p (n + 1) xs
  unfolding seeking when◌then◌else◌
  seek_on n x xs e = rw e

  pub inside : (n i : ℕ) (xs : List Field) → seeking p n xs ≡ Some i → (n ≤ i) × (i < n + length xs)
  unfolding seeking
  inside n i [] e = clash (cc)
  inside n i (x ∷ xs) e = choose (p x) refl (λ h. inside (n + 1) i xs h)
    where
      choose : (t : Bool) → p x ≡ t → (seeking p (n + 1) xs ≡ Some i → (n + 1 ≤ i) × (i < n + 1 + length xs)) → (n ≤ i) × (i < n + length (x ∷ xs))
      choose true f ih = let z : n ≡ i = cc (seek_at n x xs f) in (omega arith, omega arith)
      choose false f ih =
          let z = ih (sym (seek_on n x xs f) ∙ e) in
          let u = z.0 in
          let v = z.1 in
          (omega (arith, u), omega (arith, v))

-- what was found and what it is
module _ (t : List Field) where
  in_at : (f : Option ℕ) (i : ℕ) (x : Field) → sighted_in t f ≡ Some (i, x) → x ≡ get_or t i no_field
  in_at (Some j) i x e =
      let p : (j, get_or t j no_field) ≡ (i, x) = cc in
      let z : j ≡ i = ap (λ (q : ℕ × Field). q.0) p in
      let y : get_or t j no_field ≡ x = ap (λ (q : ℕ × Field). q.1) p in
      sym y ∙ ap (λ (k : ℕ). get_or t k no_field) z
  in_at None i x e = clash (cc)

  -- of the first n fields of a table a search sees what it sees of the table
  in_first : (n : ℕ) (p : Field → Bool) (from : ℕ) → sighted_in (take n t) (seeking p from (drop from (take n t))) ≡ sighted_in t (seeking p from (drop from (take n t)))
  in_first n p from = by (seeking p from (drop from (take n t))) refl
    where
      by : (f : Option ℕ) → seeking p from (drop from (take n t)) ≡ f → sighted_in (take n t) f ≡ sighted_in t f
      by None e = refl
      by (Some i) e =
          let w = inside p from i (drop from (take n t)) e in
          let h : i < n = omega (arith, w.0, w.1, length-drop from (take n t), length-take n t) in
          ap (λ (x : Field). Some (i, x)) (get_or-take n t i no_field h)

module _ (m : HeaderMap) (b s name : List ℕ) (from : ℕ) where
  pub sight_fine : Ok tt ≡ checked_done m b s → Ok (sighted_in (live m) (seeking (named b s name) from (drop from (live m)))) ≡ sighting m b s name from
  unfolding sighting
  sight_fine e = ap Ok (in_first m.table m.fields (named b s name) from) ∙ sym (goes_on Err _ _ e)

  pub sight_refused : (x : Refusal) → Err x ≡ checked_done m b s → Err x ≡ sighting m b s name from
  unfolding sighting
  sight_refused x e = sym (refused_by Err _ _ x e)

  -- what is known of a search by what the first checks said
  module _ {o : Option (ℕ × Field)} (e : sighting m b s name from ≡ Ok o) where
    checks_fine : Ok tt ≡ checked_done m b s
    checks_fine = by (checked_done m b s) refl
      where
        by : (c : Result ⊤ Refusal) → c ≡ checked_done m b s → Ok tt ≡ checked_done m b s
        by (Ok _) h = h
        by (Err x) h = clash (cc (sight_refused x h))

    seen_is : sighted_in m.table (seeking (named b s name) from (drop from (live m))) ≡ o
    unfolding sighting
    seen_is = let z : Ok (sighted_in m.table (seeking (named b s name) from (drop from (live m)))) ≡ Ok o = sym (goes_on Err _ _ checks_fine) ∙ e in cc

    -- its number
    pub sight_number : Ok (option_map (λ (x : ℕ × Field). x.0) o) ≡ finding m b s name from
    sight_number =
        ap Ok (ap (option_map (λ (x : ℕ × Field). x.0)) (sym seen_is) ∙ numbers (seeking (named b s name) from (drop from (live m)))) ∙
        sym (find_fine m b s name from checks_fine)
      where
        numbers : (f : Option ℕ) → option_map (λ (x : ℕ × Field). x.0) (sighted_in m.table f) ≡ f
        numbers None = refl
        numbers (Some i) = refl

  pub sight_missing : sighting m b s name from ≡ Ok None → finding m b s name from ≡ Ok None
  sight_missing e = sym (sight_number e)

  pub sight_blind : (x : Refusal) → sighting m b s name from ≡ Err x → finding m b s name from ≡ Err x
  sight_blind x e = by (checked_done m b s) refl
    where
      by : (c : Result ⊤ Refusal) → c ≡ checked_done m b s → finding m b s name from ≡ Err x
      by (Ok _) h = clash (cc (sight_fine h))
      by (Err y) h = let z : y ≡ x = cc (sight_refused y h) in find_refused m b s name from x (ap Err (sym z) ∙ h)

  module _ (i : ℕ) where
    module _ (f : finding m b s name from ≡ Ok (Some i)) where
      fine : Ok tt ≡ checked_done m b s
      fine = by (checked_done m b s) refl
        where
          by : (c : Result ⊤ Refusal) → c ≡ checked_done m b s → Ok tt ≡ checked_done m b s
          by (Ok _) e = e
          by (Err x) e = clash (cc (find_refused m b s name from x e))

      within : i < m.fields
      within =
          let y : Ok (seeking (named b s name) from (drop from (live m))) ≡ Ok (Some i) = sym (find_fine m b s name from fine) ∙ f in
          let z = inside (named b s name) from i (drop from (live m)) (cc) in
          let u = z.0 in
          let v = z.1 in
          omega (arith, u, v, length-drop from (live m), length-take m.fields m.table)

    module _ (x : Field) (e : sighting m b s name from ≡ Ok (Some (i, x))) where
      pub sight_at : finding m b s name from ≡ Ok (Some i)
      sight_at = sym (sight_number e)

      field_is : x ≡ get_or m.table i no_field
      field_is = in_at m.table (seeking (named b s name) from (drop from (live m))) i x (seen_is e)

      -- its value is what a lookup hands out for the number
      pub sight_value : at b s x.value ≡ handed_out b s (value_place m b s i)
      sight_value =
          ap (λ (y : Field). at b s y.value) field_is ∙
          sym (ap (λ (y : Option Field). handed_out b s (value_in y)) (slot_fine m b s i (fine sight_at) (within sight_at)))
