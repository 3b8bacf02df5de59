-- A field that is found in a lent table: which it is, and its value. Assumes nothing.
use Rattle.maps.specs.declared.Field.{Field}
use Rattle.leaves.specs.declared.refusals.Refusal.{Refusal}
use Rattle.std.specs.Prelude.{Err, Ok, Option, Result, Some, ⊤}
use mathlib.Core.Path.{◌≡◌, refl, sym, ap, ◌∙◌}
use mathlib.Core.List.{List}
use Prim.Native.Nat.{ℕ, ◌-◌, ◌≤◌, ◌<◌}
use native.Mathlib.Omega.{arith}
use Rattle.leaves.proofs.ChoiceLaws.{clash}
use Rattle.maps.specs.Places.{at}
use Rattle.maps.specs.Good.{checked_done}
use Rattle.maps.specs.declared.Head.{Head}
use Rattle.maps.proofs.GoodLaws.{ready_of}
use Rattle.lookups.specs.Lookups.{named, seeking, finding, value_in, value_place, handed_out}
use Rattle.lookups.proofs.FoundLaws.{inside}
use Rattle.lookups.proofs.SeekLaws.{find_fine, find_refused}
use Rattle.lookups.proofs.HandLaws.{slot_fine}
use Rattle.lent.specs.Table.{field_at, fields_from, map_in}
use Rattle.lent.proofs.LentLaws.{fields_length, fields_at, fields_take}

module _ (t : List ℕ) (h : Head) (b s name : List ℕ) where
  module _ (e : Ok tt ≡ checked_done (map_in t h) b s) where
    pub find_few : h.fields ≤ 256
    find_few = (ready_of _ (map_in t h) b s e).few

    pub find_lent : Ok (seeking (named b s name) 0 (fields_from t 0 (h.fields - 0))) ≡ finding (map_in t h) b s name 0
    find_lent =
        let z : h.fields - 0 ≡ h.fields = omega arith in
        rw z (ap (λ (xs : List Field). Ok (seeking (named b s name) 0 xs)) (sym (fields_take t 0 256 h.fields find_few)) ∙ sym (find_fine (map_in t h) b s name 0 e))

  module _ (i : ℕ) (f : finding (map_in t h) b s name 0 ≡ Ok (Some i)) where
    fine : Ok tt ≡ checked_done (map_in t h) b s
    fine = by (checked_done (map_in t h) b s) refl
      where
        by : (c : Result ⊤ Refusal) → c ≡ checked_done (map_in t h) b s → Ok tt ≡ checked_done (map_in t h) b s
        by (Ok _) e = e
        by (Err x) e = clash (cc (find_refused (map_in t h) b s name 0 x e))

    within : i < h.fields
    within =
        let z : Ok (seeking (named b s name) 0 (fields_from t 0 (h.fields - 0))) ≡ Ok (Some i) = find_lent fine ∙ f in
        omega (arith, (inside (named b s name) 0 i (fields_from t 0 (h.fields - 0)) (cc)).1, fields_length t 0 (h.fields - 0))

    pub found_small : i < 256
    found_small = omega (arith, within, find_few fine)

    -- its value is what a lookup hands out for it
    pub found_value : at b s (field_at t i).value ≡ handed_out b s (value_place (map_in t h) b s i)
    found_value = sym (ap (λ (x : Option Field). handed_out b s (value_in x)) (slot_fine (map_in t h) b s i fine within ∙ ap Some (fields_at t 256 i found_small)))
