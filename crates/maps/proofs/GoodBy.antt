-- A map is good exactly if the facts hold that make it so. Assumes nothing.
use Rattle.std.specs.Prelude.{None, Option, Some}
use mathlib.Core.Path.{◌≡◌, refl}
use mathlib.Core.Bool.{Bool, true, ◌&&◌}
use mathlib.Core.List.{List, [], ◌∷◌}
use Prim.Native.Nat.{ℕ, ◌≤◌}
use native.Mathlib.Omega.{arith}
use borrow.Author.Tests.{leb-true, le-leb}
use lib.Dec.{leb}
use Rattle.leaves.proofs.ChoiceLaws.{and_left, and_right, and_both}
use Rattle.maps.specs.Good.{good_place, good_status, good_field, good_fields, good_rooms, good_counts, good, live, lent, Ready}
use Rattle.maps.specs.Good.{Fits, lies_in_block, lies_in_store, Fit, FitAll, fit_none, fit_more, FitStatus, fit_absent, fit_at}
use Rattle.maps.specs.Maps.{empty}
use Rattle.maps.specs.declared.Field.{Field}
use Rattle.maps.specs.declared.Place.{Place}
use Rattle.maps.specs.declared.Place.TheVariants.{Block, Store}
use Rattle.maps.specs.declared.Phase.{Phase}
use Rattle.maps.specs.declared.HeaderMap.{HeaderMap}

-- a test of two parts, either way
both_of : (a b : Bool) → (a && b) ≡ true → (a ≡ true) × (b ≡ true)
both_of a b e = (and_left a b e, and_right a b e)

module _ (count mark : ℕ) where
  -- a place that is good fits, and one that fits is good
  place_fits : (p : Place) → good_place count mark p ≡ true → Fits count mark p
  place_fits (Block a b) e = let f = both_of (leb a.0 b.0) (leb b.0 count) e in lies_in_block a.0 b.0 (leb-true _ _ f.0) (leb-true _ _ f.1)
  place_fits (Store a b) e = let f = both_of (leb a.0 b.0) (leb b.0 mark) e in lies_in_store a.0 b.0 (leb-true _ _ f.0) (leb-true _ _ f.1)

  fits_place : {p : Place} → Fits count mark p → good_place count mark p ≡ true
  fits_place (lies_in_block x y l h) = and_both _ _ (le-leb _ _ l) (le-leb _ _ h)
  fits_place (lies_in_store x y l h) = and_both _ _ (le-leb _ _ l) (le-leb _ _ h)

  status_fits : (t : Option Place) → good_status count mark t ≡ true → FitStatus count mark t
  status_fits None e = fit_absent
  status_fits (Some p) e = fit_at (place_fits p e)

  fits_status : {t : Option Place} → FitStatus count mark t → good_status count mark t ≡ true
  fits_status fit_absent = refl
  fits_status (fit_at f) = fits_place f

  field_fits : (x : Field) → good_field count mark x ≡ true → Fit count mark x
  field_fits x e =
      let f = both_of (good_place count mark x.key) (good_place count mark x.value) e in
      record { key = place_fits x.key f.0; value = place_fits x.value f.1 }

  fields_fit : (xs : List Field) → good_fields count mark xs ≡ true → FitAll count mark xs
  unfolding good_fields
  fields_fit [] e = fit_none
  fields_fit (x ∷ xs) e = let f = both_of (good_field count mark x) (good_fields count mark xs) e in fit_more (field_fits x f.0) (fields_fit xs f.1)

  fit_fields : {xs : List Field} → FitAll count mark xs → good_fields count mark xs ≡ true
  unfolding good_fields
  fit_fields fit_none = refl
  fit_fields (fit_more f r) = and_both _ _ (and_both _ _ (fits_place f.key) (fits_place f.value)) (fit_fields r)

-- what makes a map good, as facts: those of `Ready` that do not speak of the loans
pub record Facts (m : HeaderMap) : Type 0 where
  pub small : m.limit ≤ 65536
  pub least : m.limit ≤ m.room
  pub most : m.room ≤ 65536
  pub count : m.count ≤ m.limit
  pub mark : m.mark ≤ m.room
  pub line : m.line ≤ m.count
  pub few : m.fields ≤ 256
  pub status : FitStatus m.count m.mark m.status
  pub fields : FitAll m.count m.mark (live m)

module _ (limit room : ℕ) where
  pub rooms_facts : good_rooms limit room ≡ true → (limit ≤ 65536) × (limit ≤ room) × (room ≤ 65536)
  rooms_facts e =
      let f = both_of (leb limit 65536) _ e in
      let g = both_of (leb limit room) _ f.1 in
      (leb-true _ _ f.0, leb-true _ _ g.0, leb-true _ _ g.1)

  pub rooms_by : limit ≤ 65536 → limit ≤ room → room ≤ 65536 → good_rooms limit room ≡ true
  rooms_by h k l = and_both _ _ (le-leb _ _ h) (and_both _ _ (le-leb _ _ k) (le-leb _ _ l))

  module _ (count mark line fields : ℕ) where
    counts_facts : good_counts limit room count mark line fields ≡ true → (count ≤ limit) × (mark ≤ room) × (line ≤ count) × (fields ≤ 256)
    counts_facts e =
        let f = both_of (leb count limit) _ e in
        let g = both_of (leb mark room) _ f.1 in
        let h = both_of (leb line count) _ g.1 in
        (leb-true _ _ f.0, leb-true _ _ g.0, leb-true _ _ h.0, leb-true _ _ h.1)

    counts_by : count ≤ limit → mark ≤ room → line ≤ count → fields ≤ 256 → good_counts limit room count mark line fields ≡ true
    counts_by h k l n = and_both _ _ (le-leb _ _ h) (and_both _ _ (le-leb _ _ k) (and_both _ _ (le-leb _ _ l) (le-leb _ _ n)))

    pub counts_few : good_counts limit room count mark line fields ≡ true → fields ≤ 256
    counts_few e = (counts_facts e).3

module _ (m : HeaderMap) where
  pub good_facts : good m ≡ true → Facts m
  unfolding good
  good_facts e =
      let f = both_of (good_rooms m.limit m.room) _ e in
      let g = both_of (good_counts m.limit m.room m.count m.mark m.line m.fields) _ f.1 in
      let h = both_of (good_status m.count m.mark m.status) _ g.1 in
      let r = rooms_facts _ _ f.0 in
      let c = counts_facts _ _ _ _ _ _ g.0 in
      record {
        small = r.0;
        least = r.1;
        most = r.2;
        count = c.0;
        mark = c.1;
        line = c.2;
        few = c.3;
        status = status_fits _ _ _ h.0;
        fields = fields_fit _ _ _ h.1;
      }

  pub good_by : Facts m → good m ≡ true
  unfolding good
  good_by f =
      and_both _ _ (rooms_by _ _ f.small f.least f.most)
      (and_both _ _ (counts_by _ _ _ _ _ _ f.count f.mark f.line f.few)
      (and_both _ _ (fits_status _ _ f.status) (fit_fields _ _ f.fields)))

  pub lent_by : {b s : ℕ} → m.limit ≤ b → m.room ≤ s → lent m b s ≡ true
  lent_by h k = and_both _ _ (le-leb _ _ h) (le-leb _ _ k)

-- an empty map with good rooms is good
pub good_empty : (limit room : ℕ) → good_rooms limit room ≡ true → (t : List Field) (awaits quirks : Bool) (p : Phase) → good (empty t limit room awaits quirks p) ≡ true
good_empty limit room e t awaits quirks p =
    let r = rooms_facts limit room e in
    good_by (empty t limit room awaits quirks p)
    (record {
      small = r.0;
      least = r.1;
      most = r.2;
      count = omega arith;
      mark = omega arith;
      line = omega arith;
      few = omega arith;
      status = fit_absent;
      fields = fit_none;
    })

pub rooms_of : (m : HeaderMap) (b s : List ℕ) → Ready m b s → good_rooms m.limit m.room ≡ true
rooms_of m b s w = rooms_by _ _ w.small w.least w.most
