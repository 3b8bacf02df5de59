-- Laws of a map in lent numbers: its fields, a field put, the numbers got back, of a table and of a head. Assumes nothing.
use Rattle.std.specs.Prelude.{None, Some}
use mathlib.Core.Path.{◌≡◌, refl, sym, ap, ◌∙◌}
use mathlib.Core.Logic.{◌≢◌}
use mathlib.Core.Bool.{Bool, true, false, ◌&&◌}
use mathlib.Core.List.{List, [], ◌∷◌, ◌++◌, append-nil}
use Prim.Native.Nat.{ℕ, zero, suc, ◌+◌, ◌*◌, ◌-◌, ◌≤◌, ◌<◌, min}
use native.Mathlib.Omega.{arith}
use native.Mathlib.Numerals.{add-one}
use borrow.Author.Tests.{eqb-true, eqb-false, ltb-true, ltb-false, leb-true, leb-false, lt-ltb, le-ltb, le-leb, lt-leb}
use lib.Arith.{lt_of_le-ne}
use lib.Dec.{eqb, leb, ltb}
use lib.ListN.{length, get_or, set, take, drop, replicate, length-append, length-drop, length-replicate, length-set, drop_of_length-le}
use lib.Seq.{get_or-set_same, get_or-set_other, ext_get_or, length-take-le, take_at, drop-cons, sets, sets-eq, paste, paste-suc}
use Rattle.leaves.specs.Choice.{when◌then◌else◌}
use Rattle.leaves.specs.Paste.{lay}
use Rattle.leaves.proofs.ChoiceLaws.{by_if, if_true, if_false, and_left, and_right, and_both, and_false}
use Rattle.maps.specs.Places.{in_block, in_store, no_field}
use Rattle.maps.specs.Good.{Fits, lies_in_block, lies_in_store, Fit, good_place, good_field, good_fields, good_rooms, good_counts}
use Rattle.maps.proofs.GoodLaws.{and_stop}
use Rattle.maps.specs.declared.Place.{Place}
use Rattle.maps.specs.declared.Field.{Field}
use Rattle.maps.specs.declared.Phase.{Phase}
use Rattle.maps.specs.declared.Phase.TheVariants.{Reading, Done}
use Rattle.maps.specs.declared.Head.{Head}
use Rattle.lookups.specs.Lookups.{seeking}
use Rattle.lent.specs.Table.{store_mark, place_of, good_stored, from_of, to_of, place_at, field_at, fields_from, table_of, numbers_of, place_put, field_put, live_in}
use Rattle.lent.specs.Numbers.{flag_of, phase_number, status_kind, status_from, status_to, head_numbers, status_of, phase_of, head_of, sound_status, sound_head, sound_map}

module _ (t : List ℕ) (n i : ℕ) where
  pub from_cons : i < n → fields_from t i (n - i) ≡ field_at t i ∷ fields_from t (i + 1) (n - (i + 1))
  unfolding fields_from
  from_cons h = let k : n - i ≡ suc (n - (i + 1)) = omega (arith, h) in rw k

  pub from_end : n ≤ i → fields_from t i (n - i) ≡ []
  unfolding fields_from
  from_end h = let k : n - i ≡ 0 = omega (arith, h) in rw k

  -- a search among them
  module _ (p : Field → Bool) where
    pub seek_hit : i < n → p (field_at t i) ≡ true → seeking p i (fields_from t i (n - i)) ≡ Some i
    unfolding seeking when◌then◌else◌
    seek_hit h e = rw (from_cons h, e)

    pub seek_more : i < n → p (field_at t i) ≡ false → seeking p i (fields_from t i (n - i)) ≡ seeking p (i + 1) (fields_from t (i + 1) (n - (i + 1)))
    unfolding seeking when◌then◌else◌
    seek_more h e = rw (from_cons h, e)

    pub seek_end : n ≤ i → seeking p i (fields_from t i (n - i)) ≡ None
    unfolding seeking
    seek_end h = rw (from_end h)

-- how many, and the one at a number
pub fields_length : (t : List ℕ) (i k : ℕ) → length (fields_from t i k) ≡ k
unfolding fields_from
fields_length t i zero = refl
fields_length t i (suc k) = ap suc (fields_length t (i + 1) k)

pub fields_get : (t : List ℕ) (i k j : ℕ) → j < k → get_or (fields_from t i k) j no_field ≡ field_at t (i + j)
unfolding fields_from
fields_get t i zero j h = absurd (omega (arith, h))
fields_get t i (suc k) zero h = let e : i ≡ i + 0 = omega arith in ap (field_at t) e
fields_get t i (suc k) (suc j) h =
    let e : i + 1 + j ≡ i + suc j = omega arith in
    fields_get t (i + 1) k j (omega (arith, h)) ∙ ap (field_at t) e

pub fields_at : (t : List ℕ) (k j : ℕ) → j < k → get_or (fields_from t 0 k) j no_field ≡ field_at t j
fields_at t k j h = let e : 0 + j ≡ j = omega arith in fields_get t 0 k j h ∙ ap (field_at t) e

-- a place is told by its two numbers
pub told : {p : Place} → Fits 65536 65536 p → place_of (from_of p) (to_of p) ≡ p
unfolding place_of
told (lies_in_block x y l h) = let k : x < store_mark = omega (arith, l, h) in if_true _ _ (lt-ltb _ _ k)
told (lies_in_store x y l h) =
    let k : store_mark ≤ store_mark + x = omega arith in
    let e : store_mark + x - store_mark ≡ x = omega arith in
    if_false _ _ (le-ltb _ _ k) ∙ ap (λ (a : ℕ). in_store a y) e

-- and its first number is no more than 32 bits hold
pub from_small : {p : Place} → Fits 65536 65536 p → from_of p ≤ store_mark + 65536
from_small (lies_in_block x y l h) = omega (arith, l, h)
from_small (lies_in_store x y l h) = omega (arith, l, h)

module _ (t : List ℕ) (at : ℕ) (p : Place) where
  abbrev one : List ℕ
  one = set t at (from_of p)

  pub put_length : length (place_put t at p) ≡ length t
  put_length = length-set one (at + 1) (to_of p) ∙ length-set t at (from_of p)

  put_same : at + 1 < length t → Fits 65536 65536 p → place_at (place_put t at p) at ≡ p
  put_same h w =
      let n : at ≢ at + 1 = λ e. absurd (omega (arith, e)) in
      let l₀ : at < length t = omega (arith, h) in
      let l₁ : at + 1 < length one = rw (length-set t at (from_of p)) h in
      let a : get_or (place_put t at p) at 0 ≡ from_of p = get_or-set_other one (at + 1) at (to_of p) 0 n ∙ get_or-set_same t at (from_of p) 0 l₀ in
      let b : get_or (place_put t at p) (at + 1) 0 ≡ to_of p = get_or-set_same one (at + 1) (to_of p) 0 l₁ in
      rw (a, b) (told w)

  -- a number that the place has not
  get_other : (j : ℕ) → j ≢ at → j ≢ at + 1 → get_or (place_put t at p) j 0 ≡ get_or t j 0
  get_other j a b = get_or-set_other one (at + 1) j (to_of p) 0 b ∙ get_or-set_other t at j (from_of p) 0 a

  get_before : (j : ℕ) → j < at → get_or (place_put t at p) j 0 ≡ get_or t j 0
  get_before j h = get_other j (λ e. absurd (omega (arith, e, h))) (λ e. absurd (omega (arith, e, h)))

  get_behind : (j : ℕ) → at + 1 < j → get_or (place_put t at p) j 0 ≡ get_or t j 0
  get_behind j h = get_other j (λ e. absurd (omega (arith, e, h))) (λ e. absurd (omega (arith, e, h)))

  put_before : (j : ℕ) → j + 1 < at → place_at (place_put t at p) j ≡ place_at t j
  put_before j h = rw (get_before j (omega (arith, h)), get_before (j + 1) h)

  put_behind : (j : ℕ) → at + 1 < j → place_at (place_put t at p) j ≡ place_at t j
  put_behind j h = rw (get_behind j h, get_behind (j + 1) (omega (arith, h)))

module _ (t : List ℕ) (i : ℕ) (f : Field) where
  abbrev mid : List ℕ
  mid = place_put t (i * 4) f.key

  pub field_length : length (field_put t i f) ≡ length t
  field_length = put_length mid (i * 4 + 2) f.value ∙ put_length t (i * 4) f.key

  pub field_other : (j : ℕ) → j ≢ i → field_at (field_put t i f) j ≡ field_at t j
  field_other j n = by (ltb j i) refl
    where
      by : (b : Bool) → ltb j i ≡ b → field_at (field_put t i f) j ≡ field_at t j
      by true u =
          let l : j < i = ltb-true _ _ u in
          rw (
            put_before mid (i * 4 + 2) f.value (j * 4) (omega (arith, l)) ∙ put_before t (i * 4) f.key (j * 4) (omega (arith, l)),
            put_before mid (i * 4 + 2) f.value (j * 4 + 2) (omega (arith, l)) ∙ put_before t (i * 4) f.key (j * 4 + 2) (omega (arith, l)),
          )
      by false u =
          let l : i ≤ j = ltb-false _ _ u in
          let k : i < j = lt_of_le-ne l (λ e. n (sym e)) in
          rw (
            put_behind mid (i * 4 + 2) f.value (j * 4) (omega (arith, k)) ∙ put_behind t (i * 4) f.key (j * 4) (omega (arith, k)),
            put_behind mid (i * 4 + 2) f.value (j * 4 + 2) (omega (arith, k)) ∙ put_behind t (i * 4) f.key (j * 4 + 2) (omega (arith, k)),
          )

  module _ (long : length t ≡ 1024) (few : i < 256) (fit : Fit 65536 65536 f) where
    pub field_same : field_at (field_put t i f) i ≡ f
    field_same =
        let l : i * 4 + 2 + 1 < length mid = rw (put_length t (i * 4) f.key) (omega (arith, few, long)) in
        let a : place_at (field_put t i f) (i * 4) ≡ f.key = put_before mid (i * 4 + 2) f.value (i * 4) (omega arith) ∙ put_same t (i * 4) f.key (omega (arith, few, long)) fit.key in
        let b : place_at (field_put t i f) (i * 4 + 2) ≡ f.value = put_same mid (i * 4 + 2) f.value l fit.value in
        rw (a, b)

    -- a field that is put is set among the fields
    pub fields_set : fields_from (field_put t i f) 0 256 ≡ set (fields_from t 0 256) i f
    fields_set = ext_get_or no_field (fields_from (field_put t i f) 0 256) (set (fields_from t 0 256) i f) (fields_length (field_put t i f) 0 256 ∙ sym (length-set (fields_from t 0 256) i f ∙ fields_length t 0 256)) each
      where
        each : (j : ℕ) → j < length (fields_from (field_put t i f) 0 256) → get_or (fields_from (field_put t i f) 0 256) j no_field ≡ get_or (set (fields_from t 0 256) i f) j no_field
        each j h = by (eqb j i) refl
          where
            l : j < 256
            l = rw (fields_length (field_put t i f) 0 256) at h

            by : (b : Bool) → eqb j i ≡ b → get_or (fields_from (field_put t i f) 0 256) j no_field ≡ get_or (set (fields_from t 0 256) i f) j no_field
            by true u =
                let e : j ≡ i = eqb-true _ _ u in
                let w : i < length (fields_from t 0 256) = rw (fields_length t 0 256) few in
                rw e (fields_at (field_put t i f) 256 i few ∙ field_same ∙ sym (get_or-set_same (fields_from t 0 256) i f no_field w))
            by false u =
                let n : j ≢ i = eqb-false _ _ u in
                fields_at (field_put t i f) 256 j l ∙ field_other j n ∙ sym (fields_at t 256 j l) ∙ sym (get_or-set_other (fields_from t 0 256) i j f no_field n)

-- the first fields of a table, those behind a number, and whether they are good
pub fields_take : (t : List ℕ) (i k n : ℕ) → n ≤ k → take n (fields_from t i k) ≡ fields_from t i n
unfolding fields_from
fields_take t i k zero h = refl
fields_take t i zero (suc n) h = absurd (omega (arith, h))
fields_take t i (suc k) (suc n) h = ap (λ (xs : List Field). field_at t i ∷ xs) (fields_take t (i + 1) k n (omega (arith, h)))

drop_behind : (t : List ℕ) (j k i : ℕ) → drop i (fields_from t j k) ≡ fields_from t (j + i) (k - i)
unfolding fields_from
drop_behind t j k zero = let e : j ≡ j + 0 = omega arith in let f : k ≡ k - 0 = omega arith in ap (λ (x : ℕ). fields_from t x k) e ∙ ap (fields_from t (j + 0)) f
drop_behind t j zero (suc i) = let e : 0 - suc i ≡ 0 = omega arith in rw e
drop_behind t j (suc k) (suc i) =
    let e : j + 1 + i ≡ j + suc i = omega arith in
    let f : k - i ≡ suc k - suc i = omega arith in
    drop_behind t (j + 1) k i ∙ ap (λ (x : ℕ). fields_from t x (k - i)) e ∙ ap (fields_from t (j + suc i)) f

pub drop_fields : (t : List ℕ) (n i : ℕ) → drop i (fields_from t 0 n) ≡ fields_from t i (n - i)
drop_fields t n i = let e : 0 + i ≡ i = omega arith in drop_behind t 0 n i ∙ ap (λ (x : ℕ). fields_from t x (n - i)) e

module _ (count mark : ℕ) (t : List ℕ) (n i : ℕ) where
  pub good_next : i < n → good_fields count mark (fields_from t i (n - i)) ≡ (good_field count mark (field_at t i) && good_fields count mark (fields_from t (i + 1) (n - (i + 1))))
  unfolding good_fields
  good_next h = rw (from_cons t n i h)

  pub good_end : n ≤ i → good_fields count mark (fields_from t i (n - i)) ≡ true
  unfolding good_fields
  good_end h = rw (from_end t n i h)

-- fields copied over the start of others
pub paste_lay : (l s : List Field) (n : ℕ) → n ≤ length s → paste l 0 s n ≡ lay l (take n s)
paste_lay l s n h = let e : 0 + n ≡ length (take n s) = omega (arith, length-take-le n s h) in ap (λ (k : ℕ). take n s ++ drop k l) e

-- a loop that copies them out of lent numbers
module _ (t : List ℕ) (l : List Field) (long : length l ≡ 256) where
  pub out_step : (u : List Field) (i : ℕ) (f : Field) → i < 256 → f ≡ field_at t i → u ≡ paste l 0 (table_of t) i → set u i f ≡ paste l 0 (table_of t) (i + 1)
  out_step u i f h e p =
      let a : 0 + i < length l = omega (arith, h, long) in
      let b : i < length (table_of t) = rw (fields_length t 0 256) h in
      let j : i ≡ 0 + i = omega arith in
      let g : f ≡ get_or (table_of t) i no_field = e ∙ sym (fields_at t 256 i h) in
      rw (p, g, add-one i) (ap (λ (k : ℕ). set (paste l 0 (table_of t) i) k (get_or (table_of t) i no_field)) j ∙ paste-suc l 0 (table_of t) i no_field a b)

  pub out_end : (u : List Field) (n i : ℕ) → n ≤ 256 → i ≤ n → n ≤ i → u ≡ paste l 0 (table_of t) i → u ≡ lay l (fields_from t 0 n)
  out_end u n i h a b p =
      let e : i ≡ n = omega (arith, a, b) in
      let w : n ≤ length (table_of t) = rw (fields_length t 0 256) h in
      p ∙ ap (paste l 0 (table_of t)) e ∙ paste_lay l (table_of t) n w ∙ ap (lay l) (fields_take t 0 256 n h)

-- the fields that count are those of the lent table, whatever the head says
module _ (t : List ℕ) (h : Head) where
  pub live_same : take h.fields (live_in t h).table ≡ take h.fields (table_of t)
  live_same = by (leb h.fields 256) refl
    where
      by : (b : Bool) → leb h.fields 256 ≡ b → take h.fields (live_in t h).table ≡ take h.fields (table_of t)
      by true u =
          let k : h.fields ≤ 256 = leb-true _ _ u in
          let e : min h.fields 256 ≡ h.fields = omega (arith, k) in
          rw e (take_at (fields_from t 0 h.fields) (drop (length (fields_from t 0 h.fields)) (replicate 256 no_field)) h.fields (fields_length t 0 h.fields) ∙ sym (fields_take t 0 256 h.fields k))
      by false u =
          let k : 256 < h.fields = leb-false _ _ u in
          let e : min h.fields 256 ≡ 256 = omega (arith, k) in
          rw (e, fields_length t 0 256, append-nil (fields_from t 0 256))

  pub live_length : length (live_in t h).table ≡ 256
  live_length =
      let xs = fields_from t 0 (min h.fields 256) in
      let a : length xs ≡ min h.fields 256 = fields_length t 0 (min h.fields 256) in
      omega (arith, a, length-append xs (drop (length xs) (replicate 256 no_field)), length-drop (length xs) (replicate 256 no_field), length-replicate 256 no_field)

-- one table of numbers for one of fields
module _ (from to : ℕ) where
  from_again : from_of (place_of from to) ≡ from
  unfolding place_of
  from_again = by_if (λ (p : Place). from_of p ≡ from) (ltb from store_mark) _ _ (λ _. refl) (λ u. let l : store_mark ≤ from = ltb-false _ _ u in omega (arith, l))

  to_again : to_of (place_of from to) ≡ to
  unfolding place_of
  to_again = by_if (λ (p : Place). to_of p ≡ to) (ltb from store_mark) _ _ (λ _. refl) (λ _. refl)

numbers_from : (t : List ℕ) (i k : ℕ) → length t ≡ (i + k) * 4 → numbers_of (fields_from t i k) ≡ drop (i * 4) t
unfolding fields_from numbers_of
numbers_from t i zero h = let l : length t ≤ i * 4 = omega (arith, h) in sym (drop_of_length-le t l)
numbers_from t i (suc k) h =
    let a : i * 4 < length t = omega (arith, h) in
    let b : i * 4 + 1 < length t = omega (arith, h) in
    let d : i * 4 + 2 < length t = omega (arith, h) in
    let e : i * 4 + 2 + 1 < length t = omega (arith, h) in
    let f : suc (i * 4) ≡ i * 4 + 1 = omega arith in
    let g : suc (i * 4 + 1) ≡ i * 4 + 2 = omega arith in
    let j : suc (i * 4 + 2) ≡ i * 4 + 2 + 1 = omega arith in
    let m : suc (i * 4 + 2 + 1) ≡ (i + 1) * 4 = omega arith in
    let n : length t ≡ (i + 1 + k) * 4 = omega (arith, h) in
    rw (
      from_again (get_or t (i * 4) 0) (get_or t (i * 4 + 1) 0),
      to_again (get_or t (i * 4) 0) (get_or t (i * 4 + 1) 0),
      from_again (get_or t (i * 4 + 2) 0) (get_or t (i * 4 + 2 + 1) 0),
      to_again (get_or t (i * 4 + 2) 0) (get_or t (i * 4 + 2 + 1) 0),
      drop-cons t (i * 4) 0 a,
      f,
      drop-cons t (i * 4 + 1) 0 b,
      g,
      drop-cons t (i * 4 + 2) 0 d,
      j,
      drop-cons t (i * 4 + 2 + 1) 0 e,
      m,
      numbers_from t (i + 1) k n,
    )

pub numbers_again : (t : List ℕ) → length t ≡ 1024 → numbers_of (table_of t) ≡ t
numbers_again t h = numbers_from t 0 256 h

-- a status by its kind
module _ (kind from to : ℕ) where
  pub status_absent : eqb kind 0 ≡ true → status_of kind from to ≡ None
  unfolding status_of
  status_absent e = if_true _ _ e

  pub status_block : eqb kind 0 ≡ false → eqb kind 1 ≡ true → status_of kind from to ≡ Some (in_block from to)
  unfolding status_of
  status_block e f = if_false _ _ e ∙ ap (λ (p : Place). Some p) (if_true _ _ f)

  pub status_store : eqb kind 0 ≡ false → eqb kind 1 ≡ false → status_of kind from to ≡ Some (in_store from to)
  unfolding status_of
  status_store e f = if_false _ _ e ∙ ap (λ (p : Place). Some p) (if_false _ _ f)

  -- what a sound one is
  module _ (w : sound_status kind from to ≡ true) where
    sound_absent : eqb kind 0 ≡ true → (from ≡ 0) × (to ≡ 0)
    unfolding sound_status
    sound_absent e =
        let f = sym (if_true _ _ e) ∙ w in
        (eqb-true _ _ (and_left (eqb from 0) (eqb to 0) f), eqb-true _ _ (and_right (eqb from 0) (eqb to 0) f))

    pub sound_at : eqb kind 0 ≡ false → (kind ≤ 2) × (from < 4294967296) × (to < 4294967296)
    unfolding sound_status
    sound_at e =
        let f = sym (if_false _ _ e) ∙ w in
        let g = and_right (leb kind 2) _ f in
        (leb-true _ _ (and_left (leb kind 2) _ f), ltb-true _ _ (and_left (ltb from 4294967296) _ g), ltb-true _ _ (and_right (ltb from 4294967296) _ g))

    status_again : (status_kind (status_of kind from to) ≡ kind) × (status_from (status_of kind from to) ≡ from) × (status_to (status_of kind from to) ≡ to)
    status_again = by (eqb kind 0) (eqb kind 1) refl refl
      where
        by : (a b : Bool) → eqb kind 0 ≡ a → eqb kind 1 ≡ b → (status_kind (status_of kind from to) ≡ kind) × (status_from (status_of kind from to) ≡ from) × (status_to (status_of kind from to) ≡ to)
        by true b e f =
            let z = sound_absent e in
            rw (status_absent e) (sym (eqb-true kind 0 e), sym z.0, sym z.1)
        by false true e f = rw (status_block e f) (sym (eqb-true kind 1 f), refl, refl)
        by false false e f =
            let k : kind ≤ 2 = (sound_at e).0 in
            let a : 0 < kind = lt_of_le-ne (omega arith) (λ u. eqb-false kind 0 e (sym u)) in
            let b : 1 < kind = lt_of_le-ne a (λ u. eqb-false kind 1 f (sym u)) in
            rw (status_store e f) (omega (arith, k, b), refl, refl)

-- a number that is 0 or 1
module _ (n : ℕ) (w : leb n 1 ≡ true) where
  zero_of : eqb n 1 ≡ false → 0 ≡ n
  zero_of e = let l : n < 1 = lt_of_le-ne (leb-true _ _ w) (eqb-false n 1 e) in omega (arith, l)

  flag_again : flag_of (eqb n 1) ≡ n
  flag_again = by (eqb n 1) refl
    where
      by : (b : Bool) → eqb n 1 ≡ b → flag_of b ≡ n
      by true e = sym (eqb-true n 1 e)
      by false e = zero_of e

  phase_again : phase_number (phase_of n) ≡ n
  phase_again = by_if (λ (p : Phase). phase_number p ≡ n) (eqb n 1) Reading Done (λ e. sym (eqb-true n 1 e)) zero_of

-- numbers written one by one
abbrev listed : List ℕ → ℕ → ℕ → List ℕ
listed n i zero = []
listed n i (suc k) = get_or n i 0 ∷ listed n (suc i) k

listed_all : (n : List ℕ) (i k : ℕ) → length n ≡ i + k → drop i n ≡ listed n i k
listed_all n i zero h = let l : length n ≤ i = omega (arith, h) in drop_of_length-le n l
listed_all n i (suc k) h =
    let l : i < length n = omega (arith, h) in
    let e : length n ≡ suc i + k = omega (arith, h) in
    drop-cons n i 0 l ∙ ap (λ (x : List ℕ). get_or n i 0 ∷ x) (listed_all n (suc i) k e)

-- thirteen numbers stored over thirteen
pub stored : (n v : List ℕ) → length n ≡ 13 → length v ≡ 13 → sets n 0 v ≡ v
stored n v h k =
    let l : 0 + length v ≤ length n = omega (arith, h, k) in
    let m : length n ≤ 0 + length v = omega (arith, h, k) in
    sets-eq v n 0 l ∙ rw (drop_of_length-le n m) (append-nil v)

-- what the tests of a head say
module _ (n : List ℕ) (w : sound_head n ≡ true) where
  pub head_long : length n ≡ 13
  unfolding sound_head
  head_long = eqb-true _ _ (and_left (eqb (length n) 13) _ w)

  abbrev flags : Bool
  flags = leb (get_or n 9 0) 1 && (leb (get_or n 10 0) 1 && (leb (get_or n 11 0) 1 && leb (get_or n 12 0) 1))

  head_tests : (sound_status (get_or n 6 0) (get_or n 7 0) (get_or n 8 0) && flags) ≡ true
  unfolding sound_head
  head_tests = and_right (eqb (length n) 13) _ w

  pub head_status : sound_status (get_or n 6 0) (get_or n 7 0) (get_or n 8 0) ≡ true
  head_status = and_left _ flags head_tests

  head_flags : flags ≡ true
  head_flags = and_right (sound_status (get_or n 6 0) (get_or n 7 0) (get_or n 8 0)) flags head_tests

  -- one list of numbers for one head
  pub head_again : head_numbers (head_of n) ≡ n
  head_again =
      let s = status_again (get_or n 6 0) (get_or n 7 0) (get_or n 8 0) head_status in
      let a = and_right (leb (get_or n 9 0) 1) _ head_flags in
      let b = and_right (leb (get_or n 10 0) 1) _ a in
      let f₉ = flag_again (get_or n 9 0) (and_left (leb (get_or n 9 0) 1) _ head_flags) in
      let f₁₀ = flag_again (get_or n 10 0) (and_left (leb (get_or n 10 0) 1) _ a) in
      let f₁₁ = flag_again (get_or n 11 0) (and_left (leb (get_or n 11 0) 1) _ b) in
      let p = phase_again (get_or n 12 0) (and_right (leb (get_or n 11 0) 1) _ b) in
      rw (s.0, s.1, s.2, f₉, f₁₀, f₁₁, p) (sym (listed_all n 0 13 head_long))

-- and those of a map
module _ (n t : List ℕ) (w : sound_map n t ≡ true) where
  pub sound_parts : (sound_head n ≡ true) × (length t ≡ 1024)
  unfolding sound_map
  sound_parts = (and_left (sound_head n) _ w, eqb-true _ _ (and_right (sound_head n) _ w))

  pub sound_long : (length n ≡ 13) × (length t ≡ 1024)
  sound_long = (head_long n sound_parts.0, sound_parts.1)

-- the tests of a place on its numbers as they stand
module _ (count mark from to : ℕ) where
  among_block : from < store_mark → good_place count mark (place_of from to) ≡ (leb from to && leb to count)
  unfolding place_of
  among_block h = ap (good_place count mark) (if_true (in_block from to) (in_store (from - store_mark) to) (lt-ltb _ _ h))

  among_store : store_mark ≤ from → good_place count mark (place_of from to) ≡ good_stored mark from to
  unfolding place_of good_stored
  among_store h = ap (good_place count mark) (if_false (in_block from to) (in_store (from - store_mark) to) (le-ltb _ _ h)) ∙ sym (if_false false (leb (from - store_mark) to && leb to mark) (le-ltb _ _ h))

  none_stored : from < store_mark → good_stored mark from to ≡ false
  unfolding good_stored
  none_stored h = if_true false (leb (from - store_mark) to && leb to mark) (lt-ltb _ _ h)

  pub place_plain : from ≤ to → to ≤ count → count ≤ 65536 → true ≡ good_place count mark (place_of from to)
  place_plain a b c =
      let h : from < store_mark = omega (arith, a, b, c) in
      sym (among_block h ∙ and_both _ _ (le-leb _ _ a) (le-leb _ _ b))

  -- a place that is not plainly the block's
  other_by : (leb from to && leb to count) ≡ false → (x : Bool) → ltb from store_mark ≡ x → good_stored mark from to ≡ good_place count mark (place_of from to)
  other_by e true h = none_stored (ltb-true _ _ h) ∙ sym (among_block (ltb-true _ _ h) ∙ e)
  other_by e false h = sym (among_store (ltb-false _ _ h))

  pub place_over : count < to → good_stored mark from to ≡ good_place count mark (place_of from to)
  place_over h = other_by (and_false (leb from to) (leb to count) (lt-leb _ _ h)) _ refl

  pub place_turned : to < from → good_stored mark from to ≡ good_place count mark (place_of from to)
  place_turned h = other_by (sym (and_stop (leb from to) (leb to count) (lt-leb _ _ h))) _ refl

-- a count that is good among good rooms
pub count_small : (limit room count mark line fields : ℕ) → good_rooms limit room ≡ true → good_counts limit room count mark line fields ≡ true → count ≤ 65536
count_small limit room count mark line fields r k =
    let a : limit ≤ 65536 = leb-true _ _ (and_left (leb limit 65536) _ r) in
    let b : count ≤ limit = leb-true _ _ (and_left (leb count limit) _ k) in
    omega (arith, a, b)
