-- What one pass over the fields sees is what its values open. Assumes nothing.
use mathlib.Core.Path.{◌≡◌, refl, sym, ap, ◌∙◌}
use mathlib.Core.Bool.{Bool, true, false}
use mathlib.Core.List.{List, [], ◌∷◌, ◌++◌}
use Prim.Native.Nat.{ℕ, suc, ◌+◌, ◌-◌, ◌≤◌, ◌<◌}
use native.Mathlib.Omega.{arith}
use native.Mathlib.Numerals.{add-one}
use borrow.Author.Tests.{eq-eqb, ne_eqb, eqb-true, eqb-false}
use lib.Dec.{eqb}
use lib.ListN.{length, get_or, take, drop, length-take, length-drop}
use lib.Seq.{drop-cons, get_or-take}
use Rattle.leaves.proofs.ChoiceLaws.{if_true, if_false, clash}
use Rattle.leaves.specs.Choice.{when◌then◌else◌}
use Rattle.leaves.specs.Name.{same_name}
use Rattle.standard.specs.Names.{name_of}
use Rattle.standard.specs.declared.names.WarcHeader.TheVariants.{WarcType, ContentLength}
use Rattle.maps.specs.Places.{at, no_field}
use Rattle.maps.specs.declared.Field.{Field}
use Rattle.lookups.specs.Lookups.{named}
use Rattle.singles.specs.Single.{only_of}
use Rattle.singles.proofs.FieldLaws.{worth, values_hit, values_skip, no_values}
use Rattle.openings.specs.Opening.{type_of}
use Rattle.openings.specs.Sights.{unseen, nothing, again, seen, noted, sighted, passed, length_text, kind_code}
use Rattle.openings.specs.declared.Sight.{Sight}
use Rattle.openings.specs.declared.Sights.{Sights}

module _ (z : Sight) (i : ℕ) where
  pub again_first : z.times ≡ 0 → record { at = i; times = 1 } ≡ again z i
  unfolding again
  again_first h = sym (if_true _ _ (eq-eqb _ _ h))

  pub again_more : (z.times ≡ 0 → ⊥) → record { at = z.at; times = 2 } ≡ again z i
  unfolding again
  again_more h = sym (if_false _ _ (ne_eqb _ _ h))

  again_near : z.at ≤ 255 → i ≤ 255 → (again z i).at ≤ 255
  again_near h k = choose (eqb z.times 0) refl
    where
      choose : (t : Bool) → eqb z.times 0 ≡ t → (again z i).at ≤ 255
      choose true e = rw (← again_first (eqb-true _ _ e)) k
      choose false e = rw (← again_more (eqb-false _ _ e)) h

  pub seen_near : (t : Bool) → z.at ≤ 255 → i ≤ 255 → (seen z t i).at ≤ 255
  seen_near true h k = again_near h k
  seen_near false h k = h

-- a loop over fields that has seen those before number i
pub record Passing (b s : List ℕ) (xs : List Field) (z : Sights) (i : ℕ) : Type 0 where
  pub same : passed b s nothing 0 xs ≡ passed b s z i (drop i xs)
  pub near : z.length.at ≤ 255
  pub far : z.kind.at ≤ 255

module _ (p : Field → Bool) (z : Sight) (i : ℕ) where
  pub sighted_none : sighted p z i [] ≡ z
  unfolding sighted
  sighted_none = refl

  pub sighted_more : (x : Field) (xs : List Field) → sighted p z i (x ∷ xs) ≡ sighted p (seen z (p x) i) (i + 1) xs
  unfolding sighted
  sighted_more x xs = refl

module _ (b s : List ℕ) (xs : List Field) where
  pub passing_start : Passing b s xs nothing 0
  passing_start = record { same = refl; near = omega arith; far = omega arith }

  module _ (z : Sights) (i : ℕ) where
    noted_is : (x : Field) (ys : List Field) → passed b s z i (x ∷ ys) ≡ passed b s (noted z (at b s x.key) i) (i + 1) ys
    unfolding named
    noted_is x ys = rw (sighted_more (named b s (name_of ContentLength)) z.length i x ys, sighted_more (named b s (name_of WarcType)) z.kind i x ys)

    pub passing_more : Passing b s xs z i → i ≤ 255 → (x : Field) → drop i xs ≡ x ∷ drop (i + 1) xs
        → (key : List ℕ) → key ≡ at b s x.key → (y : Sights) → y ≡ noted z key i → Passing b s xs y (i + 1)
    passing_more h k x e key f y g =
        let w : y ≡ noted z (at b s x.key) i = g ∙ ap (λ (l : List ℕ). noted z l i) f in
        record {
          same = h.same ∙ ap (passed b s z i) e ∙ noted_is x (drop (i + 1) xs) ∙ ap (λ (u : Sights). passed b s u (i + 1) (drop (i + 1) xs)) (sym w);
          near = rw w (seen_near z.length i (same_name (at b s x.key) (name_of ContentLength)) h.near k);
          far = rw w (seen_near z.kind i (same_name (at b s x.key) (name_of WarcType)) h.far k);
        }

    pub passing_end : Passing b s xs z i → drop i xs ≡ [] → passed b s nothing 0 xs ≡ z
    passing_end h e = h.same ∙ ap (passed b s z i) e ∙ rw (sighted_none (named b s (name_of ContentLength)) z.length i, sighted_none (named b s (name_of WarcType)) z.kind i)

-- the first value, twice if there are more
abbrev brief : List (List ℕ) → List (List ℕ)
brief [] = []
brief (v ∷ []) = v ∷ []
brief (v ∷ w ∷ ws) = v ∷ v ∷ []

only_brief : (vs : List (List ℕ)) → only_of (brief vs) ≡ only_of vs
only_brief [] = refl
only_brief (v ∷ []) = refl
only_brief (v ∷ w ∷ ws) = refl

type_brief : (vs : List (List ℕ)) → type_of (brief vs) ≡ type_of vs
type_brief [] = refl
type_brief (v ∷ []) = refl
type_brief (v ∷ w ∷ ws) = refl

-- as many values as a sight tells
unfoldable told : Sight → List ℕ → List (List ℕ)
told z v = when eqb z.times 0 then [] else when eqb z.times 1 then v ∷ [] else v ∷ v ∷ []

module _ (z : Sight) (v : List ℕ) where
  told_none : eqb z.times 0 ≡ true → told z v ≡ []
  unfolding told
  told_none e = if_true _ _ e

  told_one : eqb z.times 0 ≡ false → eqb z.times 1 ≡ true → told z v ≡ v ∷ []
  unfolding told
  told_one e f = if_false _ _ e ∙ if_true _ _ f

  told_two : eqb z.times 0 ≡ false → eqb z.times 1 ≡ false → told z v ≡ v ∷ v ∷ []
  unfolding told
  told_two e f = if_false _ _ e ∙ if_false _ _ f

-- by how often a name was seen
by_times : (P : Type 0) (z : Sight) → (eqb z.times 0 ≡ true → P) → (eqb z.times 0 ≡ false → eqb z.times 1 ≡ true → P)
    → (eqb z.times 0 ≡ false → eqb z.times 1 ≡ false → P) → P
by_times P z none one two = choose (eqb z.times 0) refl (eqb z.times 1) refl
  where
    choose : (t : Bool) → eqb z.times 0 ≡ t → (u : Bool) → eqb z.times 1 ≡ u → P
    choose true e u f = none e
    choose false e true f = one e f
    choose false e false f = two e f

told_brief : (z : Sight) (v : List ℕ) → told z v ≡ brief (told z v ++ [])
told_brief z v =
    by_times _ z (λ e. rw (told_none z v e)) (λ e f. rw (told_one z v e f)) (λ e f. rw (told_two z v e f))

-- one more value
told_again : (z : Sight) (i : ℕ) (u v w : List ℕ) (vs : List (List ℕ)) → (eqb z.times 0 ≡ true → u ≡ v) → (eqb z.times 0 ≡ false → u ≡ w)
    → brief (told (again z i) u ++ vs) ≡ brief (told z w ++ v ∷ vs)
told_again z i u v w vs g h = choose (eqb z.times 0) refl
  where
    twice : (k : ℕ) → told (record { at = k; times = 2 }) u ≡ u ∷ u ∷ []
    twice k = told_two (record { at = k; times = 2 }) u refl refl

    two : eqb z.times 0 ≡ false → brief (told z w ++ v ∷ vs) ≡ w ∷ w ∷ []
    two e = by_times _ z (λ f. clash (cc)) (λ e f. rw (told_one z w e f)) (λ e f. rw (told_two z w e f))

    choose : (t : Bool) → eqb z.times 0 ≡ t → brief (told (again z i) u ++ vs) ≡ brief (told z w ++ v ∷ vs)
    choose true e =
        let x : told (again z i) u ≡ u ∷ [] = rw (← again_first z i (eqb-true z.times 0 e)) (told_one (record { at = i; times = 1 }) u refl refl) in
        ap (λ (l : List (List ℕ)). brief (l ++ vs)) x ∙ ap (λ (y : List ℕ). brief (y ∷ vs)) (g e) ∙ sym (ap (λ (l : List (List ℕ)). brief (l ++ v ∷ vs)) (told_none z w e))
    choose false e =
        let x : told (again z i) u ≡ u ∷ u ∷ [] = rw (← again_more z i (eqb-false z.times 0 e)) (twice z.at) in
        ap (λ (l : List (List ℕ)). brief (l ++ vs)) x ∙ ap (λ (y : List ℕ). y ∷ y ∷ []) (h e) ∙ sym (two e)

-- the fields of a name among the first n of a table
module _ (b s name : List ℕ) (t : List Field) (n : ℕ) where
  abbrev value_of : Sight → List ℕ
  value_of z = at b s (get_or t z.at no_field).value

  head_is : (i : ℕ) (x : Field) (ys : List Field) → x ∷ ys ≡ drop i (take n t) → (x ≡ get_or t i no_field) × (ys ≡ drop (i + 1) (take n t))
  head_is i x ys e =
      let l : suc (length ys) ≡ length (take n t) - i = ap length e ∙ length-drop i (take n t) in
      let k : i < length (take n t) = omega arith in
      let h : i < n = omega (arith, length-take n t) in
      let d : x ∷ ys ≡ get_or (take n t) i no_field ∷ drop (suc i) (take n t) = e ∙ drop-cons (take n t) i no_field k in
      let f : x ≡ get_or (take n t) i no_field = cc in
      let g : ys ≡ drop (suc i) (take n t) = cc in
      (f ∙ get_or-take n t i no_field h, rw add-one g)

  abbrev p : Field → Bool
  p = named b s name

  -- what was seen of them, briefly
  sighted_told : (ys : List Field) (z : Sight) (i : ℕ) → ys ≡ drop i (take n t)
      → told (sighted p z i ys) (value_of (sighted p z i ys)) ≡ brief (told z (value_of z) ++ worth b s name ys)
  sighted_told [] z i e = rw (sighted_none p z i, no_values b s name) (told_brief z (value_of z))
  sighted_told (x ∷ ys) z i e = choose (p x) refl (λ y. sighted_told ys y (i + 1) (head_is i x ys e).1)
    where
      on : (r : Bool) → p x ≡ r → sighted p z i (x ∷ ys) ≡ sighted p (seen z r i) (i + 1) ys
      on r f = sighted_more p z i x ys ∙ ap (λ (q : Bool). sighted p (seen z q i) (i + 1) ys) f

      first : eqb z.times 0 ≡ true → value_of (again z i) ≡ at b s x.value
      first f = ap value_of (sym (again_first z i (eqb-true z.times 0 f))) ∙ ap (λ (y : Field). at b s y.value) (sym (head_is i x ys e).0)

      more : eqb z.times 0 ≡ false → value_of (again z i) ≡ value_of z
      more f = ap value_of (sym (again_more z i (eqb-false z.times 0 f)))

      choose : (r : Bool) → p x ≡ r → ((y : Sight) → told (sighted p y (i + 1) ys) (value_of (sighted p y (i + 1) ys)) ≡ brief (told y (value_of y) ++ worth b s name ys))
          → told (sighted p z i (x ∷ ys)) (value_of (sighted p z i (x ∷ ys))) ≡ brief (told z (value_of z) ++ worth b s name (x ∷ ys))
      choose true f ih =
          ap (λ (y : Sight). told y (value_of y)) (on true f) ∙ ih (again z i) ∙
          told_again z i (value_of (again z i)) (at b s x.value) (value_of z) (worth b s name ys) first more ∙
          ap (λ (vs : List (List ℕ)). brief (told z (value_of z) ++ vs)) (sym (values_hit b s name x ys f))
      choose false f ih =
          ap (λ (y : Sight). told y (value_of y)) (on false f) ∙ ih z ∙
          ap (λ (vs : List (List ℕ)). brief (told z (value_of z) ++ vs)) (sym (values_skip b s name x ys f))

  abbrev end : Sight
  end = sighted p unseen 0 (take n t)

  told_all : told end (value_of end) ≡ brief (worth b s name (take n t))
  told_all = sighted_told (take n t) unseen 0 refl ∙ ap (λ (vs : List (List ℕ)). brief (vs ++ worth b s name (take n t))) (told_none unseen (value_of unseen) refl)

  length_of_lem : (z : Sight) → length_text b s z.times (get_or t z.at no_field).value ≡ only_of (told z (value_of z))
  unfolding length_text
  length_of_lem z =
      by_times _ z (λ e. if_false _ _ (ap (λ (k : ℕ). eqb k 1) (eqb-true z.times 0 e)) ∙ sym (ap only_of (told_none z (value_of z) e)))
      (λ e f. if_true _ _ f ∙ sym (ap only_of (told_one z (value_of z) e f))) (λ e f. if_false _ _ f ∙ sym (ap only_of (told_two z (value_of z) e f)))

  kind_of_lem : (z : Sight) → kind_code b s z.times (get_or t z.at no_field).value ≡ type_of (told z (value_of z))
  unfolding kind_code
  kind_of_lem z =
      by_times _ z (λ e. if_true _ _ e ∙ sym (ap type_of (told_none z (value_of z) e)))
      (λ e f. if_false _ _ e ∙ sym (ap type_of (told_one z (value_of z) e f))) (λ e f. if_false _ _ e ∙ sym (ap type_of (told_two z (value_of z) e f)))

  -- the value of the only one
  pub only_seen : length_text b s end.times (get_or t end.at no_field).value ≡ only_of (worth b s name (take n t))
  only_seen = length_of_lem end ∙ ap only_of told_all ∙ only_brief (worth b s name (take n t))

  -- the type that the first one says
  pub type_seen : kind_code b s end.times (get_or t end.at no_field).value ≡ type_of (worth b s name (take n t))
  type_seen = kind_of_lem end ∙ ap type_of told_all ∙ type_brief (worth b s name (take n t))
