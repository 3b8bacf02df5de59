-- What a header opens, case by case. Assumes nothing.
use Rattle.std.specs.Prelude.{Err, None, Ok, Option, Some}
use mathlib.Core.Path.{◌≡◌, refl, sym, ap, ◌∙◌}
use mathlib.Core.Bool.{Bool, true, false}
use mathlib.Core.List.{List, []}
use Prim.Native.Nat.{ℕ, min, ◌≤◌, ◌<◌}
use native.Mathlib.Omega.{arith}
use borrow.Author.Tests.{le-leb, lt-leb, leb-true, leb-false}
use lib.Dec.{leb}
use Rattle.leaves.proofs.ChoiceLaws.{if_true, if_false, and_left, and_right}
use Rattle.leaves.specs.Octets.{same_list}
use Rattle.leaves.specs.Number.{decimal, is_decimal, content_length}
use Rattle.leaves.specs.Trim.{trimmed, trim_end, trim_start, leading}
use Rattle.leaves.specs.declared.refusals.Refusal.{Refusal}
use Rattle.leaves.specs.declared.refusals.Refusal.TheVariants.{BadVersion, BadLength}
use Rattle.standard.specs.Names.{name_of}
use Rattle.standard.specs.declared.names.WarcHeader.TheVariants.{WarcType, ContentLength}
use Rattle.maps.specs.Places.{at}
use Rattle.maps.specs.Good.{checked_done}
use Rattle.maps.specs.declared.Place.{Place}
use Rattle.maps.specs.declared.HeaderMap.{HeaderMap}
use Rattle.maps.proofs.GoodLaws.{goes_on, refused_by}
use Rattle.maps.specs.Said.{Said, text_of, saying}
use Rattle.openings.specs.Opening.{longest, version_text, is_version, is_length, type_of, opened, opening}
use Rattle.openings.specs.Sights.{spotted, length_text, kind_code, opened_by, opened_at}
use Rattle.openings.specs.declared.Spots.{Spots}
use Rattle.openings.proofs.SightLaws.{only_seen, type_seen}
use Rattle.singles.specs.Single.{values_of, only_value}

-- a number that is capped by what fits 64 bits
module _ (v : List ℕ) (n : ℕ) (d : is_decimal v ≡ true) (e : n ≡ content_length v) where
  capped : n ≡ min (decimal v) 18446744073709551615
  unfolding content_length
  capped = e ∙ rw d

  pub length_fits : n ≤ longest → is_length v ≡ true
  length_fits h =
      let c : n ≡ min (decimal v) 18446744073709551615 = capped in
      let k : leb (decimal v) longest ≡ true = le-leb (decimal v) longest (omega arith) in
      rw (d, k)

  pub length_over : longest < n → is_length v ≡ false
  length_over h =
      let c : n ≡ min (decimal v) 18446744073709551615 = capped in
      let k : leb (decimal v) longest ≡ false = lt-leb (decimal v) longest (omega arith) in
      rw (d, k)

leb_over : (n : ℕ) → leb n longest ≡ false → longest < n
leb_over n f = leb-false n longest f

pub length_tested : (v : List ℕ) (n : ℕ) → is_decimal v ≡ true → n ≡ content_length v → leb n longest ≡ is_length v
length_tested v n d e = choose (leb n longest) refl
  where
    choose : (t : Bool) → leb n longest ≡ t → leb n longest ≡ is_length v
    choose true f = f ∙ sym (length_fits v n d e (leb-true n longest f))
    choose false f = f ∙ sym (length_over v n d e (leb_over n f))

pub length_is : (v : List ℕ) (n : ℕ) → is_length v ≡ true → n ≡ content_length v → n ≡ decimal v
length_is v n t e =
    let d = and_left (is_decimal v) (leb (decimal v) longest) t in
    let k : decimal v ≤ longest = leb-true (decimal v) longest (and_right (is_decimal v) (leb (decimal v) longest) t) in
    let c : n ≡ min (decimal v) 18446744073709551615 = capped v n d e in
    omega arith

-- what texts open
module _ (t v : List ℕ) (k : ℕ) (x : List ℕ) (e : x ≡ trimmed t) where
  pub texts_nine : version_text x ≡ false → Err BadVersion ≡ opened_by t v k
  unfolding opened_by
  texts_nine f = sym (if_false _ _ (ap version_text (sym e) ∙ f))

  module _ (f : version_text x ≡ true) where
    pub texts_ten : is_length v ≡ false → Err BadLength ≡ opened_by t v k
    unfolding opened_by
    texts_ten g = sym (if_true _ _ (ap version_text (sym e) ∙ f) ∙ if_false _ _ g)

    pub texts_record : is_length v ≡ true → (n : ℕ) → n ≡ content_length v → Ok (n, k) ≡ opened_by t v k
    unfolding opened_by
    texts_record g n h = ap (λ (d : ℕ). Ok (d, k)) (length_is v n g h) ∙ sym (if_true _ _ (ap version_text (sym e) ∙ f) ∙ if_true _ _ g)

module _ (b s : List ℕ) (z : Spots) where
  pub spots_nine : Err BadVersion ≡ opened_at b s None z
  unfolding opened_at trim_end trim_start leading same_list
  spots_nine = texts_nine [] (length_text b s z.lengths z.length) (kind_code b s z.kinds z.kind) (trimmed []) refl refl

  pub spots_texts : (p : Place) (t v : List ℕ) (k : ℕ) → t ≡ at b s p → v ≡ length_text b s z.lengths z.length → k ≡ kind_code b s z.kinds z.kind
      → opened_by t v k ≡ opened_at b s (Some p) z
  unfolding opened_at
  spots_texts p t v k e f g = rw (e, f, g)

version_by : (x : Option (List ℕ)) → version_text (trimmed (text_of x)) ≡ is_version x
unfolding same_list trim_end trim_start leading
version_by None = refl
version_by (Some t) = refl

opened_by_lem : (x : Said) (v : List ℕ) (k : ℕ) → v ≡ only_value (name_of ContentLength) x → k ≡ type_of (values_of (name_of WarcType) x.pairs)
    → opened_by (text_of x.status) v k ≡ opened x
unfolding opened_by opened
opened_by_lem x v k e f = rw (version_by x.status, e, f)

module _ (m : HeaderMap) (b s : List ℕ) where
  -- a pass over the fields finds what a map opens
  pub opened_spots : opened_at b s m.status (spotted b s m.table m.fields) ≡ opened (saying m b s)
  unfolding opened_at spotted saying
  opened_spots =
      opened_by_lem (saying m b s) _ _ (only_seen b s (name_of ContentLength) m.table m.fields) (type_seen b s (name_of WarcType) m.table m.fields)

  pub opening_goes : Ok tt ≡ checked_done m b s → opening m b s ≡ opened (saying m b s)
  unfolding opening
  opening_goes e = goes_on Err _ _ e

  pub opening_refused : (x : Refusal) → Err x ≡ checked_done m b s → opening m b s ≡ Err x
  unfolding opening
  opening_refused x e = refused_by Err _ _ x e
