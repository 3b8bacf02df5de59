-- Resume says append exactly if the second code is 206 and each map has one tag, not empty, the same octets. Assumes nothing.
use Rattle.leaves.specs.declared.refusals.Refusal.{Refusal}
use Rattle.std.specs.Prelude.{Err, None, Ok, Option, Result, Some}
use mathlib.Core.Path.{◌≡◌, refl, sym, ap, ◌∙◌}
use mathlib.Core.Bool.{Bool, true, false, false≢true}
use mathlib.Core.List.{List, [], ◌∷◌}
use Prim.Native.Nat.{ℕ}
use native.Mathlib.Omega.{arith}
use borrow.Author.Tests.{eqb-true}
use lib.ListN.{length}
use Rattle.leaves.proofs.ChoiceLaws.{if_true, if_false}
use Rattle.leaves.specs.Octets.{octets, same_list}
use Rattle.leaves.proofs.NameLaws.{same_list_refl, same_list_eq}
use Rattle.maps.specs.Good.{checked_done}
use Rattle.maps.specs.Said.{Said, text_of, saying}
use Rattle.maps.specs.declared.HeaderMap.{HeaderMap}
use Rattle.codes.specs.Line.{status_code}
use Rattle.codes.specs.Codes.{coding}
use Rattle.codes.proofs.MapLaws.{coding_says}
use Rattle.singles.specs.Single.{values_of, only_of}
use Rattle.resume.specs.Answers.{answer}
use Rattle.resume.specs.Resume.{is_partial, tag_of, tagged, resuming, Appends}
use Rattle.resume.proofs.ResumeLaws.{tags_first, tags_second, tags_same, tags_differ}
use Rattle.resume.specs.declared.Verdict.{Verdict}
use Rattle.resume.specs.declared.Verdict.TheVariants.{Append, NoTag, Differ, NotPartial}

-- whether a verdict is append
abbrev appends : Result Verdict Refusal → Bool
appends (Ok Append) = true
appends (Ok NoTag) = false
appends (Ok Differ) = false
appends (Ok NotPartial) = false
appends (Err x) = false

not_append : {A : Type 0} {r : Result Verdict Refusal} → appends r ≡ false → r ≡ Ok Append → A
not_append f e = absurd (false≢true (sym f ∙ ap appends e))

partial_code : (c : Option ℕ) → is_partial (Ok c) ≡ true → c ≡ Some 206
partial_code None e = absurd (false≢true e)
partial_code (Some n) e = ap Some (eqb-true n 206 e)

abbrev full : List ℕ → Bool
full [] = false
full (x ∷ xs) = true

-- a value that is not empty is the only one
only_filled : (vs : List (List ℕ)) (x : ℕ) (xs : List ℕ) → only_of vs ≡ x ∷ xs → vs ≡ (x ∷ xs) ∷ []
only_filled [] x xs e = absurd (false≢true (ap full e))
only_filled (v ∷ []) x xs e = ap (λ (t : List ℕ). t ∷ []) e
only_filled (v ∷ w ∷ ws) x xs e = absurd (false≢true (ap full e))

long : (v : ℕ) (vs : List ℕ) → length (v ∷ vs) ≡ 0 → ⊥
long v vs e = omega (arith, e)

same_tags : (t : List ℕ) → (t ≡ [] → ⊥) → tagged t t ≡ Ok Append
same_tags [] f = absurd (f refl)
same_tags (v ∷ vs) f = sym (tags_same (v ∷ vs) (v ∷ vs) (long v vs) (long v vs) (same_list_refl (v ∷ vs)))

module _ (x y : Said) where
  -- by the two tags
  from_tags : (t u : List ℕ) → tag_of x ≡ t → tag_of y ≡ u → status_code (text_of y.status) ≡ Some 206 → tagged t u ≡ Ok Append → Appends x y
  from_tags [] u p q c e = not_append {r = Ok NoTag} refl (tags_first [] u refl ∙ e)
  from_tags (v ∷ vs) [] p q c e = not_append {r = Ok NoTag} refl (tags_second (v ∷ vs) [] (long v vs) refl ∙ e)
  from_tags (v ∷ vs) (w ∷ ws) p q c e = by (same_list (v ∷ vs) (w ∷ ws)) refl
    where
      by : (b : Bool) → same_list (v ∷ vs) (w ∷ ws) ≡ b → Appends x y
      by true f =
          let s : w ∷ ws ≡ v ∷ vs = sym (same_list_eq (v ∷ vs) (w ∷ ws) f) in
          record {
            code = c;
            tag = v ∷ vs;
            first = only_filled (values_of (octets "ETag") x.pairs) v vs p;
            second = only_filled (values_of (octets "ETag") y.pairs) v vs (q ∙ s);
            not_empty = λ z. absurd (false≢true (ap full (sym z)));
          }
      by false f = not_append {r = Ok Differ} refl (tags_differ (v ∷ vs) (w ∷ ws) (long v vs) (long w ws) f ∙ e)

  -- the values of a name that one field has
  tag_is : (x : Said) (t : List ℕ) → values_of (octets "ETag") x.pairs ≡ t ∷ [] → tag_of x ≡ t
  tag_is x t e = ap only_of e

  to_tags : (a : Appends x y) → tagged (tag_of x) (tag_of y) ≡ Ok Append
  to_tags a =
      ap (λ (l : List ℕ). tagged l (tag_of y)) (tag_is x a.tag a.first) ∙ ap (tagged a.tag) (tag_is y a.tag a.second) ∙
      same_tags a.tag a.not_empty

module _ (m : HeaderMap) (b s : List ℕ) (k : HeaderMap) (c z : List ℕ) (e : Ok tt ≡ checked_done m b s) (f : Ok tt ≡ checked_done k c z) where
  pub append_tells : resuming m b s k c z ≡ answer 0 → Appends (saying m b s) (saying k c z)
  unfolding resuming
  append_tells h = by (is_partial (coding k c z)) refl
    where
      by : (t : Bool) → is_partial (coding k c z) ≡ t → Appends (saying m b s) (saying k c z)
      by true p =
          from_tags (saying m b s) (saying k c z) _ _ refl refl (partial_code _ (ap is_partial (sym (coding_says k c z f)) ∙ p))
          (rw (sym e, sym f) (sym (if_true _ _ p)) ∙ h)
      by false p = not_append {r = Ok NotPartial} refl (rw (sym e, sym f) (sym (if_false _ _ p)) ∙ h)

  pub append_told : Appends (saying m b s) (saying k c z) → resuming m b s k c z ≡ answer 0
  unfolding resuming
  append_told a =
      let p : is_partial (coding k c z) ≡ true = ap is_partial (coding_says k c z f ∙ ap Ok a.code) in
      rw (sym e, sym f) (if_true _ _ p ∙ to_tags (saying m b s) (saying k c z) a)
