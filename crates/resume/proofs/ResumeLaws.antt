-- The resume check, case by case. Assumes nothing.
use Rattle.std.specs.Prelude.{Err, Ok, Result}
use mathlib.Core.Path.{◌≡◌, sym, ap, ◌∙◌}
use mathlib.Core.Bool.{true, false}
use mathlib.Core.List.{List}
use Prim.Native.Nat.{ℕ}
use borrow.Author.Tests.{eq-eqb, ne_eqb}
use lib.ListN.{length}
use Rattle.leaves.specs.Choice.{when◌then◌else◌}
use Rattle.leaves.proofs.ChoiceLaws.{if_true, if_false}
use Rattle.leaves.specs.Octets.{octets, same_list}
use Rattle.leaves.specs.declared.refusals.Refusal.{Refusal}
use Rattle.maps.specs.Good.{checked_done}
use Rattle.maps.specs.declared.HeaderMap.{HeaderMap}
use Rattle.maps.specs.Said.{saying}
use Rattle.singles.specs.Single.{single}
use Rattle.singles.proofs.FieldLaws.{single_is}
use Rattle.codes.specs.Codes.{coding}
use Rattle.resume.specs.Resume.{is_partial, tag_of, tagged, resuming}
use Rattle.resume.specs.declared.Verdict.{Verdict}
use Rattle.resume.specs.declared.Verdict.TheVariants.{Append, NoTag, Differ, NotPartial}

module _ (m : HeaderMap) (b s : List ℕ) where
  module _ (k : HeaderMap) (c z : List ℕ) where
    pub resume_first : (x : Refusal) → Err x ≡ checked_done m b s → Err x ≡ resuming m b s k c z
    unfolding resuming
    resume_first x e = rw (sym e)

    module _ (e : Ok tt ≡ checked_done m b s) where
      pub resume_second : (x : Refusal) → Err x ≡ checked_done k c z → Err x ≡ resuming m b s k c z
      unfolding resuming
      resume_second x f = rw (sym e, sym f)

      module _ (f : Ok tt ≡ checked_done k c z) where
        pub resume_whole : is_partial (coding k c z) ≡ false → Ok NotPartial ≡ resuming m b s k c z
        unfolding resuming when◌then◌else◌
        resume_whole h = rw (sym e, sym f, h)

        pub resume_tags : is_partial (coding k c z) ≡ true → (x y : List ℕ) → x ≡ single m b s (octets "ETag") → y ≡ single k c z (octets "ETag")
            → (r : Result Verdict Refusal) → r ≡ tagged x y → r ≡ resuming m b s k c z
        unfolding resuming when◌then◌else◌
        resume_tags h x y p q r d =
            let t : x ≡ tag_of (saying m b s) = p ∙ single_is m b s (octets "ETag") e in
            let u : y ≡ tag_of (saying k c z) = q ∙ single_is k c z (octets "ETag") f in
            rw (sym e, sym f, h) (d ∙ ap (λ (z : List ℕ). tagged z y) t ∙ ap (tagged (tag_of (saying m b s))) u)

-- the two tags
module _ (x y : List ℕ) where
  pub tags_first : length x ≡ 0 → Ok NoTag ≡ tagged x y
  unfolding tagged
  tags_first h = sym (if_true _ _ (eq-eqb _ _ h))

  module _ (h : length x ≡ 0 → ⊥) where
    pub tags_second : length y ≡ 0 → Ok NoTag ≡ tagged x y
    unfolding tagged
    tags_second k = sym (if_false _ _ (ne_eqb _ _ h) ∙ if_true _ _ (eq-eqb _ _ k))

    module _ (k : length y ≡ 0 → ⊥) where
      pub tags_same : same_list x y ≡ true → Ok Append ≡ tagged x y
      unfolding tagged
      tags_same e = sym (if_false _ _ (ne_eqb _ _ h) ∙ if_false _ _ (ne_eqb _ _ k) ∙ if_true _ _ e)

      pub tags_differ : same_list x y ≡ false → Ok Differ ≡ tagged x y
      unfolding tagged
      tags_differ e = sym (if_false _ _ (ne_eqb _ _ h) ∙ if_false _ _ (ne_eqb _ _ k) ∙ if_false _ _ e)
