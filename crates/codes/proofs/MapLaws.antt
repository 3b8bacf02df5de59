-- What the calls for status code, reason, content length and record type give, case by case. Assumes nothing.
use Rattle.maps.specs.declared.Place.{Place}
use Rattle.std.specs.Prelude.{Err, None, Ok, Option, Result, Some, is_some}
use mathlib.Core.Path.{◌≡◌, refl, sym, ap, ◌∙◌}
use mathlib.Core.List.{List, []}
use Prim.Native.Nat.{ℕ, ◌+◌}
use lib.ListN.{drop}
use Rattle.standard.specs.Names.{name_of}
use Rattle.leaves.specs.Number.{content_length}
use Rattle.standard.specs.Types.{type_code}
use Rattle.standard.specs.declared.names.WarcHeader.TheVariants.{WarcType, ContentLength}
use Rattle.leaves.specs.declared.refusals.Refusal.{Refusal}
use Rattle.maps.specs.Good.{checked_done}
use Rattle.maps.specs.Places.{Same}
use Rattle.maps.specs.declared.HeaderMap.{HeaderMap}
use Rattle.lookups.specs.Lookups.{finding, status_in, status_place, value_place, handed_out, Handed}
use Rattle.maps.specs.Said.{text_of, saying}
use Rattle.lookups.proofs.HandLaws.{status_fine, text_says}
use Rattle.codes.specs.Line.{status_code, reason_start, thence}
use Rattle.codes.specs.Codes.{status_text, coding, reasoning, Phrased, length_of, kind_of}

-- there is a reason where it starts
phrase_told : (l : List ℕ) (o : Option ℕ) → is_some o ≡ is_some (thence o (λ k. Some (drop k l)))
phrase_told l None = refl
phrase_told l (Some k) = refl

module _ (m : HeaderMap) (b s : List ℕ) where
  pub code_refused : (x : Refusal) → Err x ≡ checked_done m b s → Err x ≡ coding m b s
  unfolding coding
  code_refused x e = rw (sym e)

  pub phrase_refused : (x : Refusal) → Err x ≡ checked_done m b s → Err x ≡ reasoning m b s
  unfolding reasoning
  phrase_refused x e = rw (sym e)

  module _ (e : Ok tt ≡ checked_done m b s) (t : List ℕ) (f : t ≡ handed_out b s (status_in m.status)) where
    text_fine : t ≡ status_text m b s
    text_fine = f ∙ ap (λ (x : Option Place). handed_out b s (status_in x)) (sym (status_fine m b s e))

    pub code_fine : (c : Result (Option ℕ) Refusal) → c ≡ Ok (status_code t) → c ≡ coding m b s
    unfolding coding
    code_fine c h = rw (sym e) (h ∙ ap (λ (l : List ℕ). Ok (status_code l)) text_fine)

    pub phrase_is : Ok (is_some (reason_start t)) ≡ reasoning m b s
    unfolding reasoning
    phrase_is = rw (sym e, ← text_fine) (ap Ok (phrase_told t (reason_start t)))

  -- the code is that of what the map says
  pub coding_says : Ok tt ≡ checked_done m b s → coding m b s ≡ Ok (status_code (text_of (saying m b s).status))
  unfolding coding
  coding_says e = rw (sym e) (ap (λ (l : List ℕ). Ok (status_code l)) (text_says m b s e))

  -- the reason that is handed out
  module _ (x y : ℕ × ℕ) (t : List ℕ) (w : ℕ × ℕ) (h : Handed b s x y (status_place m b s) t w) (r : List ℕ) (z : ℕ × ℕ) where
    pub phrased_at : (k : ℕ) → reason_start t ≡ Some k → r ≡ drop k t → Same z (w.0, w.1 + k) → Phrased m b s x y r z
    phrased_at k e p q =
        let f : reason_start (status_text m b s) ≡ Some k = ap reason_start (sym h.is) ∙ e in
        record {
          is = rw f (p ∙ ap (drop k) h.is);
          lies = rw f (q.0 ∙ h.lies.0, q.1 ∙ ap (λ (n : ℕ). n + k) h.lies.1);
        }

    pub phrased_none : reason_start t ≡ None → r ≡ [] → Same z x → Phrased m b s x y r z
    phrased_none e p q =
        let f : reason_start (status_text m b s) ≡ None = ap reason_start (sym h.is) ∙ e in
        record { is = rw f p; lies = rw f q }

  -- by what the lookup found
  module _ (i : ℕ) (v : List ℕ) (n : ℕ) (p : v ≡ handed_out b s (value_place m b s i)) where
    pub length_found : finding m b s (name_of ContentLength) 0 ≡ Ok (Some i) → n ≡ content_length v → Ok (Some n) ≡ length_of m b s
    unfolding length_of
    length_found e q = rw e (ap (λ x. Ok (Some x)) (q ∙ ap content_length p))

    pub kind_found : finding m b s (name_of WarcType) 0 ≡ Ok (Some i) → n ≡ type_code v → Ok n ≡ kind_of m b s
    unfolding kind_of
    kind_found e q = rw e (ap Ok (q ∙ ap type_code p))

  pub length_missing : finding m b s (name_of ContentLength) 0 ≡ Ok None → Ok None ≡ length_of m b s
  unfolding length_of
  length_missing e = rw e

  pub length_refused : (x : Refusal) → finding m b s (name_of ContentLength) 0 ≡ Err x → Err x ≡ length_of m b s
  unfolding length_of
  length_refused x e = rw e

  pub kind_missing : finding m b s (name_of WarcType) 0 ≡ Ok None → Ok 0 ≡ kind_of m b s
  unfolding kind_of
  kind_missing e = rw e

  pub kind_refused : (x : Refusal) → finding m b s (name_of WarcType) 0 ≡ Err x → Err x ≡ kind_of m b s
  unfolding kind_of
  kind_refused x e = rw e
