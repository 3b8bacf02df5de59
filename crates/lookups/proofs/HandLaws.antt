-- What is handed out, case by case. Assumes nothing.
use Rattle.std.specs.Prelude.{Err, None, Ok, Option, Result, Some, ⊤}
use mathlib.Core.Path.{◌≡◌, refl, sym, ◌∙◌}
use mathlib.Core.Bool.{Bool, true, false}
use mathlib.Core.List.{List, []}
use Prim.Native.Nat.{ℕ, ◌≤◌, ◌<◌}
use native.Mathlib.Omega.{arith}
use lib.Dec.{ltb}
use borrow.Author.Tests.{lt-ltb, le-ltb, ltb-true, ltb-false}
use lib.ListN.{get_or}
use lib.Seq.{get_or-take}
use Rattle.leaves.proofs.ChoiceLaws.{if_true, if_false, clash}
use Rattle.leaves.specs.declared.refusals.Refusal.{Refusal}
use Rattle.maps.specs.Places.{no_field, Within, Same, Parted}
use Rattle.maps.specs.Good.{Fits, Fit, FitStatus, fit_absent, fit_at, checked_done}
use Rattle.maps.specs.declared.Field.{Field}
use Rattle.maps.specs.declared.Place.{Place}
use Rattle.maps.specs.declared.HeaderMap.{HeaderMap}
use Rattle.maps.proofs.GoodLaws.{goes_on, refused_by, ready_of}
use Rattle.maps.specs.Said.{status_at, text_of, saying}
use Rattle.maps.proofs.FitLaws.{fit_get, fits_within}
use Rattle.maps.proofs.PartLaws.{within_begins}
use Rattle.maps.proofs.SaidLaws.{said_is}
use Rattle.lookups.specs.Lookups.{slot_of, shown_status, status_in, status_place, handed_out, Handed}

-- one lemma for each of the two kinds of answer
module _ (b s : List ℕ) (x y : ℕ × ℕ) (r : List ℕ) (z : ℕ × ℕ) where
  pub hands_part : {p : Place} {q : Option Place} → q ≡ Some p → Within b s p → Parted b s x y p r z → Handed b s x y q r z
  hands_part {p} e w h = rw e (record { is = h.is; lies = within_begins b s x y z p w h.lies })

  pub hands_nothing : {q : Option Place} → q ≡ None → r ≡ [] → Same z x → Handed b s x y q r z
  hands_nothing e h l = rw e (record { is = h; lies = l })

module _ (m : HeaderMap) (b s : List ℕ) where
  within_of : Ok tt ≡ checked_done m b s → {p : Place} → Fits m.count m.mark p → Within b s p
  within_of e f =
      let w = ready_of _ m b s e in
      fits_within b s (omega (arith, w.count, w.block)) (omega (arith, w.mark, w.store)) f

  pub status_fine : Ok tt ≡ checked_done m b s → shown_status m b s ≡ m.status
  unfolding shown_status
  status_fine e = goes_on _ _ _ e

  pub status_refused : (x : Refusal) → Err x ≡ checked_done m b s → shown_status m b s ≡ None
  unfolding shown_status
  status_refused x e = refused_by _ _ _ x e

  fit_status : (t : Option Place) (p : Place) → FitStatus m.count m.mark t → t ≡ Some p → Fits m.count m.mark p
  fit_status None p fit_absent e = clash (cc)
  fit_status (Some q) p (fit_at f) e = let z : q ≡ p = cc in rw z at f

  status_by : (c : Result ⊤ Refusal) (p : Place) → c ≡ checked_done m b s → shown_status m b s ≡ Some p → Within b s p
  status_by (Ok _) p e h = within_of e (fit_status m.status p (ready_of _ m b s e).status (sym (status_fine e) ∙ h))
  status_by (Err x) p e h = clash (cc (status_refused x e))

  -- a status that is handed out lies in its loan
  pub status_within : (p : Place) → shown_status m b s ≡ Some p → Within b s p
  status_within p h = status_by (checked_done m b s) p refl h

  module _ (i : ℕ) where
    pub slot_fine : Ok tt ≡ checked_done m b s → i < m.fields → slot_of m b s i ≡ Some (get_or m.table i no_field)
    unfolding slot_of
    slot_fine e h = goes_on _ _ _ e ∙ if_true _ _ (lt-ltb _ _ h)

    pub slot_wrong : Ok tt ≡ checked_done m b s → m.fields ≤ i → slot_of m b s i ≡ None
    unfolding slot_of
    slot_wrong e h = goes_on _ _ _ e ∙ if_false _ _ (le-ltb _ _ h)

    pub slot_refused : (x : Refusal) → Err x ≡ checked_done m b s → slot_of m b s i ≡ None
    unfolding slot_of
    slot_refused x e = refused_by _ _ _ x e

    fit_slot : Ok tt ≡ checked_done m b s → (f : Field) → slot_of m b s i ≡ Some f → Fit m.count m.mark f
    fit_slot e f h = by (ltb i m.fields) refl
      where
        by : (t : Bool) → ltb i m.fields ≡ t → Fit m.count m.mark f
        by true u =
            let l : i < m.fields = ltb-true _ _ u in
            let z : Some (get_or m.table i no_field) ≡ Some f = sym (slot_fine e l) ∙ h in
            let w : get_or m.table i no_field ≡ f = cc in
            (rw (get_or-take m.fields m.table i no_field l, w) at (fit_get (ready_of _ m b s e).fields i))
        by false u = clash (cc (slot_wrong e (ltb-false _ _ u)))

    slot_by : (c : Result ⊤ Refusal) (f : Field) → c ≡ checked_done m b s → slot_of m b s i ≡ Some f → Within b s f.key × Within b s f.value
    slot_by (Ok _) f e h = let w = fit_slot e f h in (within_of e w.key, within_of e w.value)
    slot_by (Err x) f e h = clash (cc (slot_refused x e))

    -- a field that is handed out has its places in their loans
    pub slot_within : (f : Field) → slot_of m b s i ≡ Some f → Within b s f.key × Within b s f.value
    slot_within f h = slot_by (checked_done m b s) f refl h

-- status hands out that of the map, an empty one for none
status_in_lem : (b s : List ℕ) (x : Option Place) → handed_out b s (status_in x) ≡ text_of (status_at b s x)
status_in_lem b s None = refl
status_in_lem b s (Some p) = refl

pub text_says : (m : HeaderMap) (b s : List ℕ) → Ok tt ≡ checked_done m b s → handed_out b s (status_place m b s) ≡ text_of (saying m b s).status
text_says m b s fine = rw (status_fine m b s fine, said_is m b s) (status_in_lem b s m.status)
