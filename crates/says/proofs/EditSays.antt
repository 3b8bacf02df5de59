-- The laws of the edits: what the map says then, and that it can be used again. Assumes nothing.
use Rattle.std.specs.Prelude.{Ok}
use mathlib.Core.Path.{◌≡◌, sym, ap, ◌∙◌}
use mathlib.Core.Bool.{Bool, true, false}
use mathlib.Core.List.{List, [], ◌∷◌, ◌++◌}
use Prim.Native.Nat.{ℕ, ◌+◌, ◌≤◌}
use native.Mathlib.Omega.{arith}
use lib.ListN.{length}
use Rattle.leaves.specs.Paste.{pasted}
use Rattle.leaves.specs.Sanitise.{sanitised}
use Rattle.leaves.proofs.LayLaws.{lay_take}
use Rattle.leaves.proofs.PasteLaws.{length_pasted}
use Rattle.maps.specs.Good.{live, checked_done, lies_in_store, FitAll, fit_at}
use Rattle.maps.specs.Maps.{Given}
use Rattle.maps.specs.declared.Field.{Field}
use Rattle.maps.specs.declared.HeaderMap.{HeaderMap}
use Rattle.maps.proofs.GoodLaws.{ready_of}
use Rattle.maps.specs.Said.{saying}
use Rattle.lookups.specs.Lookups.{named}
use Rattle.edits.specs.declared.Edited.{Edited}
use Rattle.edits.specs.Fields.{replaced}
use Rattle.edits.specs.Edits.{with_fields, with_status, with_field, leaving, thinned}
use Rattle.maps.proofs.FitLaws.{status_mono, all_mono, all_snoc}
use Rattle.edits.proofs.FieldLaws.{keeps_fit, replaced_fit}
use Rattle.edits.proofs.OutcomeLaws.{DoneBy, Outcome, made_of, setting_outcome, appending_outcome, removing_outcome, statusing_outcome}
use Rattle.says.specs.Says.{Ask, ask_set, ask_append, ask_remove, ask_status, asked, ask_said, ask_text, after, usable}
use Rattle.says.proofs.AgainLaws.{again, new_fits}
use Rattle.says.proofs.MadeSays.{kept_says, set_made, append_made, status_made}

module _ {m : HeaderMap} {b s : List ℕ} {n : HeaderMap} {t : List ℕ} {g : Given Edited} where
  made_says : DoneBy m b s n t g → after g ≡ saying n b (pasted s m.mark t)
  made_says d = ap after d.is

  module _ (d : DoneBy m b s n t g) where
    long : length (pasted s m.mark t) ≡ length s
    long = let w = ready_of _ m b s d.fine in length_pasted s m.mark t (omega (arith, d.fits, w.store))

    made_usable : Ok tt ≡ checked_done n b (pasted s m.mark t) → Ok tt ≡ usable g
    made_usable e = e ∙ ap usable (sym d.is)

module _ (m : HeaderMap) (b s : List ℕ) where
  -- other fields that fit below the new mark
  fields_again : {t : List ℕ} {g : Given Edited} (xs : List Field) (mark : ℕ) (edited : Bool) → DoneBy m b s (with_fields m xs mark edited) t g
      → m.mark ≤ mark → mark ≤ m.room → FitAll m.count mark xs → Ok tt ≡ usable g
  fields_again {t} {g} xs mark edited d up h f =
      let w = ready_of _ m b s d.fine in
      made_usable d
      (again m b s d.fine _ _ _ mark edited d.few h (status_mono (omega arith) up w.status) (rw (lay_take m.table xs) f) (pasted s m.mark t) (long d))

-- the map that an edit makes
abbrev pub made_by : Ask → HeaderMap → List ℕ → List ℕ → HeaderMap
made_by (ask_set k v) m b s = with_field m (λ new. replaced (named b s (sanitised true k)) new (live m)) (sanitised true k) (sanitised false v)
made_by (ask_append k v) m b s = with_field m (λ new. live m ++ (new ∷ [])) (sanitised true k) (sanitised false v)
made_by (ask_remove k) m b s = thinned m (leaving m b s k)
made_by (ask_status t) m b s = with_status m (length (sanitised true t))

module _ (m : HeaderMap) (b s : List ℕ) where
  pub ask_outcome : (a : Ask) → Outcome m b s (made_by a m b s) (ask_text a) (asked a m b s)
  ask_outcome (ask_set k v) = setting_outcome m b s k v
  ask_outcome (ask_append k v) = appending_outcome m b s k v
  ask_outcome (ask_remove k) = removing_outcome m b s k
  ask_outcome (ask_status t) = statusing_outcome m b s t

  pub ask_made : (a : Ask) → (asked a m b s).result.answer ≡ Ok tt → DoneBy m b s (made_by a m b s) (ask_text a) (asked a m b s)
  ask_made a e = made_of (ask_outcome a) e

  -- what the map says then
  pub says_by : (a : Ask) → Ok tt ≡ checked_done m b s → saying (made_by a m b s) b (pasted s m.mark (ask_text a)) ≡ ask_said a (saying m b s)
  says_by (ask_set k v) f = set_made m b s f _ _ _ _
  says_by (ask_append k v) f = append_made m b s f _ _ _ _
  says_by (ask_remove k) f = kept_says m b s f [] _ _ _
  says_by (ask_status t) f = status_made m b s f _

  pub ask_says : (a : Ask) → (asked a m b s).result.answer ≡ Ok tt → after (asked a m b s) ≡ ask_said a (saying m b s)
  ask_says a e = let d = ask_made a e in made_says d ∙ says_by a d.fine

  -- the map can be used again
  again_by : (a : Ask) → DoneBy m b s (made_by a m b s) (ask_text a) (asked a m b s) → Ok tt ≡ usable (asked a m b s)
  again_by (ask_set k v) d =
      let w = ready_of _ m b s d.fine in
      let up : m.mark ≤ m.mark + length (ask_text (ask_set k v)) = omega arith in
      fields_again m b s _ _ _ d up d.fits (replaced_fit _ _ _ _ (new_fits _ _ (sanitised true k) (sanitised false v)) _ (all_mono (omega arith) up w.fields))
  again_by (ask_append k v) d =
      let w = ready_of _ m b s d.fine in
      let up : m.mark ≤ m.mark + length (ask_text (ask_append k v)) = omega arith in
      fields_again m b s _ _ _ d up d.fits (all_snoc (all_mono (omega arith) up w.fields) (new_fits _ _ (sanitised true k) (sanitised false v)))
  again_by (ask_remove k) d =
      let w = ready_of _ m b s d.fine in
      fields_again m b s _ _ _ d (omega arith) w.mark (keeps_fit _ _ _ _ w.fields)
  again_by (ask_status t) d =
      let w = ready_of _ m b s d.fine in
      let up : m.mark ≤ m.mark + length (sanitised true t) = omega arith in
      made_usable d
      (again m b s d.fine _ _ _ _ _ d.few d.fits (fit_at (lies_in_store _ _ up (omega arith))) (all_mono (omega arith) up w.fields) (pasted s m.mark (sanitised true t)) (long d))

  pub ask_again : (a : Ask) → (asked a m b s).result.answer ≡ Ok tt → Ok tt ≡ usable (asked a m b s)
  ask_again a e = again_by a (ask_made a e)
