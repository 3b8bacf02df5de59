-- The outcomes of an edit: all is left, by a number and for its reason, or the map is made. Assumes nothing.
use Rattle.std.specs.Prelude.{Err, Ok, Result, ⊤}
use mathlib.Core.Path.{◌≡◌, refl, sym, ap, ◌∙◌}
use mathlib.Core.Bool.{Bool, true, false}
use mathlib.Core.List.{List, [], ◌∷◌, ◌++◌}
use Prim.Native.Nat.{ℕ, ◌+◌, ◌≤◌, ◌<◌}
use native.Mathlib.Nat.{add-zero}
use native.Mathlib.Omega.{arith}
use lib.Dec.{ltb}
use borrow.Author.Tests.{ltb-true, ltb-false}
use lib.ListN.{length, length-take, take-append-drop}
use Rattle.leaves.proofs.ChoiceLaws.{if_true, if_false, clash}
use Rattle.leaves.specs.Paste.{pasted}
use Rattle.leaves.specs.Sanitise.{sanitised}
use Rattle.leaves.specs.declared.refusals.Refusal.{Refusal}
use Rattle.leaves.specs.declared.refusals.Refusal.TheVariants.{FieldsFull, StoreFull}
use Rattle.maps.specs.Good.{live, checked_done}
use Rattle.maps.specs.Maps.{Given}
use Rattle.maps.specs.declared.HeaderMap.{HeaderMap}
use Rattle.maps.proofs.GoodLaws.{goes_on, refused_by, ready_of}
use Rattle.lookups.specs.Lookups.{named}
use Rattle.edits.specs.declared.Edited.{Edited}
use Rattle.edits.specs.Fields.{replaced}
use Rattle.edits.specs.Edits.{refusing, done, changing, editing, with_field, setting, appending, removing, leaving, thinned, with_status, statusing}
use Rattle.edits.proofs.PutLaws.{keeps_short}

-- what held when an edit gave the map n, with the text t at the mark
pub record DoneBy (m : HeaderMap) (b s : List ℕ) (n : HeaderMap) (t : List ℕ) (g : Given Edited) : Type 0 where
  pub fine : Ok tt ≡ checked_done m b s
  pub few : n.fields ≤ 256
  pub fits : m.mark + length t ≤ m.room
  pub is : g ≡ done n b (pasted s m.mark t)

pub data Outcome (m : HeaderMap) (b s : List ℕ) (n : HeaderMap) (t : List ℕ) (g : Given Edited) : Type 0 where
  refused : (x : Refusal) → Err x ≡ checked_done m b s → g ≡ refusing m b s x → Outcome m b s n t g
  over : Ok tt ≡ checked_done m b s → 256 < n.fields → g ≡ refusing m b s FieldsFull → Outcome m b s n t g
  full : Ok tt ≡ checked_done m b s → n.fields ≤ 256 → m.room < m.mark + length t → g ≡ refusing m b s StoreFull → Outcome m b s n t g
  made : DoneBy m b s n t g → Outcome m b s n t g

-- all is left by one number alone
left_by : {m : HeaderMap} {b s : List ℕ} {g : Given Edited} (y : Refusal) → g ≡ refusing m b s y → (x : Refusal) → g.result.answer ≡ Err x
    → g ≡ refusing m b s x
left_by y e x d =
    let z : Err y ≡ Err x = ap (λ (u : Given Edited). u.result.answer) (sym e) ∙ d in
    let w : y ≡ x = cc in
    rw w at e

module _ {m : HeaderMap} {b s : List ℕ} {n : HeaderMap} {t : List ℕ} {g : Given Edited} where
  -- if all is left, nothing is made
  left_not_done : (y : Refusal) → g ≡ refusing m b s y → g.result.answer ≡ Ok tt → DoneBy m b s n t g
  left_not_done y e d = clash (cc (ap (λ (u : Given Edited). u.result.answer) e))

  -- an edit that is done has made its map
  pub made_of : Outcome m b s n t g → g.result.answer ≡ Ok tt → DoneBy m b s n t g
  made_of (refused x h e) d = left_not_done x e d
  made_of (over f h e) d = left_not_done FieldsFull e d
  made_of (full f h k e) d = left_not_done StoreFull e d
  made_of (made h) d = h

  -- a refused edit leaves all
  pub left_of : Outcome m b s n t g → (x : Refusal) → g.result.answer ≡ Err x → g ≡ refusing m b s x
  left_of (refused y h e) x d = left_by y e x d
  left_of (over f h e) x d = left_by FieldsFull e x d
  left_of (full f h k e) x d = left_by StoreFull e x d
  left_of (made h) x d = clash (cc (ap (λ (u : Given Edited). u.result.answer) h.is))

  -- 3, 2 and 7 come first
  pub refused_of : Outcome m b s n t g → (x : Refusal) → Err x ≡ checked_done m b s → g ≡ refusing m b s x
  refused_of (refused y h e) x d = let w : y ≡ x = cc in rw w at e
  refused_of (over f h e) x d = clash (cc)
  refused_of (full f h k e) x d = clash (cc)
  refused_of (made h) x d = clash (cc h.fine)

  -- then 5, then 6
  module _ (fine : Ok tt ≡ checked_done m b s) where
    pub over_of : Outcome m b s n t g → 256 < n.fields → g.result.answer ≡ Err FieldsFull
    over_of (refused x h e) k = clash (cc)
    over_of (over f h e) k = ap (λ (u : Given Edited). u.result.answer) e
    over_of (full f h l e) k = absurd (omega arith)
    over_of (made h) k = absurd (omega (arith, h.few))

    pub full_of : Outcome m b s n t g → n.fields ≤ 256 → m.room < m.mark + length t → g.result.answer ≡ Err StoreFull
    full_of (refused x h e) k l = clash (cc)
    full_of (over f h e) k l = absurd (omega arith)
    full_of (full f h i e) k l = ap (λ (u : Given Edited). u.result.answer) e
    full_of (made h) k l = absurd (omega (arith, h.fits))

    pub done_of : Outcome m b s n t g → n.fields ≤ 256 → m.mark + length t ≤ m.room → g.result.answer ≡ Ok tt
    done_of (refused x h e) k l = clash (cc)
    done_of (over f h e) k l = absurd (omega arith)
    done_of (full f h i e) k l = absurd (omega arith)
    done_of (made h) k l = ap (λ (u : Given Edited). u.result.answer) h.is

module _ (m : HeaderMap) (b s : List ℕ) where
  module _ (n : HeaderMap) (t : List ℕ) where
    changing_by : Ok tt ≡ checked_done m b s → (p q : Bool) → ltb 256 n.fields ≡ p → ltb m.room (m.mark + length t) ≡ q
        → Outcome m b s n t (changing m b s n t)
    unfolding changing
    changing_by f true q d e = over f (ltb-true _ _ d) (if_true _ _ d)
    changing_by f false true d e = full f (ltb-false _ _ d) (ltb-true _ _ e) (if_false _ _ d ∙ if_true _ _ e)
    changing_by f false false d e =
        made (record { fine = f; few = ltb-false _ _ d; fits = ltb-false _ _ e; is = if_false _ _ d ∙ if_false _ _ e })

    editing_by : (c : Result ⊤ Refusal) → c ≡ checked_done m b s → Outcome m b s n t (editing m b s n t)
    editing_by (Ok _) f = rw (goes_on (refusing m b s) (changing m b s n t) (checked_done m b s) f) (changing_by f _ _ refl refl)
    editing_by (Err x) f = refused x f (refused_by (refusing m b s) (changing m b s n t) (checked_done m b s) x f)

    pub editing_outcome : Outcome m b s n t (editing m b s n t)
    editing_outcome = editing_by (checked_done m b s) refl

  nothing_pasted : (a : ℕ) → pasted s a [] ≡ s
  unfolding pasted
  nothing_pasted a = rw add-zero (take-append-drop a s)

  module _ (key : List ℕ) where
    removing_by : (c : Result ⊤ Refusal) → c ≡ checked_done m b s → Outcome m b s (thinned m (leaving m b s key)) [] (removing m b s key)
    unfolding removing
    removing_by (Ok _) f =
        let w = ready_of _ m b s f in
        made
        (record {
          fine = f;
          few = omega (arith, w.few, keeps_short (named b s (sanitised true key)) (live m), length-take m.fields m.table);
          fits = omega (arith, w.mark);
          is = goes_on (refusing m b s) _ (checked_done m b s) f ∙ ap (done (thinned m (leaving m b s key)) b) (sym (nothing_pasted m.mark));
        })
    removing_by (Err x) f = refused x f (refused_by (refusing m b s) _ (checked_done m b s) x f)

    pub removing_outcome : Outcome m b s (thinned m (leaving m b s key)) [] (removing m b s key)
    removing_outcome = removing_by (checked_done m b s) refl

  module _ (key value : List ℕ) where
    pub setting_outcome : Outcome m b s (with_field m (λ new. replaced (named b s (sanitised true key)) new (live m)) (sanitised true key) (sanitised false value)) (sanitised true key ++ sanitised false value) (setting m b s key value)
    unfolding setting
    setting_outcome = editing_outcome _ _

    pub appending_outcome : Outcome m b s (with_field m (λ new. live m ++ (new ∷ [])) (sanitised true key) (sanitised false value)) (sanitised true key ++ sanitised false value) (appending m b s key value)
    unfolding appending
    appending_outcome = editing_outcome _ _

  pub statusing_outcome : (text : List ℕ) → Outcome m b s (with_status m (length (sanitised true text))) (sanitised true text) (statusing m b s text)
  unfolding statusing
  statusing_outcome text = editing_outcome _ _
