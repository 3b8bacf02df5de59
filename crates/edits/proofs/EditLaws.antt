-- What an edit gives, case by case. Assumes nothing.
use Rattle.std.specs.Prelude.{Err, Ok, Some}
use mathlib.Core.Path.{◌≡◌, refl, sym, ap, ◌∙◌}
use mathlib.Core.Bool.{Bool, true, false, ◌||◌}
use mathlib.Core.List.{List, ◌++◌}
use Prim.Native.Nat.{ℕ, ◌+◌, ◌-◌, ◌≤◌, ◌<◌}
use native.Mathlib.Omega.{arith}
use lib.Dec.{leb, ltb}
use borrow.Author.Tests.{lt-ltb, le-ltb, le-leb, lt-leb, leb-true, leb-false, ltb-true, ltb-false}
use lib.ListN.{length, length-append, length-take}
use Rattle.leaves.proofs.ChoiceLaws.{if_true, if_false, clash}
use Rattle.leaves.specs.Paste.{pasted}
use Rattle.leaves.specs.Sanitise.{sanitised}
use Rattle.leaves.specs.declared.refusals.Refusal.{Refusal}
use Rattle.leaves.specs.declared.refusals.Refusal.TheVariants.{FieldsFull, StoreFull}
use Rattle.maps.specs.Good.{live, checked_done, unless}
use Rattle.maps.specs.Maps.{Given, Is}
use Rattle.maps.specs.Places.{in_store}
use Rattle.maps.specs.declared.Field.{Field}
use Rattle.maps.specs.declared.Place.{Place}
use Rattle.maps.specs.declared.HeaderMap.{HeaderMap}
use Rattle.maps.proofs.GoodLaws.{goes_on, refused_by}
use Rattle.lookups.specs.Lookups.{named}
use Rattle.edits.specs.declared.Edited.{Edited}
use Rattle.edits.specs.declared.tables.Kept.{Kept}
use Rattle.edits.specs.Fields.{first_at, put_at, laid}
use Rattle.edits.specs.Edits.{remade, refusing, done, changing, new_field, planned, setting, appending, putting, leaving, removing, statusing}
use Rattle.edits.proofs.PutLaws.{replaced_at, appended_at, put_over, put_fits}

-- a text fits into what another leaves free if both fit
pub fits_rest : (k v free : ℕ) → k ≤ free → leb v (free - k) ≡ leb (k + v) free
fits_rest k v free h = choose (leb v (free - k)) refl
  where
    choose : (t : Bool) → leb v (free - k) ≡ t → t ≡ leb (k + v) free
    choose true e = let l : k + v ≤ free = omega (arith, leb-true v (free - k) e) in sym (le-leb _ _ l)
    choose false e = let l : free < k + v = omega (arith, leb-false v (free - k) e) in sym (lt-leb _ _ l)

-- what putting the texts k and v in at i comes to
module _ (i mark room : ℕ) (k v : List ℕ) where
  pub plan_full : 256 ≤ i → planned i mark room k v ≡ Err FieldsFull
  unfolding planned
  plan_full h = if_false _ _ (le-ltb _ _ h)

  pub plan_room : i < 256 → leb (length k + length v) (room - mark) ≡ false → planned i mark room k v ≡ Err StoreFull
  unfolding planned
  plan_room h e = if_true _ _ (lt-ltb _ _ h) ∙ if_false _ _ e

  pub plan_put : i < 256 → leb (length k + length v) (room - mark) ≡ true → planned i mark room k v ≡ Ok (new_field mark (length k) (length v))
  unfolding planned
  plan_put h e = if_true _ _ (lt-ltb _ _ h) ∙ if_true _ _ e

  -- what holds if it comes to a field
  pub record Planned (f : Field) : Type 0 where
    pub inside : i < 256
    pub fits : mark + length k + length v ≤ room
    pub is : f ≡ new_field mark (length k) (length v)

  pub plan_of : mark ≤ room → (f : Field) → Ok f ≡ planned i mark room k v → Planned f
  plan_of l f e = choose (ltb i 256) refl (leb (length k + length v) (room - mark)) refl
    where
      choose : (t : Bool) → ltb i 256 ≡ t → (u : Bool) → leb (length k + length v) (room - mark) ≡ u → Planned f
      choose false p u q = clash (cc (plan_full (ltb-false _ _ p)))
      choose true p false q = clash (cc (plan_room (ltb-true _ _ p) q))
      choose true p true q =
          let z : Ok f ≡ Ok (new_field mark (length k) (length v)) = e ∙ plan_put (ltb-true _ _ p) q in
          let g : length k + length v ≤ room - mark = leb-true _ _ q in
          record { inside = ltb-true _ _ p; fits = omega (arith, g, l); is = cc }

-- by what the definition gives
pub is_by : {g h : Given Edited} {r : Edited} {b s : List ℕ} → g ≡ h → Is h r b s → Is g r b s
is_by e p = record { result = p.result ∙ ap (λ (x : Given Edited). x.result) (sym e); block = p.block ∙ ap (λ (x : Given Edited). x.block) (sym e); store = p.store ∙ ap (λ (x : Given Edited). x.store) (sym e) }

module _ (m : HeaderMap) (b s : List ℕ) where
  -- the first checks of every edit
  module _ (g : Given Edited) where
    pub edit_fine : Ok tt ≡ checked_done m b s → unless (checked_done m b s) (refusing m b s) g ≡ g
    edit_fine e = goes_on (refusing m b s) g _ e

    pub edit_refused : (x : Refusal) → Err x ≡ checked_done m b s
        → Is (unless (checked_done m b s) (refusing m b s) g) (record { answer = Err x; map = m }) b s
    edit_refused x e = is_by (refused_by (refusing m b s) g _ x e) (record { result = refl; block = refl; store = refl })

  -- 5, then 6
  module _ (n : HeaderMap) (t : List ℕ) where
    pub change_full : 256 < n.fields → Is (changing m b s n t) (record { answer = Err FieldsFull; map = m }) b s
    unfolding changing
    change_full h = is_by (if_true _ _ (lt-ltb _ _ h)) (record { result = refl; block = refl; store = refl })

    pub change_room : n.fields ≤ 256 → m.room < m.mark + length t → Is (changing m b s n t) (record { answer = Err StoreFull; map = m }) b s
    unfolding changing
    change_room h k = is_by (if_false _ _ (le-ltb _ _ h) ∙ if_true _ _ (lt-ltb _ _ k)) (record { result = refl; block = refl; store = refl })

    pub change_done : n.fields ≤ 256 → m.mark + length t ≤ m.room → changing m b s n t ≡ done n b (pasted s m.mark t)
    unfolding changing
    change_done h k = if_false _ _ (le-ltb _ _ h) ∙ if_false _ _ (le-ltb _ _ k)

  -- key and value put in at a number
  module _ (key value : List ℕ) (i : ℕ) (few : m.fields ≤ 256) where
    texts : (k v : List ℕ) → m.mark + length (k ++ v) ≡ m.mark + length k + length v
    texts k v = rw length-append (omega arith)

    short : length (live m) ≤ 256
    short = omega (arith, length-take m.fields m.table)

    pub put_full : length m.table ≡ 256 → i ≤ m.fields → 256 ≤ i → Is (putting m b s i key value) (record { answer = Err FieldsFull; map = m }) b s
    unfolding putting
    put_full l h k =
        let w : i ≤ length (live m) = omega (arith, length-take m.fields m.table) in
        change_full _ _ (put_over (named b s (sanitised true key)) _ (live m) i w k)

    module _ (h : i < 256) where
      pub put_room : m.room < m.mark + length (sanitised true key) + length (sanitised false value)
          → Is (putting m b s i key value) (record { answer = Err StoreFull; map = m }) b s
      unfolding putting
      put_room g =
          change_room _ _ (put_fits (named b s (sanitised true key)) _ (live m) i h short) (rw (texts (sanitised true key) (sanitised false value)) g)

      pub put_done : m.mark + length (sanitised true key) + length (sanitised false value) ≤ m.room
          → (f : Field) → f ≡ new_field m.mark (length (sanitised true key)) (length (sanitised false value))
          → (kept : Kept) → kept ≡ laid m.table (put_at (named b s (sanitised true key)) f i (live m))
          → (mark : ℕ) → mark ≡ m.mark + length (sanitised true key) + length (sanitised false value)
          → (z : List ℕ) → z ≡ pasted s m.mark (sanitised true key ++ sanitised false value)
          → Is (putting m b s i key value) (record { answer = Ok tt; map = remade m kept.table kept.n m.status mark true }) b z
      unfolding putting
      put_done g f fe kept ke mark me z ze =
          let e = texts (sanitised true key) (sanitised false value) in
          is_by
          (change_done _ _ (put_fits (named b s (sanitised true key)) _ (live m) i h short) (rw e g))
          (record { result = rw (ke, fe, me, e); block = refl; store = ze })

    -- 5 or 6, by what it comes to
    pub put_refused : length m.table ≡ 256 → i ≤ m.fields → m.mark ≤ m.room
        → (x : Refusal) → Err x ≡ planned i m.mark m.room (sanitised true key) (sanitised false value)
        → Is (putting m b s i key value) (record { answer = Err x; map = m }) b s
    put_refused w h l x e = choose (ltb i 256) refl (leb (length (sanitised true key) + length (sanitised false value)) (m.room - m.mark)) refl
      where
        choose : (t : Bool) → ltb i 256 ≡ t → (u : Bool) → leb (length (sanitised true key) + length (sanitised false value)) (m.room - m.mark) ≡ u
            → Is (putting m b s i key value) (record { answer = Err x; map = m }) b s
        choose false p u q =
            let z : Err FieldsFull ≡ Err x = sym (e ∙ plan_full i m.mark m.room (sanitised true key) (sanitised false value) (ltb-false _ _ p)) in
            let y : FieldsFull ≡ x = cc in
            rw (← y) (put_full w h (ltb-false _ _ p))
        choose true p false q =
            let z : Err StoreFull ≡ Err x = sym (e ∙ plan_room i m.mark m.room (sanitised true key) (sanitised false value) (ltb-true _ _ p) q) in
            let y : StoreFull ≡ x = cc in
            let g : m.room - m.mark < length (sanitised true key) + length (sanitised false value) = leb-false _ _ q in
            rw (← y) (put_room (ltb-true _ _ p) (omega (arith, g, l)))
        choose true p true q = clash (cc (plan_put i m.mark m.room (sanitised true key) (sanitised false value) (ltb-true _ _ p) q))

  module _ (key value : List ℕ) where
    -- set and append, by the number of the field
    pub set_is : Ok tt ≡ checked_done m b s → (i : ℕ) → i ≡ first_at (named b s (sanitised true key)) (live m)
        → setting m b s key value ≡ putting m b s i key value
    unfolding setting putting
    set_is e i q = edit_fine _ e ∙ rw (q, replaced_at)

    pub append_is : Ok tt ≡ checked_done m b s → appending m b s key value ≡ putting m b s m.fields key value
    unfolding appending putting
    append_is e = edit_fine _ e ∙ rw (appended_at (named b s (sanitised true key)))

  pub remove_is : (key : List ℕ) → Ok tt ≡ checked_done m b s → (kept : Kept) → kept ≡ laid m.table (leaving m b s key)
      → (edited : Bool) → edited ≡ (m.edited || ltb kept.n m.fields)
      → Is (removing m b s key) (record { answer = Ok tt; map = remade m kept.table kept.n m.status m.mark edited }) b s
  unfolding removing
  remove_is key e kept ke edited d = is_by (edit_fine _ e) (record { result = rw (d, ke); block = refl; store = refl })

  -- set status
  module _ (text : List ℕ) (fine : Ok tt ≡ checked_done m b s) (few : m.fields ≤ 256) where
    pub status_room : m.room < m.mark + length (sanitised true text) → Is (statusing m b s text) (record { answer = Err StoreFull; map = m }) b s
    unfolding statusing
    status_room g = is_by (edit_fine _ fine) (change_room _ _ few g)

    pub status_done : m.mark + length (sanitised true text) ≤ m.room → (mark : ℕ) → mark ≡ m.mark + length (sanitised true text)
        → (p : Place) → p ≡ in_store m.mark mark → (z : List ℕ) → z ≡ pasted s m.mark (sanitised true text)
        → Is (statusing m b s text) (record { answer = Ok tt; map = remade m m.table m.fields (Some p) mark true }) b z
    unfolding statusing
    status_done g mark me p pe z ze =
        is_by (edit_fine _ fine ∙ change_done _ _ few g) (record { result = rw (pe, me); block = refl; store = ze })
