-- The calls: what their checks make of them. Assumes nothing.
use Rattle.std.specs.Prelude.{Err, Ok, Result, ⊤}
use mathlib.Core.Path.{◌≡◌, refl, sym}
use mathlib.Core.Bool.{Bool, true, false}
use mathlib.Core.List.{List}
use Prim.Native.Nat.{ℕ}
use lib.ListN.{length}
use Rattle.maps.specs.Good.{checked, checked_reading}
use Rattle.reader.specs.Calls.{fed_from, finished_from, feeding, finishing, clearing, beginning, checked_rooms, leaves_fed, makes}
use Rattle.maps.specs.Maps.{empty, Is}
use Rattle.leaves.specs.declared.refusals.Refusal.{Refusal}
use Rattle.maps.specs.Heads.{under, head_of, empty_head}
use Rattle.reader.specs.Heads.{head_when}
use Rattle.maps.specs.declared.HeaderMap.{HeaderMap}
use Rattle.maps.proofs.GoodLaws.{goes_on, refused_by}
use Rattle.maps.specs.declared.Phase.TheVariants.{Reading as Open, Done}

module _ (m : HeaderMap) (b s : List ℕ) where
  pub feeding_goes : (p : List ℕ) → Ok tt ≡ checked_reading m b s → feeding m b s p ≡ fed_from m b s p
  unfolding feeding
  feeding_goes p e = goes_on _ _ _ e

  pub feeding_stops : (p : List ℕ) (x : Refusal) → Err x ≡ checked_reading m b s → feeding m b s p ≡ leaves_fed m b s x
  unfolding feeding
  feeding_stops p x e = refused_by _ _ _ x e

  pub finishing_goes : Ok tt ≡ checked_reading m b s → finishing m b s ≡ finished_from m b s
  unfolding finishing
  finishing_goes e = goes_on _ _ _ e

  pub finishing_stops : (x : Refusal) → Err x ≡ checked_reading m b s → finishing m b s ≡ leaves_fed m b s x
  unfolding finishing
  finishing_stops x e = refused_by _ _ _ x e

  pub clearing_goes : Ok tt ≡ checked true m (length b) (length s)
      → clearing m b s ≡ makes b s (empty m.table m.limit m.room false false Done) (Ok tt)
  unfolding clearing
  clearing_goes e = goes_on _ _ _ e

  pub clearing_stops : (x : Refusal) → Err x ≡ checked true m (length b) (length s) → clearing m b s ≡ makes b s m (Err x)
  unfolding clearing
  clearing_stops x e = refused_by _ _ _ x e

-- begin: the new head, or the old one, over the table that stays
pub begun : (m : HeaderMap) (limit room : ℕ) (awaits quirks : Bool) (b s : List ℕ) (a : Result ⊤ Refusal) → a ≡ checked_rooms limit room (length b) (length s)
    → Is (beginning m limit room awaits quirks b s)
    (record { map = under m.table (head_when a (empty_head limit room awaits quirks Open) (head_of m)); answer = a }) b s
unfolding beginning
begun m limit room awaits quirks b s (Ok _) e = rw (sym e) (record { result = refl; block = refl; store = refl })
begun m limit room awaits quirks b s (Err x) e = rw (sym e) (record { result = refl; block = refl; store = refl })

-- clear: the same of an empty head that is Done
pub cleared : (m : HeaderMap) (b s : List ℕ) (a : Result ⊤ Refusal) → a ≡ checked true m (length b) (length s)
    → Is (clearing m b s) (record { map = under m.table (head_when a (empty_head m.limit m.room false false Done) (head_of m)); answer = a }) b s
unfolding clearing
cleared m b s (Ok _) e = rw (sym e) (record { result = refl; block = refl; store = refl })
cleared m b s (Err x) e = rw (sym e) (record { result = refl; block = refl; store = refl })
