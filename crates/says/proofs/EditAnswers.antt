-- The laws of the edits: when one is done or refused, what it puts into the store, what it leaves of map and loans. Assumes nothing.
use Rattle.std.specs.Prelude.{Err, Ok}
use mathlib.Core.Path.{◌≡◌, refl, sym, ap, ◌∙◌}
use mathlib.Core.Bool.{true, false}
use mathlib.Core.List.{List, [], ◌∷◌, ◌++◌}
use Prim.Native.Nat.{ℕ, ◌+◌, ◌≤◌, ◌<◌}
use native.Mathlib.Omega.{arith}
use lib.ListN.{length, length-take, length-map}
use Rattle.leaves.specs.Paste.{pasted}
use Rattle.leaves.specs.Refusals.{refusal}
use Rattle.leaves.specs.Sanitise.{sanitised}
use Rattle.leaves.proofs.LayLaws.{lay_take}
use Rattle.leaves.specs.declared.refusals.Refusal.{Refusal}
use Rattle.maps.specs.Good.{live, checked_done}
use Rattle.maps.specs.Maps.{Given}
use Rattle.maps.specs.Said.{Said, pair_at, saying}
use Rattle.maps.specs.declared.Field.{Field}
use Rattle.maps.specs.declared.HeaderMap.{HeaderMap}
use Rattle.maps.proofs.GoodLaws.{ready_of}
use Rattle.maps.proofs.SaidLaws.{said_is}
use Rattle.lookups.specs.Lookups.{named}
use Rattle.edits.specs.declared.Edited.{Edited}
use Rattle.edits.specs.Fields.{replaced}
use Rattle.edits.specs.Edits.{remade, new_field, refusing, leaving}
use Rattle.edits.proofs.PutLaws.{keeps_short}
use Rattle.edits.proofs.OutcomeLaws.{left_of, refused_of, over_of, full_of, done_of}
use Rattle.says.specs.Says.{Ask, ask_set, ask_append, ask_remove, ask_status, asked, ask_said, ask_text, marked, remove_said}
use Rattle.says.proofs.EditSays.{made_by, ask_outcome, ask_made, says_by}

-- as many pairs as fields
pairs_live : (m : HeaderMap) (b s : List ℕ) → length (saying m b s).pairs ≡ length (live m)
pairs_live m b s = ap (λ (x : Said). length x.pairs) (said_is m b s) ∙ length-map (live m) (pair_at b s)

module _ (m : HeaderMap) (b s : List ℕ) where
  module _ (fine : Ok tt ≡ checked_done m b s) where
    made_pairs : (a : Ask) → length (ask_said a (saying m b s)).pairs ≡ length (live (made_by a m b s))
    made_pairs a =
        ap (λ (x : Said). length x.pairs) (sym (says_by m b s a fine)) ∙ pairs_live (made_by a m b s) b (pasted s m.mark (ask_text a))

    most_fields : (a : Ask) → length (ask_said a (saying m b s)).pairs ≤ (made_by a m b s).fields
    most_fields a = omega (arith, made_pairs a, length-take (made_by a m b s).fields (made_by a m b s).table)

    left_fields : (k : List ℕ) → length (remove_said (sanitised true k) (saying m b s)).pairs ≡ length (leaving m b s k)
    left_fields k = made_pairs (ask_remove k) ∙ ap length (lay_take m.table (leaving m b s k))

    remove_few : (k : List ℕ) → length (leaving m b s k) ≤ 256
    remove_few k =
        omega (arith, (ready_of _ m b s fine).few, keeps_short (named b s (sanitised true k)) (live m), length-take m.fields m.table)

    few_fields : (a : Ask) → length (ask_said a (saying m b s)).pairs ≤ 256 → (made_by a m b s).fields ≤ 256
    few_fields (ask_set k v) h =
        let x : List ℕ = sanitised true k in
        let xs : List Field = replaced (named b s x) (new_field m.mark (length x) (length (sanitised false v))) (live m) in
        omega (arith, made_pairs (ask_set k v), ap length (lay_take m.table xs))
    few_fields (ask_append k v) h =
        let xs : List Field = live m ++ (new_field m.mark (length (sanitised true k)) (length (sanitised false v)) ∷ []) in
        omega (arith, made_pairs (ask_append k v), ap length (lay_take m.table xs))
    few_fields (ask_remove k) h = remove_few k
    few_fields (ask_status t) h = (ready_of _ m b s fine).few

    -- 5, then 6, else it is done
    pub ask_over : (a : Ask) → 256 < length (ask_said a (saying m b s)).pairs → (asked a m b s).result.answer ≡ Err (refusal 5)
    ask_over a h = let l : 256 < (made_by a m b s).fields = omega (arith, most_fields a) in over_of fine (ask_outcome m b s a) l

    pub ask_full : (a : Ask) → length (ask_said a (saying m b s)).pairs ≤ 256 → m.room < m.mark + length (ask_text a)
        → (asked a m b s).result.answer ≡ Err (refusal 6)
    ask_full a h k = full_of fine (ask_outcome m b s a) (few_fields a h) k

    pub ask_done : (a : Ask) → length (ask_said a (saying m b s)).pairs ≤ 256 → m.mark + length (ask_text a) ≤ m.room
        → (asked a m b s).result.answer ≡ Ok tt
    ask_done a h k = done_of fine (ask_outcome m b s a) (few_fields a h) k

    pub remove_done : (k : List ℕ) → (asked (ask_remove k) m b s).result.answer ≡ Ok tt
    remove_done k =
        let l : m.mark + 0 ≤ m.room = omega (arith, (ready_of _ m b s fine).mark) in
        done_of fine (ask_outcome m b s (ask_remove k)) (remove_few k) l

    -- whether something went
    marked_by : (a : Ask) → length m.table ≡ 256 → (made_by a m b s).edited ≡ marked a m.edited (saying m b s)
    marked_by (ask_set k v) e = refl
    marked_by (ask_append k v) e = refl
    marked_by (ask_remove k) e =
        let n : length (saying m b s).pairs ≡ m.fields = omega (arith, pairs_live m b s, length-take m.fields m.table, (ready_of _ m b s fine).few) in
        rw (left_fields k, n)
    marked_by (ask_status t) e = refl

  -- an edit that 3, 2 or 7 refuse; a refused edit leaves all
  pub ask_refused : (a : Ask) (x : Refusal) → Err x ≡ checked_done m b s → asked a m b s ≡ refusing m b s x
  ask_refused a x e = refused_of (ask_outcome m b s a) x e

  pub ask_left : (a : Ask) (x : Refusal) → (asked a m b s).result.answer ≡ Err x → asked a m b s ≡ refusing m b s x
  ask_left a x e = left_of (ask_outcome m b s a) x e

  module _ (a : Ask) (e : (asked a m b s).result.answer ≡ Ok tt) where
    pub ask_store : (asked a m b s).store ≡ pasted s m.mark (ask_text a)
    ask_store = ap (λ (g : Given Edited). g.store) (ask_made m b s a e).is

    pub ask_block : (asked a m b s).block ≡ b
    ask_block = ap (λ (g : Given Edited). g.block) (ask_made m b s a e).is

    made_map_lem : (asked a m b s).result.map ≡ made_by a m b s
    made_map_lem = ap (λ (g : Given Edited). g.result.map) (ask_made m b s a e).is

    pub ask_marks : length m.table ≡ 256 → (asked a m b s).result.map.edited ≡ marked a m.edited (saying m b s)
    ask_marks h = ap (λ (n : HeaderMap). n.edited) made_map_lem ∙ marked_by (ask_made m b s a e).fine a h

  mark_by : (a : Ask) → (made_by a m b s).mark ≡ m.mark + length (ask_text a)
  mark_by (ask_set k v) = refl
  mark_by (ask_append k v) = refl
  mark_by (ask_remove k) = omega arith
  mark_by (ask_status t) = refl

  -- "Its store mark grows by the lengths that edits .. add."
  pub ask_mark : (a : Ask) → (asked a m b s).result.answer ≡ Ok tt → (asked a m b s).result.map.mark ≡ m.mark + length (ask_text a)
  ask_mark a e = ap (λ (n : HeaderMap). n.mark) (made_map_lem a e) ∙ mark_by a

  rest_by : (a : Ask) (n : HeaderMap) → n ≡ made_by a m b s → n ≡ remade m n.table n.fields n.status n.mark n.edited
  rest_by (ask_set k v) n e = rw e refl
  rest_by (ask_append k v) n e = rw e refl
  rest_by (ask_remove k) n e = rw e refl
  rest_by (ask_status t) n e = rw e refl

  -- nothing else of the map changes
  pub ask_rest : (a : Ask) → (asked a m b s).result.answer ≡ Ok tt → (n : HeaderMap) → n ≡ (asked a m b s).result.map
      → n ≡ remade m n.table n.fields n.status n.mark n.edited
  ask_rest a e n h = rest_by a n (h ∙ made_map_lem a e)
