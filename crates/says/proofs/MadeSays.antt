-- What a map says once a text stands at the mark of its store and it has other fields or another status. Assumes nothing.
use Rattle.std.specs.Prelude.{Ok}
use mathlib.Core.Path.{◌≡◌, sym, ap, ◌∙◌}
use mathlib.Core.Bool.{Bool}
use mathlib.Core.List.{List, [], ◌∷◌, ◌++◌, map, map-append, append-nil}
use Prim.Native.Nat.{ℕ, ◌+◌, ◌≤◌}
use native.Mathlib.Nat.{add-zero}
use native.Mathlib.Omega.{arith}
use lib.ListN.{length}
use Rattle.leaves.specs.Paste.{pasted}
use Rattle.leaves.proofs.LayLaws.{lay_take}
use Rattle.maps.specs.Places.{part}
use Rattle.maps.specs.Good.{live, checked_done}
use Rattle.maps.specs.declared.Field.{Field}
use Rattle.maps.specs.declared.HeaderMap.{HeaderMap}
use Rattle.maps.proofs.GoodLaws.{ready_of}
use Rattle.maps.specs.Said.{Pair, pair_at, status_at, saying, called}
use Rattle.lookups.specs.Lookups.{named}
use Rattle.maps.proofs.SaidLaws.{said_is}
use Rattle.lookups.proofs.CalledLaws.{named_called}
use Rattle.edits.specs.Fields.{keeps, replaced}
use Rattle.edits.specs.Edits.{with_fields, with_status, new_field}
use Rattle.edits.proofs.FieldLaws.{keeps_map, replaced_map}
use Rattle.says.specs.Says.{pair, set_said, append_said, remove_said, status_said}
use Rattle.says.proofs.KeptLaws.{text_at, status_kept, pairs_kept}

module _ (m : HeaderMap) (b s : List ℕ) (fine : Ok tt ≡ checked_done m b s) where
  stored : m.mark ≤ length s
  stored = let w = ready_of _ m b s fine in omega (arith, w.mark, w.store)

  module _ (t : List ℕ) where
    live_kept : map (pair_at b (pasted s m.mark t)) (live m) ≡ map (pair_at b s) (live m)
    live_kept = pairs_kept s m.mark stored b t m.count (ready_of _ m b s fine).fields

    same_status_lem : status_at b (pasted s m.mark t) m.status ≡ status_at b s m.status
    same_status_lem = status_kept s m.mark stored b t m.count (ready_of _ m b s fine).status

    -- other fields: the status stays
    fields_say : (xs : List Field) (mark : ℕ) (edited : Bool) (ps : List Pair) → map (pair_at b (pasted s m.mark t)) xs ≡ ps
        → saying (with_fields m xs mark edited) b (pasted s m.mark t) ≡ record { status = status_at b s m.status; pairs = ps }
    fields_say xs mark edited ps e = said_is (with_fields m xs mark edited) b (pasted s m.mark t) ∙ rw (lay_take m.table xs, same_status_lem, e)

    -- the tests of names see the same
    module _ (name : List ℕ) where
      same_names : map (named b s name) (live m) ≡ map (called name) (map (pair_at b (pasted s m.mark t)) (live m))
      same_names = named_called b s name (live m) ∙ ap (map (called name)) (sym live_kept)

      pub kept_says : (mark : ℕ) (edited : Bool)
          → saying (with_fields m (keeps (named b s name) (live m)) mark edited) b (pasted s m.mark t) ≡ remove_said name (saying m b s)
      kept_says mark edited =
          rw (said_is m b s)
          (fields_say (keeps (named b s name) (live m)) mark edited _ (keeps_map (pair_at b (pasted s m.mark t)) (named b s name) (called name) (live m) same_names ∙ ap (keeps (called name)) live_kept))

      replaced_pairs : (new : Field) (p : Pair) → pair_at b (pasted s m.mark t) new ≡ p
          → map (pair_at b (pasted s m.mark t)) (replaced (named b s name) new (live m)) ≡ replaced (called name) p (map (pair_at b s) (live m))
      replaced_pairs new p e =
          replaced_map (pair_at b (pasted s m.mark t)) (named b s name) (called name) new (live m) same_names ∙
          rw (e, live_kept)

  module _ (k v : List ℕ) where
    -- the new field says the new key and the new value
    new_says : pair_at b (pasted s m.mark (k ++ v)) (new_field m.mark (length k) (length v)) ≡ pair k v
    new_says =
        let x : part m.mark (m.mark + length k) (pasted s m.mark (k ++ v)) ≡ k = rw add-zero at (text_at s m.mark stored [] k v) in
        let y : part (m.mark + length k) (m.mark + length k + length v) (pasted s m.mark (k ++ v)) ≡ v = rw append-nil at (text_at s m.mark stored k v []) in
        rw (x, y)

    pub set_made : (mark : ℕ) (edited : Bool)
        → saying (with_fields m (replaced (named b s k) (new_field m.mark (length k) (length v)) (live m)) mark edited) b (pasted s m.mark (k ++ v)) ≡
        set_said k v (saying m b s)
    set_made mark edited =
        let new : Field = new_field m.mark (length k) (length v) in
        rw (said_is m b s) (fields_say (k ++ v) (replaced (named b s k) new (live m)) mark edited _ (replaced_pairs (k ++ v) k new _ new_says))

    pub append_made : (mark : ℕ) (edited : Bool)
        → saying (with_fields m (live m ++ (new_field m.mark (length k) (length v) ∷ [])) mark edited) b (pasted s m.mark (k ++ v)) ≡
        append_said k v (saying m b s)
    append_made mark edited =
        let new : List Field = new_field m.mark (length k) (length v) ∷ [] in
        rw (said_is m b s)
        (fields_say (k ++ v) (live m ++ new) mark edited _ (map-append (pair_at b (pasted s m.mark (k ++ v))) (live m) new ∙ rw (live_kept (k ++ v), new_says)))

  -- another status: the fields stay
  pub status_made : (t : List ℕ) → saying (with_status m (length t)) b (pasted s m.mark t) ≡ status_said t (saying m b s)
  status_made t =
      let x : part m.mark (m.mark + length t) (pasted s m.mark t) ≡ t = rw (add-zero, append-nil) at (text_at s m.mark stored [] t []) in
      said_is (with_status m (length t)) b (pasted s m.mark t) ∙ rw (x, live_kept t, said_is m b s)
