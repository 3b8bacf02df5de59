-- Two headers that were read to their blank lines, and what resume says of them. Assumes nothing.
use Rattle.leaves.specs.declared.refusals.Refusal.{Refusal}
use Rattle.std.specs.Prelude.{Ok, Result}
use mathlib.Core.Path.{◌≡◌, refl, sym, ◌∙◌, ap, subst}
use mathlib.Core.Bool.{false}
use lib.ListN.{length}
use Rattle.machines.specs.Machine.{joined}
use Rattle.maps.specs.Good.{checked_done}
use Rattle.maps.specs.Maps.{Given}
use Rattle.maps.specs.Said.{Said, saying}
use Rattle.maps.specs.declared.HeaderMap.{HeaderMap}
use Rattle.reader.specs.Calls.{checked_rooms, feeding}
use Rattle.line_reader.specs.declared.Answer.{Answer}
use Rattle.reader.specs.declared.Fed.{Fed}
use Rattle.readings.specs.Listening.{Listening, silent, listening, refused}
use Rattle.readings.specs.Hears.{so_far, says_then}
use Rattle.readings.proofs.Cut.{cut}
use Rattle.readings.proofs.Begun.{begins, begins_fine, begun_map}
use Rattle.readings.proofs.HearsHold.{hears}
use Rattle.resume.proofs.AppendLaws.{append_tells, append_told}
use Rattle.resume.specs.Resume.{Appends}
use Rattle.demands.specs.Pieces.{Within, next_checks, Fetch, begun_for, fetched, Whole, heard_of}
use Rattle.demands.specs.Demands.{AppendsOnly}
use Rattle.demands.proofs.Never.{rooms_fine, begun_block, begun_store, never_feed}

module _ (f : Fetch) (w : Whole f) where
  fine : Ok tt ≡ checked_rooms f.limit f.room (length f.block) (length f.store)
  fine = rooms_fine f.map f.limit f.room f.status f.quirks f.block f.store w.begins

  abbrev M : HeaderMap
  M = begins f.limit f.room f.block f.store fine f.map f.status f.quirks

  -- the pieces are one feed of the map that begin made
  whole : fetched f ≡ feeding M f.block f.store (joined f.pieces)
  whole =
      cut (begun_for f).result.map f.block f.store f.pieces ∙
      ap (λ (m : HeaderMap). feeding m f.block f.store (joined f.pieces))
      (begun_map f.limit f.room f.block f.store fine f.map f.status f.quirks)

  -- nothing was said before its first octet
  starts : so_far M f.block f.store ≡ silent f.status
  unfolding saying
  starts = refl

  -- its map says what its octets say
  says : says_then (fetched f) ≡ heard_of f
  says =
      let g = feeding M f.block f.store (joined f.pieces) in
      let e : refused g.result.answer ≡ false = ap (λ (x : Given Fed). refused x.result.answer) (sym whole) ∙ ap refused w.ends in
      ap says_then whole ∙
      (hears.heard M f.block f.store (joined f.pieces) (begins_fine f.limit f.room f.block f.store fine f.map f.status f.quirks) e).says ∙
      ap (λ (l : Listening). (listening f.quirks l (joined f.pieces)).hearing.said) starts

  within : Within f.store (fetched f)
  within =
      let e = begun_block f.map f.limit f.room f.status f.quirks f.block f.store w.begins in
      let g = begun_store f.map f.limit f.room f.status f.quirks f.block f.store w.begins in
      rw (e, g) at (never_feed f.map f.limit f.room f.status f.quirks f.block f.store w.begins f.pieces)

  -- and 3, 2 and 7 do not refuse it
  usable : Ok tt ≡ checked_done (fetched f).result.map (fetched f).block (fetched f).store
  usable = within.fine ∙ ap (λ (a : Result Answer Refusal). next_checks a (fetched f).result.map (fetched f).block (fetched f).store) w.ends

pub appends_only : (f g : Fetch) → Whole f → Whole g → AppendsOnly f g
appends_only f g w v =
    record {
      told =
          λ e.
          subst (λ (x : Said). Appends x (heard_of g)) (says f w)
          (subst (λ (y : Said). Appends (says_then (fetched f)) y) (says g v) (append_tells _ _ _ _ _ _ (usable f w) (usable g v) e));
      holds =
          λ a.
          append_told _ _ _ _ _ _ (usable f w) (usable g v)
          (subst (λ (x : Said). Appends x (says_then (fetched g))) (sym (says f w)) (subst (λ (y : Said). Appends (heard_of f) y) (sym (says g v)) a));
    }
