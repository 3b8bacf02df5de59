-- A reading's map and loans say what the reading says. Assumes nothing.
use mathlib.Core.Path.{◌≡◌, ◌∙◌}
use mathlib.Core.Bool.{Bool}
use mathlib.Core.List.{List}
use Prim.Native.Nat.{ℕ}
use lib.ListN.{length, drop}
use Rattle.leaves.specs.Paste.{lay}
use Rattle.leaves.proofs.LayLaws.{lay_take}
use Rattle.maps.specs.Good.{FitAll, FitStatus}
use Rattle.maps.specs.Said.{saying}
use Rattle.maps.specs.declared.Phase.{Phase}
use Rattle.maps.specs.declared.HeaderMap.{HeaderMap}
use Rattle.maps.proofs.TextLaws.{pairs_front, status_front}
use Rattle.maps.proofs.SaidLaws.{said_is}
use Rattle.line_reader.specs.Reading.{Reading}
use Rattle.reader.specs.Calls.{map_at}
use Rattle.readings.specs.Listening.{said}

pub map_says : (p : Phase) (awaits quirks : Bool) (m : HeaderMap) (b s : List ℕ) (r : Reading)
    → FitAll (length r.block) (length r.found.store) r.found.fields → FitStatus (length r.block) (length r.found.store) r.found.status
    → saying (map_at p awaits quirks m r) (lay b r.block) (lay s r.found.store) ≡ said r
unfolding said
map_says p awaits quirks m b s r f t =
    let x = drop (length r.block) b in
    let y = drop (length r.found.store) s in
    said_is (map_at p awaits quirks m r) (lay b r.block) (lay s r.found.store) ∙
    rw (lay_take m.table r.found.fields, status_front r.block r.found.store x y t, pairs_front r.block r.found.store x y f)
