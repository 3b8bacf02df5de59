-- A map that begin made, and a feed of it. Assumes nothing.
use Rattle.std.specs.Prelude.{Ok}
use mathlib.Core.Path.{◌≡◌, refl, ◌∙◌, ap}
use mathlib.Core.Bool.{Bool, true, ◌&&◌}
use mathlib.Core.List.{List}
use Prim.Native.Nat.{ℕ, ◌≤◌}
use borrow.Author.Tests.{leb-true}
use lib.Dec.{leb}
use lib.ListN.{length}
use Rattle.leaves.proofs.ChoiceLaws.{and_left, and_right}
use Rattle.maps.specs.Good.{good_rooms, checked_reading}
use Rattle.maps.specs.Maps.{empty, Given}
use Rattle.maps.specs.declared.Phase.TheVariants.{Reading as Open}
use Rattle.maps.specs.declared.HeaderMap.{HeaderMap}
use Rattle.maps.proofs.GoodLaws.{checked_fine, goes_on}
use Rattle.line_reader.specs.Reading.{Rules, fed, begun}
use Rattle.reader.specs.Calls.{gives, feeding, beginning, checked_rooms}
use Rattle.reader.specs.declared.Fed.{Fed}
use Rattle.reader.specs.declared.Made.{Made}
use Rattle.readings.proofs.Kept.{rooms_passed, good_empty}
use Rattle.readings.proofs.Cut.{fed_goes}

-- rooms and loans that begin takes
module _ (limit room : ℕ) (b s : List ℕ) (fine : Ok tt ≡ checked_rooms limit room (length b) (length s)) where
  pub both_fine : (good_rooms limit room ≡ true) × ((leb limit (length b) && leb room (length s)) ≡ true)
  both_fine = rooms_passed limit room (length b) (length s) fine

  pub roomy : limit ≤ room
  roomy = leb-true limit room (and_left (leb limit room) _ (and_right (leb limit 65536) _ both_fine.0))

  module _ (m : HeaderMap) (status quirks : Bool) where
    abbrev pub begins : HeaderMap
    begins = empty m.table limit room status quirks Open

    abbrev pub begun_rules : Rules
    begun_rules = record { limit = limit; room = room; quirks = quirks }

    pub begins_fine : Ok tt ≡ checked_reading begins b s
    begins_fine = checked_fine true begins (length b) (length s) (good_empty limit room both_fine.0 m.table status quirks Open) both_fine.1 refl

    pub begun_map : (beginning m limit room status quirks b s).result.map ≡ begins
    unfolding beginning
    begun_map = ap (λ (g : Given Made). g.result.map) (goes_on _ _ (checked_rooms limit room (length b) (length s)) fine)

    -- a feed of the map that begin makes
    abbrev pub fed_begun : List ℕ → Given Fed
    fed_begun t = feeding (beginning m limit room status quirks b s).result.map b s t

    pub fed_begun_lem : (t : List ℕ) → fed_begun t ≡ gives begins b s (fed begun_rules (begun status) t)
    fed_begun_lem t = ap (λ (k : HeaderMap). feeding k b s t) begun_map ∙ fed_goes begins b s t begins_fine
