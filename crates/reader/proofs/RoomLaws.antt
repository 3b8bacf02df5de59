-- Rooms and loans that the checks of begin and of a walker's start pass. Assumes nothing.
use Rattle.std.specs.Prelude.{Ok}
use mathlib.Core.Path.{◌≡◌, refl}
use mathlib.Core.Bool.{Bool, true, false, ◌&&◌}
use Prim.Native.Nat.{ℕ}
use lib.Dec.{leb}
use Rattle.leaves.proofs.ChoiceLaws.{clash}
use Rattle.maps.specs.Good.{good_rooms}
use Rattle.reader.specs.Calls.{first_rooms, checked_rooms}

rooms_pass : (g l : Bool) → Ok tt ≡ first_rooms g l → (g ≡ true) × (l ≡ true)
rooms_pass false l e = clash (cc)
rooms_pass true false e = clash (cc)
rooms_pass true true e = (refl, refl)

pub rooms_passed : (limit room b s : ℕ) → Ok tt ≡ checked_rooms limit room b s → (good_rooms limit room ≡ true) × ((leb limit b && leb room s) ≡ true)
unfolding checked_rooms
rooms_passed limit room b s e = rooms_pass (good_rooms limit room) (leb limit b && leb room s) e
