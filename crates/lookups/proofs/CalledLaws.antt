-- A field has a name if its pair is called so. Assumes nothing.
use mathlib.Core.Path.{◌≡◌, refl}
use mathlib.Core.List.{List, [], ◌∷◌, map}
use Prim.Native.Nat.{ℕ}
use Rattle.maps.specs.Said.{pair_at, called}
use Rattle.maps.specs.declared.Field.{Field}
use Rattle.lookups.specs.Lookups.{named}

pub named_called : (b s name : List ℕ) (xs : List Field) → map (named b s name) xs ≡ map (called name) (map (pair_at b s) xs)
unfolding named
named_called b s name [] = refl
named_called b s name (x ∷ xs) = rw (named_called b s name xs)
