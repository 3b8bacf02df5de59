-- What a map says: its status and its fields, as octets. Assumes nothing.
use Rattle.maps.specs.declared.Place.{Place}
use Rattle.std.specs.Prelude.{Bool, List, [], map, ℕ, None, Option, Some}
use Rattle.leaves.specs.Name.{same_name}
use Rattle.maps.specs.Places.{at}
use Rattle.maps.specs.Good.{live}
use Rattle.maps.specs.declared.Field.{Field}
use Rattle.maps.specs.declared.HeaderMap.{HeaderMap}

-- a field as octets
pub record Pair : Type 0 where
  pub key : List ℕ
  pub value : List ℕ

-- a map as octets; "absent and empty status differing"
pub record Said : Type 0 where
  pub status : Option (List ℕ)
  pub pairs : List Pair

abbrev pub pair_at : List ℕ → List ℕ → Field → Pair
pair_at b s x = record { key = at b s x.key; value = at b s x.value }

-- "Names compare without ASCII case."
abbrev pub called : List ℕ → Pair → Bool
called name x = same_name x.key name

abbrev pub status_at : List ℕ → List ℕ → Option Place → Option (List ℕ)
status_at b s None = None
status_at b s (Some p) = Some (at b s p)

-- the octets of a status; none if it is absent
abbrev pub text_of : Option (List ℕ) → List ℕ
text_of None = []
text_of (Some t) = t

unfoldable pub saying : HeaderMap → List ℕ → List ℕ → Said
saying m b s = record { status = status_at b s m.status; pairs = map (pair_at b s) (live m) }
