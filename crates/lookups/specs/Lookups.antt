-- What a lookup finds, and what the lookups hand out. Assumes nothing.
use Rattle.leaves.specs.declared.refusals.Refusal.{Refusal}
use Rattle.std.specs.Prelude.{◌≡◌, Bool, List, [], ◌∷◌, ℕ, ◌+◌, ltb, get_or, drop, Err, None, Ok, Option, Result, Some, option_map}
use Rattle.leaves.specs.Choice.{when◌then◌else◌}
use Rattle.leaves.specs.Name.{same_name}
use Rattle.maps.specs.Places.{at, no_field, begins, Same}
use Rattle.maps.specs.Good.{live, checked_done, unless}
use Rattle.maps.specs.declared.Field.{Field}
use Rattle.maps.specs.declared.Place.{Place}
use Rattle.maps.specs.declared.HeaderMap.{HeaderMap}

-- "Names compare without ASCII case." "Lookup keys aren't sanitised."
unfoldable pub named : List ℕ → List ℕ → List ℕ → Field → Bool
named b s name x = same_name (at b s x.key) name

-- the number of the first that passes, the first of them being number n
unfoldable pub seeking {ℓ} : {A : Type ℓ} → (A → Bool) → ℕ → List A → Option ℕ
seeking p n [] = None
seeking p n (x ∷ xs) = when p x then Some n else seeking p (n + 1) xs

-- "A lookup from a given field number on gives missing or a field number."
unfoldable pub finding : HeaderMap → List ℕ → List ℕ → List ℕ → ℕ → Result (Option ℕ) Refusal
finding m b s name from = unless (checked_done m b s) Err (Ok (seeking (named b s name) from (drop from (live m))))

-- a number that was found, with its field
abbrev pub sighted_in : List Field → Option ℕ → Option (ℕ × Field)
sighted_in t f = option_map (λ (i : ℕ). (i, get_or t i no_field)) f

-- a lookup that gives the field too
unfoldable pub sighting : HeaderMap → List ℕ → List ℕ → List ℕ → ℕ → Result (Option (ℕ × Field)) Refusal
sighting m b s name from = unless (checked_done m b s) Err (Ok (sighted_in m.table (seeking (named b s name) from (drop from (live m)))))

-- the field number i, none "for a wrong number .. or a refusal"
unfoldable pub slot_of : HeaderMap → List ℕ → List ℕ → ℕ → Option Field
slot_of m b s i = unless (checked_done m b s) (λ _. None) (when ltb i m.fields then Some (get_or m.table i no_field) else None)

-- the status, none for a refusal
unfoldable pub shown_status : HeaderMap → List ℕ → List ℕ → Option Place
shown_status m b s = unless (checked_done m b s) (λ _. None) m.status

abbrev pub value_in : Option Field → Option Place
value_in None = None
value_in (Some x) = Some x.value

abbrev pub key_in : Option Field → Option Place
key_in None = None
key_in (Some x) = Some x.key

abbrev pub status_in : Option Place → Option Place
status_in None = None
status_in (Some p) = Some p

-- the place of the value that is handed out
abbrev pub value_place : HeaderMap → List ℕ → List ℕ → ℕ → Option Place
value_place m b s i = value_in (slot_of m b s i)

abbrev pub key_place : HeaderMap → List ℕ → List ℕ → ℕ → Option Place
key_place m b s i = key_in (slot_of m b s i)

abbrev pub status_place : HeaderMap → List ℕ → List ℕ → Option Place
status_place m b s = status_in (shown_status m b s)

-- "hands out the value as a part of the block or of the store it lies in, others the key and the status; for a wrong number, no
-- status or a refusal it is the empty part at the start of the block": its octets, and where it begins in memory, the block being
-- lent at x and the store at y
abbrev pub handed_out : List ℕ → List ℕ → Option Place → List ℕ
handed_out b s None = []
handed_out b s (Some p) = at b s p

abbrev pub handed_at : ℕ × ℕ → ℕ × ℕ → Option Place → ℕ × ℕ
handed_at x y None = x
handed_at x y (Some p) = begins x y p

-- what was handed out for a place are the octets r, at z
pub record Handed (b s : List ℕ) (x y : ℕ × ℕ) (p : Option Place) (r : List ℕ) (z : ℕ × ℕ) : Type 0 where
  pub is : r ≡ handed_out b s p
  pub lies : Same z (handed_at x y p)
