-- What one pass over the fields sees of the names that open a record. Assumes nothing.
use Rattle.leaves.specs.declared.refusals.Refusal.{Refusal}
use Rattle.std.specs.Prelude.{Bool, true, false, List, [], ◌∷◌, ℕ, ◌+◌, eqb, take, get_or, Err, Ok, Option, Result}
use Rattle.leaves.specs.Choice.{when◌then◌else◌}
use Rattle.leaves.specs.Name.{same_name}
use Rattle.leaves.specs.Number.{decimal}
use Rattle.leaves.specs.Trim.{trimmed}
use Rattle.leaves.specs.Refusals.{refusal}
use Rattle.standard.specs.Names.{name_of}
use Rattle.standard.specs.Types.{type_code}
use Rattle.standard.specs.declared.names.WarcHeader.TheVariants.{WarcType, ContentLength}
use Rattle.maps.specs.Places.{at, no_field}
use Rattle.maps.specs.Said.{status_at, text_of}
use Rattle.maps.specs.declared.Field.{Field}
use Rattle.maps.specs.declared.Place.{Place}
use Rattle.lookups.specs.Lookups.{named}
use Rattle.openings.specs.Opening.{version_text, is_length}
use Rattle.openings.specs.declared.Sight.{Sight}
use Rattle.openings.specs.declared.Sights.{Sights}
use Rattle.openings.specs.declared.Spots.{Spots}

-- no field of a name was seen
abbrev pub unseen : Sight
unseen = record { at = 0; times = 0 }

abbrev pub nothing : Sights
nothing = record { length = unseen; kind = unseen }

-- the field i is one of the name: the first one's number is kept, and of more than one only that there are
unfoldable pub again : Sight → ℕ → Sight
again z i = when eqb z.times 0 then record { at = i; times = 1 } else record { at = z.at; times = 2 }

-- the field i, and whether it is one of the name
abbrev pub seen : Sight → Bool → ℕ → Sight
seen z true i = again z i
seen z false i = z

-- the field i with a key
abbrev pub noted : Sights → List ℕ → ℕ → Sights
noted z key i =
    record {
      length = seen z.length (same_name key (name_of ContentLength)) i;
      kind = seen z.kind (same_name key (name_of WarcType)) i;
    }

-- a pass over fields of which the first is number i
unfoldable pub sighted : (Field → Bool) → Sight → ℕ → List Field → Sight
sighted p z i [] = z
sighted p z i (x ∷ xs) = sighted p (seen z (p x) i) (i + 1) xs

abbrev pub passed : List ℕ → List ℕ → Sights → ℕ → List Field → Sights
passed b s z i xs =
    record {
      length = sighted (named b s (name_of ContentLength)) z.length i xs;
      kind = sighted (named b s (name_of WarcType)) z.kind i xs;
    }

-- where the values of a table's fields lie that were seen
abbrev pub spots_at : List Field → Sights → Spots
spots_at t z =
    record {
      lengths = z.length.times;
      length = (get_or t z.length.at no_field).value;
      kinds = z.kind.times;
      kind = (get_or t z.kind.at no_field).value;
    }

-- what a pass over a table's first n fields finds
unfoldable pub spotted : List ℕ → List ℕ → List Field → ℕ → Spots
spotted b s t n = spots_at t (passed b s nothing 0 (take n t))

-- the value of the only field: without one, with more, no octets
unfoldable pub length_text : List ℕ → List ℕ → ℕ → Place → List ℕ
length_text b s times p = when eqb times 1 then at b s p else []

-- "no field 0"; "the first `WARC-Type` counts"
unfoldable pub kind_code : List ℕ → List ℕ → ℕ → Place → ℕ
kind_code b s times p = when eqb times 0 then 0 else type_code (at b s p)

-- what a status, the value of the only `Content-Length` and a type open
unfoldable pub opened_by : List ℕ → List ℕ → ℕ → Result (ℕ × ℕ) Refusal
opened_by t v k =
    when version_text (trimmed t)
    then when is_length v then Ok (decimal v, k) else Err (refusal 10)
    else Err (refusal 9)

-- what a status and spots open
unfoldable pub opened_at : List ℕ → List ℕ → Option Place → Spots → Result (ℕ × ℕ) Refusal
opened_at b s status z =
    opened_by (text_of (status_at b s status)) (length_text b s z.lengths z.length) (kind_code b s z.kinds z.kind)
