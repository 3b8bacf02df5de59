-- What a header opens, over what its map says: 9, 10 and the record. Assumes nothing.
use Rattle.leaves.specs.declared.refusals.Refusal.{Refusal}
use Rattle.std.specs.Prelude.{Bool, false, ◌&&◌, ◌||◌, List, [], ◌∷◌, ℕ, leb, Err, None, Ok, Option, Result, Some}
use Rattle.leaves.specs.Choice.{when◌then◌else◌}
use Rattle.leaves.specs.Octets.{octets, same_list}
use Rattle.leaves.specs.Number.{decimal, is_decimal}
use Rattle.leaves.specs.Trim.{trimmed}
use Rattle.leaves.specs.Refusals.{refusal}
use Rattle.standard.specs.Names.{name_of}
use Rattle.standard.specs.Types.{type_code}
use Rattle.standard.specs.declared.names.WarcHeader.TheVariants.{WarcType, ContentLength}
use Rattle.maps.specs.Good.{checked_done, unless}
use Rattle.maps.specs.declared.HeaderMap.{HeaderMap}
use Rattle.maps.specs.Said.{Said, saying}
use Rattle.singles.specs.Single.{values_of, only_value}

-- "over 1,099,511,627,776"
abbrev pub longest : ℕ
longest = 1099511627776

-- "`WARC/1.0` or `WARC/1.1`"
abbrev pub version_text : List ℕ → Bool
version_text t = same_list t (octets "WARC/1.0") || same_list t (octets "WARC/1.1")

-- "9 looks at the trimmed status (absent is 9)"
abbrev pub is_version : Option (List ℕ) → Bool
is_version None = false
is_version (Some t) = version_text (trimmed t)

-- not "absent, repeated, not one or more digits, or over 1,099,511,627,776": a value absent or repeated is no octets here
abbrev pub is_length : List ℕ → Bool
is_length v = is_decimal v && leb (decimal v) longest

-- "no field 0"; "the first `WARC-Type` counts"
abbrev pub type_of : List (List ℕ) → ℕ
type_of [] = 0
type_of (v ∷ vs) = type_code v

-- "comes before 10, both after the header's end"
unfoldable pub opened : Said → Result (ℕ × ℕ) Refusal
opened x =
    when is_version x.status
    then when is_length (only_value (name_of ContentLength) x)
    then Ok (decimal (only_value (name_of ContentLength) x), type_of (values_of (name_of WarcType) x.pairs))
    else Err (refusal 10)
    else Err (refusal 9)

unfoldable pub opening : HeaderMap → List ℕ → List ℕ → Result (ℕ × ℕ) Refusal
opening m b s = unless (checked_done m b s) Err (opened (saying m b s))
