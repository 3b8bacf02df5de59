-- What the clean test and the tidy test answer. Assumes nothing.
use Rattle.leaves.specs.declared.refusals.Refusal.{Refusal}
use Rattle.std.specs.Prelude.{Bool, List, ℕ, leb, Err, Ok, Result}
use Rattle.leaves.specs.Choice.{when◌then◌else◌}
use Rattle.leaves.specs.Refusals.{refusal}
use Rattle.maps.specs.Good.{checked_done, unless}
use Rattle.maps.specs.declared.HeaderMap.{HeaderMap}
use Rattle.maps.specs.Said.{saying}
use Rattle.line_reader.specs.Reading.{Rules}
use Rattle.rebuilds.specs.Clean.{clean, tidy}

-- "all answer yes or no"
abbrev pub answer : Bool → Result Bool Refusal
answer t = Ok t

-- "Clean is a map call": 3, 2, 7, then whether what the map says is clean
unfoldable pub cleaning : HeaderMap → List ℕ → List ℕ → Result Bool Refusal
cleaning m b s = unless (checked_done m b s) Err (answer (clean (saying m b s)))

-- the rules of a reading with that limit; the store's room is the limit, which no reading exceeds
abbrev pub rules : ℕ → Bool → Rules
rules limit quirks = record { limit = limit; room = limit; quirks = quirks }

-- "tidy a limit too (1 if out of range)"; "A block is tidy for its flags and limit"
unfoldable pub tidying : List ℕ → Bool → Bool → ℕ → Result Bool Refusal
tidying l status quirks limit = when leb limit 65536 then answer (tidy (rules limit quirks) status l) else Err (refusal 1)
