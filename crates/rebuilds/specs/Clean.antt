-- Clean maps and tidy blocks. Assumes nothing.
use Rattle.std.specs.Prelude.{Bool, true, false, ◌&&◌, not, List, [], ◌∷◌, ◌≡◌, ℕ, ◌≤◌, eqb, length, None, Ok, Option, Some}
use Rattle.leaves.specs.Octets.{has, same_list}
use Rattle.leaves.specs.Trim.{trimmed}
use Rattle.line_reader.specs.Reading.{Rules, Reading, begun, fed}
use Rattle.readings.specs.Listening.{said, at_blank}
use Rattle.line_reader.specs.declared.Answer.TheVariants.{Blank}
use Rattle.maps.specs.Said.{Pair, Said}
use Rattle.writes.specs.Written.{rebuilt}

-- "without CR, LF or outer blanks": trimming takes nothing away
unfoldable pub neat : List ℕ → Bool
neat l = not (has 13 l) && (not (has 10 l) && same_list (trimmed l) l)

abbrev pub filled : List ℕ → Bool
filled [] = false
filled (x ∷ xs) = true

-- "every key non-empty, without colon; keys, values .. without CR, LF or outer blanks"
unfoldable pub clean_pair : Pair → Bool
clean_pair p = filled p.key && (not (has 58 p.key) && (neat p.key && neat p.value))

unfoldable pub clean_pairs : List Pair → Bool
clean_pairs [] = true
clean_pairs (p ∷ ps) = clean_pair p && clean_pairs ps

-- "a present status without CR, LF or outer blanks; a present status non-empty"
unfoldable pub clean_status : Option (List ℕ) → Bool
clean_status None = true
clean_status (Some l) = filled l && neat l

-- "Clean: every key non-empty, without colon; keys, values and a present status without CR, LF or outer blanks; a present status
-- non-empty."
unfoldable pub clean : Said → Bool
clean m = clean_status m.status && clean_pairs m.pairs

-- a status is present
abbrev pub expects : Option (List ℕ) → Bool
expects None = false
expects (Some l) = true

-- a reading that ended at its blank line, has taken all of b and says m
pub record Gives (b : List ℕ) (m : Said) (r : Reading) : Type 0 where
  pub answer : r.answer ≡ Ok Blank
  pub block : r.block ≡ b
  pub says : said r ≡ m

abbrev pub alike : Bool → Bool → Bool
alike true b = b
alike false b = not b

-- "the reading takes all of it and ends at its blank line, the map is clean, a status is present exactly when expected, and
-- rebuilding gives the same octets": of the block b and its reading r
unfoldable pub tidy_after : Bool → List ℕ → Reading → Bool
tidy_after status b r =
    eqb (length r.block) (length b) &&
    (at_blank r.answer &&
    (clean (said r) && (alike (expects (said r).status) status && same_list (rebuilt (said r)) b)))

-- "A block is tidy for its flags and limit exactly if the reading takes all of it and ends at its blank line, the map is clean, a
-- status is present exactly when expected, and rebuilding gives the same octets."
unfoldable pub tidy : Rules → Bool → List ℕ → Bool
tidy R status b = tidy_after status b (fed R (begun status) b)

-- b is the rebuilt block of the clean map m, a status is present exactly when expected, and both keep within their limits
pub record Rebuilds (limit : ℕ) (status : Bool) (b : List ℕ) (m : Said) : Type 0 where
  pub is_clean : clean m ≡ true
  pub agrees : expects m.status ≡ status
  pub few : length m.pairs ≤ 256
  pub fits : length b ≤ limit
  pub is : b ≡ rebuilt m
