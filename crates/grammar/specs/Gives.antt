-- What the reading of a grammatical header gives. Assumes nothing.
use Rattle.std.specs.Prelude.{List, [], ◌∷◌, ◌++◌, map, ℕ, Some}
use Rattle.leaves.specs.Trim.{trimmed}
use Rattle.maps.specs.Said.{Pair, Said}
use Rattle.grammar.specs.Grammar.{Fold, Entry, Header}

-- "the last value becomes old value, one space, trimmed line", for each folded line; so a fold of blanks leaves a trailing space
unfoldable pub folded_on : List ℕ → List Fold → List ℕ
folded_on v [] = v
folded_on v (f ∷ fs) = folded_on (v ++ 32 ∷ trimmed f.text) fs

-- a field: its key, and its trimmed text with what its folded lines add
unfoldable pub pair_of : Entry → Pair
pair_of e = record { key = e.key; value = folded_on (trimmed e.text) e.folds }

-- "Read with status expected and no quirks, values are rule 4's": the status is the version, the fields stand in order
unfoldable pub told : Header → Said
told h = record { status = Some h.version; pairs = map pair_of h.entries }
