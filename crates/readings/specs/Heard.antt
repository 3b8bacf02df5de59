-- Rule 4 in octets: what a line adds to what the lines before it said. `folds.Rule` says the same of places. Assumes nothing.
use Rattle.std.specs.Prelude.{Bool, false, List, [], ◌∷◌, ◌++◌, ℕ, ◌+◌, ltb, length, take, drop, Some}
use Rattle.leaves.specs.Choice.{when◌then◌else◌}
use Rattle.leaves.specs.Octets.{before}
use Rattle.leaves.specs.Trim.{trimmed}
use Rattle.maps.specs.Said.{Pair, Said}
use Rattle.folds.specs.Rule.{continues}

-- what lines have said, and whether a status line is still expected
pub record Hearing : Type 0 where
  pub awaits : Bool
  pub said : Said

-- "the last value becomes old value, one space, trimmed line; without an earlier field a field with empty key is added"
unfoldable pub continued : List ℕ → List Pair → List Pair
continued t [] = record { key = []; value = t } ∷ []
continued t (p ∷ []) = record { key = p.key; value = p.value ++ 32 ∷ t } ∷ []
continued t (p ∷ q ∷ ps) = p ∷ continued t (q ∷ ps)

-- "it splits at the first colon, both sides trimmed; no colon, no field"
unfoldable pub fields_in : List ℕ → List Pair
fields_in l =
    when ltb (before 58 l) (length l)
    then record { key = trimmed (take (before 58 l) l); value = trimmed (drop (before 58 l + 1) l) } ∷ []
    else []

-- "if a status line is expected, the trimmed line is the status. Else, if it starts with space or tab, the last value becomes old value, one
-- space, trimmed line; .. Else it splits at the first colon"
unfoldable pub heard : List ℕ → Hearing → Hearing
heard l h =
    when h.awaits then record { awaits = false; said = record { status = Some (trimmed l); pairs = h.said.pairs } }
    else when continues l
    then record { awaits = h.awaits; said = record { status = h.said.status; pairs = continued (trimmed l) h.said.pairs } }
    else record { awaits = h.awaits; said = record { status = h.said.status; pairs = h.said.pairs ++ fields_in l } }
