-- Map equality: maps that say the same. Assumes nothing.
use Rattle.leaves.specs.declared.refusals.Refusal.{Refusal}
use Rattle.std.specs.Prelude.{Bool, true, false, ◌&&◌, List, [], ◌∷◌, ℕ, Err, None, Ok, Option, Result, Some}
use Rattle.leaves.specs.Octets.{same_list}
use Rattle.leaves.specs.Choice.{when◌then◌else◌}
use Rattle.maps.specs.Good.{checked_done, unless}
use Rattle.maps.specs.declared.HeaderMap.{HeaderMap}
use Rattle.maps.specs.Said.{Pair, Said, saying}

-- "keys and values by octets"
unfoldable pub same_pairs : List Pair → List Pair → Bool
same_pairs [] [] = true
same_pairs [] (q ∷ qs) = false
same_pairs (p ∷ ps) [] = false
same_pairs (p ∷ ps) (q ∷ qs) = same_list p.key q.key && (same_list p.value q.value && same_pairs ps qs)

-- "absent and empty status differing"
unfoldable pub same_status : Option (List ℕ) → Option (List ℕ) → Bool
same_status None None = true
same_status None (Some y) = false
same_status (Some x) None = false
same_status (Some x) (Some y) = same_list x y

-- "Map equality compares status, keys and values by octets, absent and empty status differing."
unfoldable pub same_said : Said → Said → Bool
same_said x y = same_status x.status y.status && same_pairs x.pairs y.pairs

-- "With two maps the first is checked whole before the second."
unfoldable pub comparing : HeaderMap → List ℕ → List ℕ → HeaderMap → List ℕ → List ℕ → Result Bool Refusal
comparing m b s k c z =
    unless (checked_done m b s) Err (unless (checked_done k c z) Err (when same_said (saying m b s) (saying k c z) then Ok true else Ok false))
