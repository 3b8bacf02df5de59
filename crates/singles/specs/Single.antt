-- The value of a name that exactly one field has. Assumes nothing.
use Rattle.std.specs.Prelude.{List, [], ◌∷◌, ◌++◌, ℕ}
use Rattle.leaves.specs.Choice.{when◌then◌else◌}
use Rattle.maps.specs.Good.{checked_done, unless}
use Rattle.maps.specs.declared.HeaderMap.{HeaderMap}
use Rattle.maps.specs.Said.{Pair, Said, called, saying}

-- the values of the fields of a name, in their order; "Names compare without ASCII case."
unfoldable pub values_of : List ℕ → List Pair → List (List ℕ)
values_of name [] = []
values_of name (x ∷ xs) = (when called name x then x.value ∷ [] else []) ++ values_of name xs

-- the value of a name that exactly one field has, else no octets
abbrev pub only_of : List (List ℕ) → List ℕ
only_of [] = []
only_of (v ∷ []) = v
only_of (v ∷ w ∷ ws) = []

abbrev pub only_value : List ℕ → Said → List ℕ
only_value name x = only_of (values_of name x.pairs)

-- the same of a map that 3, 2 and 7 do not refuse; a refused one has no octets
unfoldable pub single : HeaderMap → List ℕ → List ℕ → List ℕ → List ℕ
single m b s name = unless (checked_done m b s) (λ _. []) (only_value name (saying m b s))
