-- Names, compared without ASCII case. Assumes nothing.
use Rattle.std.specs.Prelude.{Bool, cond, ◌&&◌, List, map, ℕ, ◌+◌, leb}
use Rattle.leaves.specs.Octets.{same_list}

-- A to Z become a to z
unfoldable pub lowered : ℕ → ℕ
lowered x = cond (leb 65 x && leb x 90) (x + 32) x

-- "Names compare without ASCII case."
abbrev pub same_name : List ℕ → List ℕ → Bool
same_name a b = same_list (map lowered a) (map lowered b)
