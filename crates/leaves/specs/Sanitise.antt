-- Sanitised text. Assumes nothing.
use Rattle.std.specs.Prelude.{Bool, cond, ◌&&◌, ◌||◌, List, [], ◌∷◌, ℕ, eqb}
use Rattle.leaves.specs.Trim.{trimmed}

-- "drops CR, .. and in keys and status lines drops colons"
unfoldable pub dropped : Bool → ℕ → Bool
dropped key x = eqb x 13 || (key && eqb x 58)

-- "turns LF into a space"
unfoldable pub spaced : ℕ → ℕ
spaced x = cond (eqb x 10) 32 x

unfoldable pub scrubbed : Bool → List ℕ → List ℕ
scrubbed key [] = []
scrubbed key (x ∷ xs) = cond (dropped key x) (scrubbed key xs) (spaced x ∷ scrubbed key xs)

-- "Sanitising trims, drops CR, turns LF into a space, and in keys and status lines drops colons, after trimming."
abbrev pub sanitised : Bool → List ℕ → List ℕ
sanitised key s = scrubbed key (trimmed s)
