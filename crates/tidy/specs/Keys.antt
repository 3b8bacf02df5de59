-- A clean key. Assumes nothing.
use Rattle.std.specs.Prelude.{Bool, ◌&&◌, not, List, ℕ}
use Rattle.leaves.specs.Octets.{has}
use Rattle.rebuilds.specs.Clean.{neat, filled}

-- "every key non-empty, without colon; keys .. without CR, LF or outer blanks"
unfoldable pub clean_key : List ℕ → Bool
clean_key k = filled k && (not (has 58 k) && neat k)
