-- How far one pass over a block's lines gets. Assumes nothing.
use Rattle.std.specs.Prelude.{Bool, true, false, ◌&&◌, List, [], ◌∷◌, ℕ, ◌+◌, take, drop, None, Option, Some}
use Rattle.leaves.specs.Octets.{before, same_list}
use Rattle.rebuilds.specs.Clean.{neat, filled}
use Rattle.rebuilds.specs.Scan.{neat_key, neat_line, after_key}

abbrev pub past : Bool → ℕ → Option ℕ
past true e = Some e
past false e = None

-- the octets before the first x are a neat text, and x and y follow
unfoldable pub ends : ℕ → ℕ → List ℕ → Bool
ends x y l = neat (take (before x l) l) && same_list (take 2 (drop (before x l) l)) (x ∷ y ∷ [])

-- the place behind the first x from at on, and the octet after it
abbrev pub behind : ℕ → List ℕ → ℕ → ℕ
behind x l at = at + before x (drop at l) + 2

unfoldable pub past_text : ℕ → ℕ → List ℕ → ℕ → Option ℕ
past_text x y l at = past (ends x y (drop at l)) (behind x l at)

-- the same of a text that is not empty
unfoldable pub past_filled : ℕ → ℕ → List ℕ → ℕ → Option ℕ
past_filled x y l at = past (filled (take (before x (drop at l)) (drop at l)) && ends x y (drop at l)) (behind x l at)

-- key, colon and space, value, CR and LF
unfoldable pub past_pair : List ℕ → ℕ → Option ℕ
past_pair l at = past (neat_key (drop at l) && neat_line (after_key (drop at l))) (behind 13 l (behind 58 l at))
