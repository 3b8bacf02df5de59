-- A tidy block told in one pass over its lines, with nothing kept but the number of fields left. Assumes nothing.
use Rattle.std.specs.Prelude.{Bool, true, false, ◌&&◌, ◌||◌, List, [], ◌∷◌, ℕ, zero, suc, ◌+◌, take, drop}
use Rattle.leaves.specs.Octets.{before, same_list}
use Rattle.writes.specs.Written.{crlf}
use Rattle.rebuilds.specs.Clean.{neat, filled}

-- the octets before the first CR are a neat text, and CR LF follows
unfoldable pub neat_line : List ℕ → Bool
neat_line l = neat (take (before 13 l) l) && same_list (take 2 (drop (before 13 l) l)) crlf

-- what follows that line
abbrev pub after_line : List ℕ → List ℕ
after_line l = drop (before 13 l + 2) l

-- the octets before the first colon are a neat text that is not empty, and colon and space follow
unfoldable pub neat_key : List ℕ → Bool
neat_key l = filled (take (before 58 l) l) && (neat (take (before 58 l) l) && same_list (take 2 (drop (before 58 l) l)) (58 ∷ 32 ∷ []))

abbrev pub after_key : List ℕ → List ℕ
after_key l = drop (before 58 l + 2) l

-- the lines of at most n clean pairs, CR LF, and nothing behind it
unfoldable pub scan_pairs : ℕ → List ℕ → Bool
scan_pairs zero l = same_list l crlf
scan_pairs (suc n) l = same_list l crlf || (neat_key l && (neat_line (after_key l) && scan_pairs n (after_line (after_key l))))

-- before them, where it is expected, the line of a clean status
unfoldable pub scanned : Bool → List ℕ → Bool
scanned false l = scan_pairs 256 l
scanned true l = filled (take (before 13 l) l) && (neat_line l && scan_pairs 256 (after_line l))
