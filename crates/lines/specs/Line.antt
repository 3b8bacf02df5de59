-- Taking octets until a line ends, the taken run out, or the limit is met: rules 1 and 2. Assumes nothing.
use Rattle.std.specs.Prelude.{◌≡◌, Bool, cond, ◌&&◌, ◌||◌, List, [], ◌∷◌, ℕ, zero, suc, ◌+◌, ◌-◌, ◌≤◌, eqb, ltb, leb, length, get_or, take}
use Rattle.leaves.specs.Paste.{pasted}
use Rattle.lines.specs.declared.Took.{Took}
use Rattle.lines.specs.declared.Took.TheVariants.{Line, More, Full}

-- how many octets were taken
abbrev pub taken : Took → ℕ
taken (Line n) = n
taken (More n) = n
taken (Full n) = n

-- n octets taken before
abbrev pub further : ℕ → Took → Took
further n (Line m) = Line (n + m)
further n (More m) = More (n + m)
further n (Full m) = Full (n + m)

-- whether the octet x ends a line: LF, behind a CR of the line or in quirks mode
unfoldable pub ends_line : Bool → Bool → ℕ → Bool
ends_line quirks cr x = eqb x 10 && (quirks || cr)

-- octets taken one at a time. cr: the line's last octet was CR; room: how many go into the block before its limit
unfoldable pub taking : Bool → Bool → ℕ → List ℕ → Took
taking quirks cr room [] = More 0
taking quirks cr zero (x ∷ xs) = Full 0
taking quirks cr (suc room) (x ∷ xs) = cond (ends_line quirks cr x) (Line 1) (further 1 (taking quirks (eqb x 13) room xs))

-- whether the last of the octets from start to count is CR
unfoldable pub cr_before : List ℕ → ℕ → ℕ → Bool
cr_before d start count = ltb start count && eqb (get_or d (count - 1) 0) 13

-- d₀ became d, with the octets that were taken of s at the place at
pub record Takes (quirks cr : Bool) (room at : ℕ) (s d₀ d : List ℕ) (r : Took) : Type 0 where
  pub is : r ≡ taking quirks cr room s
  pub within : taken r ≤ length s
  pub fits : taken r ≤ room
  pub wrote : d ≡ pasted d₀ at (take (taken r) s)

-- whether the octet before place n is CR; before the first it is cr
abbrev pub cr_at : Bool → List ℕ → ℕ → Bool
cr_at cr s zero = cr
cr_at cr s (suc n) = eqb (get_or s n 0) 13

unfoldable pub line_end : Bool → Bool → List ℕ → ℕ
line_end quirks cr [] = 0
line_end quirks cr (x ∷ xs) = cond (ends_line quirks cr x) 0 (suc (line_end quirks (eqb x 13) xs))

-- whether a line is c octets that begin and end above space, the octet at c, one space, octets that begin and end above space, CR and LF
unfoldable pub tight : ℕ → List ℕ → Bool
tight c l =
    leb 1 c && (leb (c + 5) (length l) && (eqb (get_or l (length l - 1) 0) 10 && (eqb (get_or l (length l - 2) 0) 13 && (ltb 32 (get_or l (length l - 3) 0)
    && (eqb (get_or l (c + 1) 0) 32 && (ltb 32 (get_or l (c + 2) 0) && (ltb 32 (get_or l (c - 1) 0) && ltb 32 (get_or l 0 0))))))))
