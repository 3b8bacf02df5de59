-- The classes of octets. Assumes nothing.
use Rattle.std.specs.Prelude.{◌≡◌, Bool, true, false, not, ◌&&◌, ◌||◌, List, [], ◌∷◌, ℕ, ◌+◌, ◌<◌, eqb, leb, get_or}
use Rattle.leaves.specs.Octets.{has}

-- "without `( ) < > @ , ; : \ " / [ ] ? = { }`"
unfoldable pub separator : ℕ → Bool
separator x = has x (40 ∷ 41 ∷ 60 ∷ 62 ∷ 64 ∷ 44 ∷ 59 ∷ 58 ∷ 92 ∷ 34 ∷ 47 ∷ 91 ∷ 93 ∷ 63 ∷ 61 ∷ 123 ∷ 125 ∷ [])

-- "Token, never empty: 33 to 126 without" the separators
unfoldable pub token : ℕ → Bool
token x = leb 33 x && leb x 126 && not (separator x)

-- "Text, maybe empty: tab, 32 to 126, 128 to 255."
unfoldable pub text : ℕ → Bool
text x = eqb x 9 || (leb 32 x && leb x 126) || (leb 128 x && leb x 255)

-- "Blank means space, tab, LF, FF, CR (not VT)."
unfoldable pub blank : ℕ → Bool
blank x = has x (32 ∷ 9 ∷ 10 ∷ 12 ∷ 13 ∷ [])

-- 0 to 9
unfoldable pub digit : ℕ → Bool
digit x = leb 48 x && leb x 57

abbrev pub bit : Bool → ℕ → ℕ
bit true n = n
bit false n = 0

-- the class of an octet: a bit for each of token, text, blank and digit
unfoldable pub class_of : ℕ → ℕ
class_of x = bit (token x) 1 + bit (text x) 2 + bit (blank x) 4 + bit (digit x) 8

-- "The class of each octet stands in a table of 256 entries"
abbrev pub Classified : List ℕ → Type 0
Classified t = (x : ℕ) → x < 256 → get_or t x 0 ≡ class_of x
