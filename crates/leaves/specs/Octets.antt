-- Lists of octets: the octets of a text, and plain questions about a list. Assumes nothing.
use Rattle.std.specs.Prelude.{◌≡◌, Bool, true, false, cond, ◌&&◌, ◌||◌, List, [], ◌∷◌, ℕ, suc, ◌+◌, ◌≤◌, ◌<◌, eqb, length, drop}
use Prim.Native.Char.{code as charCode}
use Prim.Native.String.{String, [] as []ˢ, ◌∷◌ as ◌∷ˢ◌}

-- the octets of a text in ASCII
abbrev pub octets : String → List ℕ
octets []ˢ = []
octets (c ∷ˢ s) = charCode c ∷ octets s

-- whether a list has the octet c
unfoldable pub has : ℕ → List ℕ → Bool
has c [] = false
has c (x ∷ xs) = eqb x c || has c xs

-- how many octets stand before the first c; the length if there is none
unfoldable pub before : ℕ → List ℕ → ℕ
before c [] = 0
before c (x ∷ xs) = cond (eqb x c) 0 (suc (before c xs))

-- whether every octet of a list passes
unfoldable pub all : (ℕ → Bool) → List ℕ → Bool
all p [] = true
all p (x ∷ xs) = p x && all p xs

-- whether two lists are the same
unfoldable pub same_list : List ℕ → List ℕ → Bool
same_list [] [] = true
same_list [] (y ∷ ys) = false
same_list (x ∷ xs) [] = false
same_list (x ∷ xs) (y ∷ ys) = eqb x y && same_list xs ys

-- none of the octets from place from to place i is c
pub record Passed (c : ℕ) (s : List ℕ) (from i : ℕ) : Type 0 where
  pub order : from ≤ i
  pub within : i ≤ length s
  pub is : from + before c (drop from s) ≡ i + before c (drop i s)

-- the same, and one of the n octets from i on is c, if there are as many
pub record Skipped (c : ℕ) (s : List ℕ) (from n i : ℕ) : Type 0 where
  pub passed : Passed c s from i
  pub near : i + n ≤ length s → before c (drop i s) < n
