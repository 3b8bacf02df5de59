-- A decimal number, as a list of octets says it. Assumes nothing.
use Rattle.std.specs.Prelude.{Bool, false, cond, List, [], ◌∷◌, ℕ, ◌+◌, ◌-◌, ◌*◌, min}
use Rattle.leaves.specs.Class.{digit}
use Rattle.leaves.specs.Octets.{all}

-- the decimal number that the digits of a list write behind the number n
unfoldable pub decimal_from : ℕ → List ℕ → ℕ
decimal_from n [] = n
decimal_from n (x ∷ xs) = decimal_from (n * 10 + (x - 48)) xs

abbrev pub decimal : List ℕ → ℕ
decimal s = decimal_from 0 s

-- "one or more digits"
unfoldable pub is_decimal : List ℕ → Bool
is_decimal [] = false
is_decimal (x ∷ xs) = all digit (x ∷ xs)

-- "the lesser of the decimal number and 18,446,744,073,709,551,615; 0 if empty or any octet is no digit"
unfoldable pub content_length : List ℕ → ℕ
content_length s = cond (is_decimal s) (min (decimal s) 18446744073709551615) 0
