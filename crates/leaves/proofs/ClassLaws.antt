-- Each bit of an octet's class tells its own test. Assumes nothing.
use mathlib.Core.Path.{◌≡◌, refl}
use mathlib.Core.Bool.{Bool, true, false, not}
use Prim.Native.Nat.{ℕ, ◌+◌}
use lib.Dec.{eqb}
use lib.Bits.{bit_and}
use Rattle.leaves.specs.Class.{token, text, blank, digit, class_of, bit}

abbrev pub has_bit : ℕ → ℕ → Bool
has_bit x n = not (eqb (bit_and x n) 0)

abbrev Tells : ℕ → Bool → Bool → Bool → Bool → Type 0
Tells x a b c d = (has_bit x 1 ≡ a) × (has_bit x 2 ≡ b) × (has_bit x 4 ≡ c) × (has_bit x 8 ≡ d)

bits : (a b c d : Bool) → Tells (bit a 1 + bit b 2 + bit c 4 + bit d 8) a b c d
bits true true true true = (refl, refl, refl, refl)
bits true true true false = (refl, refl, refl, refl)
bits true true false true = (refl, refl, refl, refl)
bits true true false false = (refl, refl, refl, refl)
bits true false true true = (refl, refl, refl, refl)
bits true false true false = (refl, refl, refl, refl)
bits true false false true = (refl, refl, refl, refl)
bits true false false false = (refl, refl, refl, refl)
bits false true true true = (refl, refl, refl, refl)
bits false true true false = (refl, refl, refl, refl)
bits false true false true = (refl, refl, refl, refl)
bits false true false false = (refl, refl, refl, refl)
bits false false true true = (refl, refl, refl, refl)
bits false false true false = (refl, refl, refl, refl)
bits false false false true = (refl, refl, refl, refl)
bits false false false false = (refl, refl, refl, refl)

told : (k : ℕ) → Tells (class_of k) (token k) (text k) (blank k) (digit k)
unfolding class_of
told k = bits (token k) (text k) (blank k) (digit k)

-- so the class of an octet is carried to each look-up
pub token_told : (k : ℕ) → has_bit (class_of k) 1 ≡ token k
token_told k = (told k).0

pub text_told : (k : ℕ) → has_bit (class_of k) 2 ≡ text k
text_told k = (told k).1

pub blank_told : (k : ℕ) → has_bit (class_of k) 4 ≡ blank k
blank_told k = (told k).2

pub digit_told : (k : ℕ) → has_bit (class_of k) 8 ≡ digit k
digit_told k = (told k).3
