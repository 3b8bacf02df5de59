-- Laws of a content length read from the front. Assumes nothing.
use mathlib.Core.Path.{◌≡◌, refl, sym, ap, ◌∙◌}
use mathlib.Core.Bool.{true, false, cond}
use mathlib.Core.List.{List, [], ◌∷◌}
use Prim.Native.Nat.{ℕ, suc, min, ◌+◌, ◌-◌, ◌*◌, ◌≤◌, ◌<◌}
use native.Mathlib.Omega.{arith}
use native.Mathlib.Numerals.{add-one}
use borrow.Author.Tests.{leb-true}
use lib.Dec.{leb}
use lib.ListN.{length, get_or, drop, drop_of_length-le}
use lib.Seq.{drop-cons}
use Rattle.leaves.specs.Class.{digit}
use Rattle.leaves.specs.Number.{decimal_from, is_decimal, content_length}
use Rattle.leaves.specs.Octets.{all}
use Rattle.leaves.proofs.ChoiceLaws.{and_left, and_right}

pub digit_range : (x : ℕ) → digit x ≡ true → (48 ≤ x) × (x ≤ 57)
unfolding digit
digit_range x e = (leb-true 48 x (and_left (leb 48 x) (leb x 57) e), leb-true x 57 (and_right (leb 48 x) (leb x 57) e))

abbrev capped : ℕ → List ℕ → ℕ
capped n s = min (decimal_from n s) 18446744073709551615

-- to cap the number on the way changes nothing
cap : (n : ℕ) (s : List ℕ) → capped (min n 18446744073709551615) s ≡ capped n s
unfolding decimal_from
cap n [] = omega arith
cap n (x ∷ xs) =
    let m : min (min n 18446744073709551615 * 10 + (x - 48)) 18446744073709551615 ≡ min (n * 10 + (x - 48)) 18446744073709551615 = omega arith in
    sym (cap (min n 18446744073709551615 * 10 + (x - 48)) xs) ∙ ap (λ (k : ℕ). capped k xs) m ∙ cap (n * 10 + (x - 48)) xs

-- what is left to say of a length once the number n has been read
abbrev pub length_from : ℕ → List ℕ → ℕ
length_from n s = cond (all digit s) (capped n s) 0

pub length_start : (s : List ℕ) → content_length s ≡ length_from 0 (drop 0 s)
unfolding content_length is_decimal all decimal_from
length_start [] = refl
length_start (x ∷ xs) = refl

pub length_more : (s : List ℕ) (i n : ℕ) → i < length s → digit (get_or s i 0) ≡ true
    → length_from n (drop i s) ≡ length_from (min (n * 10 + (get_or s i 0 - 48)) 18446744073709551615) (drop (i + 1) s)
unfolding all decimal_from
length_more s i n h e =
    rw (add-one, drop-cons s i 0, e)
    (ap (λ (k : ℕ). cond (all digit (drop (suc i) s)) k 0) (sym (cap (n * 10 + (get_or s i 0 - 48)) (drop (suc i) s))))

pub length_stop : (s : List ℕ) (i n : ℕ) → i < length s → digit (get_or s i 0) ≡ false → length_from n (drop i s) ≡ 0
unfolding all decimal_from
length_stop s i n h e = rw (drop-cons s i 0, e)

pub length_end : (s : List ℕ) (i n : ℕ) → length s ≤ i → n ≤ 18446744073709551615 → length_from n (drop i s) ≡ n
unfolding all decimal_from
length_end s i n h e = rw (drop_of_length-le s h) (omega arith)

-- one or more digits
pub decimal_none : (s : List ℕ) → length s ≡ 0 → is_decimal s ≡ false
unfolding is_decimal
decimal_none [] h = refl
decimal_none (x ∷ xs) h = absurd (omega arith)

pub decimal_some : (s : List ℕ) → (length s ≡ 0 → ⊥) → is_decimal s ≡ all digit s
unfolding is_decimal
decimal_some [] h = absurd (h refl)
decimal_some (x ∷ xs) h = refl
