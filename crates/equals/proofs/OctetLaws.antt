-- Laws of texts compared octet by octet. Assumes nothing.
use mathlib.Core.Path.{◌≡◌, refl, ap}
use mathlib.Core.Bool.{Bool, true, false, ◌&&◌}
use mathlib.Core.List.{List, [], ◌∷◌}
use Prim.Native.Nat.{ℕ, ◌+◌, ◌≤◌, ◌<◌}
use native.Mathlib.Numerals.{add-one}
use borrow.Author.Tests.{eq-eqb, ne_eqb}
use Rattle.std.proofs.Common.{nat_eq}
use lib.Dec.{eqb}
use lib.ListN.{length, get_or, drop, drop_of_length-le}
use lib.Pointwise.{pointwise}
use lib.Seq.{drop-cons}
use Rattle.leaves.specs.Octets.{same_list}

-- octets compared by the library
pub same_list_is : (a b : List ℕ) → pointwise nat_eq a b ≡ same_list a b
unfolding same_list
same_list_is [] [] = refl
same_list_is [] (y ∷ ys) = refl
same_list_is (x ∷ xs) [] = refl
same_list_is (x ∷ xs) (y ∷ ys) = ap (λ (t : Bool). eqb x y && t) (same_list_is xs ys)

module _ (a b : List ℕ) (i : ℕ) where
  pub same_more : i < length a → i < length b → get_or a i 0 ≡ get_or b i 0 → same_list (drop i a) (drop i b) ≡ same_list (drop (i + 1) a) (drop (i + 1) b)
  unfolding same_list
  same_more h k e = rw (add-one, drop-cons a i 0, drop-cons b i 0, eq-eqb _ _ e)

  pub same_stop : i < length a → i < length b → (get_or a i 0 ≡ get_or b i 0 → ⊥) → same_list (drop i a) (drop i b) ≡ false
  unfolding same_list
  same_stop h k e = rw (drop-cons a i 0, drop-cons b i 0, ne_eqb _ _ e)

  pub same_end : length a ≤ i → length b ≤ i → same_list (drop i a) (drop i b) ≡ true
  unfolding same_list
  same_end h k = rw (drop_of_length-le a h, drop_of_length-le b k)

pub same_by : (k l a b : List ℕ) (r : Bool) → k ≡ a → l ≡ b → r ≡ same_list k l → r ≡ same_list a b
same_by k l a b r e f h = rw (← e, ← f) h
