-- Laws of names compared without case. Assumes nothing.
use mathlib.Core.Path.{◌≡◌, refl, ap}
use mathlib.Core.Bool.{true, false, false≢true}
use mathlib.Core.List.{List, [], ◌∷◌, map}
use Prim.Native.Nat.{ℕ, suc, ◌+◌, ◌≤◌, ◌<◌}
use native.Mathlib.Numerals.{add-one}
use borrow.Author.Tests.{eq-eqb, ne_eqb, eqb-true}
use lib.Dec.{eqb}
use lib.ListN.{length, get_or, drop, drop_of_length-le}
use lib.Seq.{drop-cons}
use Rattle.leaves.proofs.ChoiceLaws.{and_left, and_right, and_false}
use Rattle.leaves.specs.Name.{lowered, same_name}
use Rattle.leaves.specs.Octets.{same_list}

-- what `same_list` tells
pub same_list_refl : (a : List ℕ) → same_list a a ≡ true
unfolding same_list
same_list_refl [] = refl
same_list_refl (x ∷ xs) = rw (eq-eqb x x refl) (same_list_refl xs)

pub same_list_eq : (a b : List ℕ) → same_list a b ≡ true → a ≡ b
unfolding same_list
same_list_eq [] [] e = refl
same_list_eq [] (y ∷ ys) e = absurd (false≢true e)
same_list_eq (x ∷ xs) [] e = absurd (false≢true e)
same_list_eq (x ∷ xs) (y ∷ ys) e =
    let p : x ≡ y = eqb-true x y (and_left (eqb x y) (same_list xs ys) e) in
    let q : xs ≡ ys = same_list_eq xs ys (and_right (eqb x y) (same_list xs ys) e) in
    rw (p, q)

-- names that are the same: each is the same as itself, the other way round, and as what the other is
pub name_refl : (a : List ℕ) → same_name a a ≡ true
name_refl a = same_list_refl (map lowered a)

pub name_sym : (a b : List ℕ) → same_name a b ≡ true → same_name b a ≡ true
name_sym a b e = rw (same_list_eq (map lowered a) (map lowered b) e) (same_list_refl (map lowered b))

pub name_trans : (a b c : List ℕ) → same_name a b ≡ true → same_name b c ≡ true → same_name a c ≡ true
name_trans a b c e f = rw (same_list_eq (map lowered a) (map lowered b) e) f

-- texts of different lengths are not the same
pub apart : (a b : List ℕ) → (length a ≡ length b → ⊥) → same_list a b ≡ false
unfolding same_list
apart [] [] h = absurd (h refl)
apart [] (y ∷ ys) h = refl
apart (x ∷ xs) [] h = refl
apart (x ∷ xs) (y ∷ ys) h = and_false (eqb x y) _ (apart xs ys (λ e. h (ap suc e)))

pub same_apart : (a b : List ℕ) → (length a ≡ length b → ⊥) → same_name a b ≡ false
unfolding same_list
same_apart [] [] h = absurd (h refl)
same_apart [] (y ∷ ys) h = refl
same_apart (x ∷ xs) [] h = refl
same_apart (x ∷ xs) (y ∷ ys) h = and_false (eqb (lowered x) (lowered y)) _ (same_apart xs ys (λ e. h (ap suc e)))

module _ (a b : List ℕ) (i : ℕ) where
  pub same_more : i < length a → i < length b → lowered (get_or a i 0) ≡ lowered (get_or b i 0)
      → same_name (drop i a) (drop i b) ≡ same_name (drop (i + 1) a) (drop (i + 1) b)
  unfolding same_list
  same_more h k e = rw (add-one, drop-cons a i 0, drop-cons b i 0, eq-eqb _ _ e)

  pub same_stop : i < length a → i < length b → (lowered (get_or a i 0) ≡ lowered (get_or b i 0) → ⊥) → same_name (drop i a) (drop i b) ≡ false
  unfolding same_list
  same_stop h k e = rw (drop-cons a i 0, drop-cons b i 0, ne_eqb _ _ e)

  pub same_end : length a ≤ i → length b ≤ i → same_name (drop i a) (drop i b) ≡ true
  unfolding same_list
  same_end h k = rw (drop_of_length-le a h, drop_of_length-le b k)

-- a name against a list that is read from its front
module _ (a : List ℕ) (n y : ℕ) (ys : List ℕ) where
  pub name_short : length a ≤ n → same_name (drop n a) (y ∷ ys) ≡ false
  unfolding same_list
  name_short h = rw (drop_of_length-le a h)

  pub name_more : n < length a → lowered (get_or a n 0) ≡ lowered y → same_name (drop n a) (y ∷ ys) ≡ same_name (drop (n + 1) a) ys
  unfolding same_list
  name_more h e = rw (add-one, drop-cons a n 0, eq-eqb _ _ e)

  pub name_stop : n < length a → (lowered (get_or a n 0) ≡ lowered y → ⊥) → same_name (drop n a) (y ∷ ys) ≡ false
  unfolding same_list
  name_stop h e = rw (drop-cons a n 0, ne_eqb _ _ e)

pub name_left : (a : List ℕ) (n : ℕ) → n < length a → same_name (drop n a) [] ≡ false
unfolding same_list
name_left a n h = rw (drop-cons a n 0)

pub name_end : (a : List ℕ) (n : ℕ) → length a ≤ n → same_name (drop n a) [] ≡ true
unfolding same_list
name_end a n h = rw (drop_of_length-le a h)
