-- Laws of looking for an octet, and of a test of every octet, from the front. Assumes nothing.
use mathlib.Core.Path.{◌≡◌, refl, sym, ap, ◌∙◌}
use mathlib.Core.Bool.{Bool, true, false, cond, ◌||◌, false≢true}
use mathlib.Core.List.{List, [], ◌∷◌, ◌++◌}
use Prim.Native.Nat.{ℕ, zero, suc, min, ◌+◌, ◌≤◌, ◌<◌}
use native.Mathlib.Nat.{zero-add, add_assoc}
use native.Mathlib.Omega.{arith}
use native.Mathlib.Numerals.{add-one}
use borrow.Author.Tests.{eqb-true, eq-eqb}
use lib.Dec.{eqb}
use lib.ListN.{length, get_or, take, drop, length-drop, drop_of_length-le}
use lib.Seq.{drop-cons, drop-drop, drop_at, get_or-drop, take-suc, take-add, length-take-le}
use Rattle.leaves.proofs.ChoiceLaws.{or_assoc, or_false, or_left, or_right}
use Rattle.leaves.specs.Octets.{has, before, all, Passed}

module _ (c : ℕ) where
  has_snoc : (l : List ℕ) (x : ℕ) → has c (l ++ (x ∷ [])) ≡ (has c l || eqb x c)
  unfolding has
  has_snoc [] x = or_false (eqb x c)
  has_snoc (y ∷ ys) x = ap (λ (b : Bool). eqb y c || b) (has_snoc ys x) ∙ or_assoc (eqb y c) (has c ys) (eqb x c)

  pub has_none : (l : List ℕ) → false ≡ has c (take 0 l)
  unfolding has
  has_none l = refl

  pub has_next : (s : List ℕ) (at j : ℕ) → at + j < length s → has c (take (j + 1) (drop at s)) ≡ (has c (take j (drop at s)) || eqb (get_or s (at + j) 0) c)
  has_next s at j h =
      let k : j < length (drop at s) = omega (arith, length-drop at s) in
      ap (λ (n : ℕ). has c (take n (drop at s))) (add-one j) ∙ ap (has c) (take-suc (drop at s) j 0 k) ∙ has_snoc (take j (drop at s)) (get_or (drop at s) j 0) ∙
      ap (λ (x : ℕ). has c (take j (drop at s)) || eqb x c) (get_or-drop at s j 0)

  -- a search of the first n octets
  pub before_take : (n : ℕ) (l : List ℕ) → before c (take n l) ≡ min n (before c l)
  unfolding before
  before_take zero l = omega arith
  before_take (suc n) [] = omega arith
  before_take (suc n) (x ∷ xs) = choose (eqb x c) (before_take n xs)
    where
      choose : (b : Bool) → before c (take n xs) ≡ min n (before c xs) → cond b 0 (suc (before c (take n xs))) ≡ min (suc n) (cond b 0 (suc (before c xs)))
      choose true ih = omega arith
      choose false ih = omega arith

  -- octets before the first c are passed over
  pub before_after : (k : ℕ) (l : List ℕ) → k ≤ before c l → before c l ≡ k + before c (drop k l)
  unfolding before
  before_after zero l h = sym (zero-add _)
  before_after (suc k) [] h = absurd (omega arith)
  before_after (suc k) (x ∷ xs) h = choose (eqb x c) (λ (j : k ≤ before c xs). before_after k xs j) h
    where
      choose : (b : Bool) → (k ≤ before c xs → before c xs ≡ k + before c (drop k xs)) → suc k ≤ cond b 0 (suc (before c xs)) → cond b 0 (suc (before c xs)) ≡ suc k + before c (drop k xs)
      choose true ih h = absurd (omega arith)
      choose false ih h = omega (arith, ih (omega arith))

  pub has_far : (n : ℕ) (l : List ℕ) → has c (take n l) ≡ false → n ≤ length l → n ≤ before c l
  unfolding has before
  has_far zero l e h = omega arith
  has_far (suc n) [] e h = absurd (omega arith)
  has_far (suc n) (x ∷ xs) e h =
      rw (or_left (eqb x c) (has c (take n xs)) e) (omega (arith, has_far n xs (or_right (eqb x c) (has c (take n xs)) e) (omega arith)))

  pub has_near : (n : ℕ) (l : List ℕ) → has c (take n l) ≡ true → before c l < n
  unfolding has before
  has_near zero l e = absurd (false≢true e)
  has_near (suc n) [] e = absurd (false≢true e)
  has_near (suc n) (x ∷ xs) e = choose (eqb x c) (λ (t : has c (take n xs) ≡ true). has_near n xs t) e
    where
      choose : (b : Bool) → (has c (take n xs) ≡ true → before c xs < n) → (b || has c (take n xs)) ≡ true → cond b 0 (suc (before c xs)) < suc n
      choose true ih e = omega arith
      choose false ih e = omega (arith, ih e)

  pub before_here : (s : List ℕ) (i : ℕ) → i < length s → get_or s i 0 ≡ c → before c (drop i s) ≡ 0
  unfolding before
  before_here s i h e = rw (drop-cons s i 0, eq-eqb (get_or s i 0) c e)

  pub before_not : (s : List ℕ) (i : ℕ) → i < length s → eqb (get_or s i 0) c ≡ false → before c (drop i s) ≡ suc (before c (drop (suc i) s))
  unfolding before
  before_not s i h e = rw (drop-cons s i 0, e)

  pub before_end : (s : List ℕ) (i : ℕ) → length s ≤ i → before c (drop i s) ≡ 0
  unfolding before
  before_end s i h = rw (drop_of_length-le s h)

  pub before_within : (l : List ℕ) → before c l ≤ length l
  unfolding before
  before_within [] = omega arith
  before_within (x ∷ xs) = choose (eqb x c) (before_within xs)
    where
      choose : (b : Bool) → before c xs ≤ length xs → cond b 0 (suc (before c xs)) ≤ suc (length xs)
      choose true h = omega arith
      choose false h = omega arith

  -- the octet that was found is c
  pub before_is : (l : List ℕ) → before c l < length l → get_or l (before c l) 0 ≡ c
  unfolding before
  before_is [] h = absurd (omega arith)
  before_is (x ∷ xs) h = choose (eqb x c) refl (λ (k : before c xs < length xs). before_is xs k) h
    where
      choose : (b : Bool) → eqb x c ≡ b → (before c xs < length xs → get_or xs (before c xs) 0 ≡ c) → cond b 0 (suc (before c xs)) < suc (length xs) → get_or (x ∷ xs) (cond b 0 (suc (before c xs))) 0 ≡ c
      choose true e ih h = eqb-true x c e
      choose false e ih h = ih (omega arith)

-- a part of the first octets
pub drop_cut : (s : List ℕ) (at n : ℕ) → at ≤ length s → drop at (take (at + n) s) ≡ take n (drop at s)
drop_cut s at n h = rw take-add (drop_at (take at s) (take n (drop at s)) at (length-take-le at s h))

pub pass_start : (c : ℕ) (s : List ℕ) (from : ℕ) → from ≤ length s → Passed c s from from
pass_start c s from h = record { order = omega arith; within = h; is = refl }

module _ {c : ℕ} {s : List ℕ} {from i : ℕ} (p : Passed c s from i) where
  pub pass_more : (k : ℕ) → i + k ≤ length s → k ≤ before c (drop i s) → Passed c s from (i + k)
  pass_more k h far =
      record {
        order = omega (arith, p.order);
        within = h;
        is = p.is ∙ ap (λ (n : ℕ). i + n) (before_after c k (drop i s) far) ∙ rw drop-drop (sym (add_assoc i k _));
      }

  pub pass_end : (k : ℕ) → before c (drop i s) ≡ k → i + k ≡ from + before c (drop from s)
  pass_end k e = omega (arith, p.is)

module _ (p : ℕ → Bool) (s : List ℕ) (i : ℕ) where
  pub all_more : i < length s → p (get_or s i 0) ≡ true → all p (drop i s) ≡ all p (drop (i + 1) s)
  unfolding all
  all_more h e = rw (add-one, drop-cons s i 0, e)

  pub all_stop : i < length s → p (get_or s i 0) ≡ false → all p (drop i s) ≡ false
  unfolding all
  all_stop h e = rw (drop-cons s i 0, e)

  pub all_end : length s ≤ i → all p (drop i s) ≡ true
  unfolding all
  all_end h = rw (drop_of_length-le s h)

-- an octet that neither of two texts has
pub has_append : (c : ℕ) (a b : List ℕ) → has c a ≡ false → has c b ≡ false → has c (a ++ b) ≡ false
unfolding has
has_append c [] b e f = f
has_append c (x ∷ xs) b e f = rw (or_left (eqb x c) (has c xs) e) (has_append c xs b (or_right (eqb x c) (has c xs) e) f)

-- one that stands behind a text without it
pub before_append : (c : ℕ) (a b : List ℕ) → has c a ≡ false → before c (a ++ c ∷ b) ≡ length a
unfolding has before
before_append c [] b e = rw (eq-eqb c c refl)
before_append c (x ∷ xs) b e = rw (or_left (eqb x c) (has c xs) e) (ap suc (before_append c xs b (or_right (eqb x c) (has c xs) e)))
