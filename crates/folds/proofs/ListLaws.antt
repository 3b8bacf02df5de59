-- Laws of lists: what is written at a place, and what is laid over a start. Assumes nothing.
use mathlib.Core.Path.{◌≡◌, sym, ap, ◌∙◌}
use mathlib.Core.List.{List, [], ◌++◌, append_assoc}
use Prim.Native.Nat.{ℕ, ◌+◌, ◌-◌, ◌≤◌}
use native.Mathlib.Nat.{add-zero}
use native.Mathlib.Omega.{arith}
use lib.ListN.{length, take, drop, length-append, take-append-drop}
use lib.Seq.{drop-drop, take_at, drop_at, length-take-le}
use Rattle.leaves.specs.Paste.{pasted}

module _ (d : List ℕ) (a : ℕ) (s : List ℕ) (h : a ≤ length d) where
  front_length : length (take a d ++ s) ≡ a + length s
  front_length = length-append (take a d) s ∙ ap (λ (n : ℕ). n + length s) (length-take-le a d h)

  pub take_pasted : take (a + length s) (pasted d a s) ≡ take a d ++ s
  unfolding pasted
  take_pasted =
      ap (take (a + length s)) (sym (append_assoc (take a d) s (drop (a + length s) d))) ∙
      take_at (take a d ++ s) (drop (a + length s) d) (a + length s) front_length

  pub drop_pasted : drop (a + length s) (pasted d a s) ≡ drop (a + length s) d
  unfolding pasted
  drop_pasted =
      ap (drop (a + length s)) (sym (append_assoc (take a d) s (drop (a + length s) d))) ∙
      drop_at (take a d ++ s) (drop (a + length s) d) (a + length s) front_length

pub pasted_none : (d : List ℕ) (a : ℕ) → pasted d a [] ≡ d
unfolding pasted
pasted_none d a = rw add-zero (take-append-drop a d)

-- what is kept past n
pub drop_later {ℓ} : {A : Type ℓ} (l l₀ : List A) (n k : ℕ) → n ≤ k → drop n l ≡ drop n l₀ → drop k l ≡ drop k l₀
drop_later l l₀ n k h e =
    let q : k ≡ n + (k - n) = omega arith in
    ap (λ (j : ℕ). drop j l) q ∙ sym (drop-drop (k - n) n l) ∙ ap (drop (k - n)) e ∙ drop-drop (k - n) n l₀ ∙ ap (λ (j : ℕ). drop j l₀) (sym q)

-- a list that is kept past n is its start laid over what it was
pub laid {ℓ} : {A : Type ℓ} (l l₀ : List A) (n : ℕ) → drop n l ≡ drop n l₀ → take n l ++ drop n l₀ ≡ l
laid l l₀ n e = ap (λ t. take n l ++ t) (sym e) ∙ take-append-drop n l
