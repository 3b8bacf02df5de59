-- Laws of the loops over a line and of copies. Assumes nothing.
use mathlib.Core.Path.{◌≡◌, refl, sym, ap, ◌∙◌}
use mathlib.Core.Bool.{Bool, true, false, ◌&&◌, ◌||◌}
use mathlib.Core.List.{List, [], ◌∷◌, ◌++◌, append_assoc}
use Prim.Native.Nat.{ℕ, zero, suc, ◌+◌, ◌≤◌, ◌<◌}
use native.Mathlib.Omega.{arith}
use borrow.Author.Tests.{ne_eqb, eq-eqb}
use lib.Dec.{eqb}
use lib.Pointwise.{pointwise}
use lib.ListN.{length, get_or, set, take, drop, length-drop, length-take, get_or-append}
use lib.Seq.{paste, get_or-take, get_or-drop, length-take-le}
use Rattle.leaves.specs.Class.{blank}
use Rattle.leaves.specs.Trim.{trim_end, end_after}
use Rattle.leaves.specs.Octets.{same_list}
use Rattle.leaves.specs.Paste.{pasted}
use Rattle.leaves.proofs.PasteLaws.{Copying, copy_start, copy_step, copy_end}
use Rattle.leaves.proofs.NameLaws.{apart}
use Rattle.folds.specs.Rule.{continues}
use Rattle.leaves.specs.Octets.{all}

pub fold_none : (s : List ℕ) → length s ≡ 0 → continues s ≡ false
fold_none [] h = refl
fold_none (x ∷ xs) h = absurd (omega arith)

pub fold_first : (s : List ℕ) → (length s ≡ 0 → ⊥) → continues s ≡ (eqb (get_or s 0 0) 32 || eqb (get_or s 0 0) 9)
fold_first [] h = absurd (h refl)
fold_first (x ∷ xs) h = refl

after_zero : (b : Bool) (n : ℕ) → (b && eqb n 0) ≡ eqb (end_after b n) 0
after_zero true zero = refl
after_zero false zero = refl
after_zero true (suc n) = ne_eqb (suc n) 0 (omega arith) ∙ sym (ne_eqb (suc (suc n)) 0 (omega arith))
after_zero false (suc n) = sym (ne_eqb (suc (suc n)) 0 (omega arith))

pub all_blank : (l : List ℕ) → all blank l ≡ eqb (trim_end l) 0
unfolding trim_end all
all_blank [] = refl
all_blank (x ∷ xs) = ap (λ (b : Bool). blank x && b) (all_blank xs) ∙ after_zero (blank x) (trim_end xs)

and_true : (b : Bool) → (b && true) ≡ b
and_true true = refl
and_true false = refl

pub two_same : (l : List ℕ) (a b : ℕ) → length l ≡ 2 → same_list l (a ∷ b ∷ []) ≡ (eqb (get_or l 0 0) a && eqb (get_or l 1 0) b)
unfolding same_list
two_same [] a b h = absurd (omega arith)
two_same (x ∷ []) a b h = absurd (omega arith)
two_same (x ∷ y ∷ []) a b h = ap (λ (t : Bool). eqb x a && t) (and_true (eqb y b))
two_same (x ∷ y ∷ z ∷ zs) a b h = absurd (omega arith)

pub two_true : (l : List ℕ) (a b : ℕ) → length l ≡ 2 → get_or l 0 0 ≡ a → same_list l (a ∷ b ∷ []) ≡ eqb (get_or l 1 0) b
two_true l a b h e = two_same l a b h ∙ ap (λ (t : Bool). t && eqb (get_or l 1 0) b) (eq-eqb (get_or l 0 0) a e)

pub two_false : (l : List ℕ) (a b : ℕ) → length l ≡ 2 → (get_or l 0 0 ≡ a → ⊥) → same_list l (a ∷ b ∷ []) ≡ false
two_false l a b h e = two_same l a b h ∙ ap (λ (t : Bool). t && eqb (get_or l 1 0) b) (ne_eqb (get_or l 0 0) a e)

pub not_two : (l : List ℕ) (a b : ℕ) → (length l ≡ 2 → ⊥) → same_list l (a ∷ b ∷ []) ≡ false
not_two l a b h = apart l (a ∷ b ∷ []) h

-- what `==` says of two texts
pub pointwise_same : (a b : List ℕ) → pointwise eqb a b ≡ same_list a b
unfolding same_list
pointwise_same [] [] = refl
pointwise_same [] (y ∷ ys) = refl
pointwise_same (x ∷ xs) [] = refl
pointwise_same (x ∷ xs) (y ∷ ys) = ap (λ (t : Bool). eqb x y && t) (pointwise_same xs ys)

-- what stands before a copy is as it was
pub paste_before : (d : List ℕ) (at : ℕ) (s : List ℕ) (n j : ℕ) → j < at → at ≤ length d → get_or (paste d at s n) j 0 ≡ get_or d j 0
paste_before d at s n j h k =
    let l : j < length (take at d) = omega (arith, length-take at d) in
    ap (λ (l : List ℕ). get_or l j 0) (append_assoc (take at d) (take n s) (drop (at + n) d)) ∙
    get_or-append (take at d) (take n s ++ drop (at + n) d) 0 j l ∙ get_or-take at d j 0 h

-- a copy from before the place that it goes to
pub record Within (d₀ : List ℕ) (from k to : ℕ) (d : List ℕ) (i : ℕ) : Type 0 where
  pub behind : from + k ≤ to
  pub size : length (take k (drop from d₀)) ≡ k
  pub copy : Copying d₀ to (take k (drop from d₀)) d i

pub within_start : (d : List ℕ) (from k to : ℕ) → from + k ≤ to → to + k ≤ length d → Within d from k to d 0
within_start d from k to h f =
    let q : length (take k (drop from d)) ≡ k = length-take-le k (drop from d) (omega (arith, length-drop from d)) in
    record { behind = h; size = q; copy = copy_start d to (take k (drop from d)) (omega arith) }

pub within_step : {d₀ : List ℕ} {from k to : ℕ} {d : List ℕ} {i : ℕ} → Within d₀ from k to d i → i < k → Within d₀ from k to (set d (to + i) (get_or d (from + i) 0)) (i + 1)
within_step {d₀} {from} {k} {to} {d} {i} w h =
    let e : get_or d (from + i) 0 ≡ get_or (take k (drop from d₀)) i 0 =
    ap (λ (l : List ℕ). get_or l (from + i) 0) w.copy.is ∙
    paste_before d₀ to (take k (drop from d₀)) i (from + i) (omega (arith, w.behind)) (omega (arith, w.copy.fits)) ∙
    sym (get_or-take k (drop from d₀) i 0 h ∙ get_or-drop from d₀ i 0) in
    record { behind = w.behind; size = w.size; copy = copy_step w.copy (omega (arith, w.size)) (to + i) (get_or d (from + i) 0) refl e }

pub within_end : {d₀ : List ℕ} {from k to : ℕ} {d : List ℕ} {i : ℕ} → Within d₀ from k to d i → k ≤ i → d ≡ pasted d₀ to (take k (drop from d₀))
within_end {d₀} {from} {k} {to} {d} {i} w h = copy_end w.copy (omega (arith, w.size))
