-- The search of a group of octets with no early end: each octet's worth is how many are left, and the largest is kept. Assumes nothing.
use mathlib.Core.Path.{◌≡◌, refl, ◌∙◌}
use mathlib.Core.Bool.{Bool, true, false, cond}
use mathlib.Core.List.{List}
use mathlib.Core.Logic.{◌⊎◌, inl, inr, ⊎_elim}
use Prim.Native.Nat.{ℕ, max, ◌+◌, ◌-◌, ◌≤◌, ◌<◌}
use native.Mathlib.Omega.{arith}
use borrow.Author.Tests.{eqb-true}
use lib.Dec.{eqb}
use lib.ListN.{length, get_or, take, drop}
use lib.Seq.{drop-drop}
use Rattle.leaves.specs.Octets.{before}
use Rattle.leaves.proofs.SearchLaws.{before_take, before_after, before_here, before_not}

-- the first of the n octets of l that is c stands at place before c l; its worth is what the best is, once it was met
pub record Scanning (c n : ℕ) (l : List ℕ) (best left j : ℕ) : Type 0 where
  pub turns : left + j ≡ n
  pub seen : ((j ≤ before c l) × (best ≡ 0)) ⊎ ((before c l < j) × (best + before c l ≡ n))

pub scan_start : (c n : ℕ) (l : List ℕ) → Scanning c n l 0 n 0
scan_start c n l = record { turns = omega arith; seen = inl (omega arith, refl) }

module _ {c n : ℕ} {l : List ℕ} {best left j : ℕ} (scan : Scanning c n l best left j) where
  pub scan_most : best ≤ n
  scan_most = ⊎_elim (λ w. omega (arith, w.1)) (λ w. omega (arith, w.1)) scan.seen

  pub scan_end : n ≤ j → n - best ≡ before c (take n l)
  scan_end h =
      let e = before_take c n l in
      ⊎_elim (λ w. omega (arith, e, scan.turns, w.0, w.1)) (λ w. omega (arith, e, scan.turns, w.0, w.1)) scan.seen

module _ (s : List ℕ) (at : ℕ) {c n best left j : ℕ} (scan : Scanning c n (drop at s) best left j) (more : j < n) (fits : at + n ≤ length s) where
  next : j ≤ before c (drop at s) → before c (drop at s) ≡ j + before c (drop (at + j) s)
  next far = before_after c j (drop at s) far ∙ rw drop-drop

  seen_next : (b : Bool) → eqb (get_or s (at + j) 0) c ≡ b
      → ((j + 1 ≤ before c (drop at s)) × (max best (cond b left 0) ≡ 0)) ⊎ ((before c (drop at s) < j + 1) × (max best (cond b left 0) + before c (drop at s) ≡ n))
  seen_next true e =
      let z = before_here c s (at + j) (omega arith) (eqb-true _ _ e) in
      ⊎_elim (λ w. inr (omega (arith, next w.0, z), omega (arith, next w.0, z, scan.turns, w.1))) (λ w. inr (omega (arith, w.0), omega (arith, scan.turns, w.0, w.1))) scan.seen
  seen_next false e =
      let z = before_not c s (at + j) (omega arith) e in
      ⊎_elim (λ w. inl (omega (arith, next w.0, z), omega (arith, w.1))) (λ w. inr (omega (arith, w.0), omega (arith, w.1))) scan.seen

  pub scan_step : Scanning c n (drop at s) (max best (cond (eqb (get_or s (at + j) 0) c) left 0)) (left - 1) (j + 1)
  scan_step = record { turns = omega (arith, scan.turns); seen = seen_next (eqb (get_or s (at + j) 0) c) refl }
