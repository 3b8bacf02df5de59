-- Laws of a tight line: what its test says, and where the blank-free parts of its two sides lie. Assumes nothing.
use mathlib.Core.Path.{◌≡◌, sym, ap, ◌∙◌}
use mathlib.Core.Bool.{true, false}
use mathlib.Core.List.{List}
use Prim.Native.Nat.{ℕ, ◌+◌, ◌-◌, ◌≤◌, ◌<◌}
use native.Mathlib.Omega.{arith}
use borrow.Author.Tests.{ne_eqb, eqb-true, leb-true, ltb-true}
use lib.Dec.{eqb, leb, ltb}
use lib.ListN.{length, get_or, take, drop, length-drop}
use lib.Seq.{take_all, get_or-take, get_or-drop, length-take-le}
use Rattle.leaves.proofs.ChoiceLaws.{and_left, and_right}
use Rattle.leaves.specs.Octets.{has}
use Rattle.leaves.specs.Class.{blank}
use Rattle.leaves.specs.Trim.{leading, trim_start, trim_end}
use Rattle.lines.specs.Line.{tight}
use Rattle.leaves.proofs.TrimLaws.{leading_more, leading_stop, end_less, end_stop}

pub record Tight (c : ℕ) (l : List ℕ) : Type 0 where
  pub some : 1 ≤ c
  pub long : c + 5 ≤ length l
  pub lf : get_or l (length l - 1) 0 ≡ 10
  pub cr : get_or l (length l - 2) 0 ≡ 13
  pub value_last : 32 < get_or l (length l - 3) 0
  pub space : get_or l (c + 1) 0 ≡ 32
  pub value_first : 32 < get_or l (c + 2) 0
  pub key_last : 32 < get_or l (c - 1) 0
  pub key_first : 32 < get_or l 0 0

pub tight_says : (c : ℕ) (l : List ℕ) → tight c l ≡ true → Tight c l
unfolding tight
tight_says c l e₁ =
    let e₂ = and_right (leb 1 c) _ e₁ in
    let e₃ = and_right (leb (c + 5) (length l)) _ e₂ in
    let e₄ = and_right (eqb (get_or l (length l - 1) 0) 10) _ e₃ in
    let e₅ = and_right (eqb (get_or l (length l - 2) 0) 13) _ e₄ in
    let e₆ = and_right (ltb 32 (get_or l (length l - 3) 0)) _ e₅ in
    let e₇ = and_right (eqb (get_or l (c + 1) 0) 32) _ e₆ in
    let e₈ = and_right (ltb 32 (get_or l (c + 2) 0)) _ e₇ in
    let e₉ = and_right (ltb 32 (get_or l (c - 1) 0)) _ e₈ in
    record {
      some = leb-true 1 c (and_left (leb 1 c) _ e₁);
      long = leb-true (c + 5) (length l) (and_left (leb (c + 5) (length l)) _ e₂);
      lf = eqb-true (get_or l (length l - 1) 0) 10 (and_left (eqb (get_or l (length l - 1) 0) 10) _ e₃);
      cr = eqb-true (get_or l (length l - 2) 0) 13 (and_left (eqb (get_or l (length l - 2) 0) 13) _ e₄);
      value_last = ltb-true 32 (get_or l (length l - 3) 0) (and_left (ltb 32 (get_or l (length l - 3) 0)) _ e₅);
      space = eqb-true (get_or l (c + 1) 0) 32 (and_left (eqb (get_or l (c + 1) 0) 32) _ e₆);
      value_first = ltb-true 32 (get_or l (c + 2) 0) (and_left (ltb 32 (get_or l (c + 2) 0)) _ e₇);
      key_last = ltb-true 32 (get_or l (c - 1) 0) (and_left (ltb 32 (get_or l (c - 1) 0)) _ e₈);
      key_first = ltb-true 32 (get_or l 0 0) e₉;
    }

-- an octet above space is no blank
solid : (x : ℕ) → 32 < x → blank x ≡ false
unfolding blank has
solid x h = rw (ne_eqb 32 x (omega arith), ne_eqb 9 x (omega arith), ne_eqb 10 x (omega arith), ne_eqb 12 x (omega arith), ne_eqb 13 x (omega arith))

-- a text with no blank at either end
module _ (s : List ℕ) (some : 0 < length s) (first : blank (get_or s 0 0) ≡ false) (last : blank (get_or s (length s - 1) 0) ≡ false) where
  whole_end : trim_end s ≡ length s
  whole_end = sym (end_stop s (length s) some (omega arith) last (ap trim_end (sym (take_all (length s) s (omega arith)))))

  whole_start : trim_start s ≡ 0
  unfolding trim_start
  whole_start = let z : leading s ≡ 0 = leading_stop s 0 some first in omega arith

-- the same after one blank and before two
module _ (s : List ℕ) (e : ℕ) (long : length s ≡ e + 2) (some : 1 < e) (space : blank (get_or s 0 0) ≡ true) (first : blank (get_or s 1 0) ≡ false)
    (last : blank (get_or s (e - 1) 0) ≡ false) (one : blank (get_or s e 0) ≡ true) (two : blank (get_or s (e + 1) 0) ≡ true) where
  inner_end : trim_end s ≡ e
  inner_end =
      let a : e + 2 - 1 ≡ e + 1 = omega arith in
      let b : e + 1 - 1 ≡ e = omega arith in
      let start : trim_end s ≡ trim_end (take (e + 2) s) = ap trim_end (sym (take_all (e + 2) s (omega arith))) in
      let more : trim_end s ≡ trim_end (take (e + 1) s) = rw a at (end_less s (e + 2) (omega arith) (omega arith) (rw a two) start) in
      let less : trim_end s ≡ trim_end (take e s) = rw b at (end_less s (e + 1) (omega arith) (omega arith) (rw b one) more) in
      sym (end_stop s e (omega arith) (omega arith) last less)

  inner_start : trim_start s ≡ 1
  unfolding trim_start
  inner_start =
      let a = leading_more s 0 (omega arith) space in
      let z : leading (drop 1 s) ≡ 0 = leading_stop s 1 (omega arith) first in
      omega (arith, inner_end)

module _ (c : ℕ) (l : List ℕ) (t : Tight c l) where
  key_size : length (take c l) ≡ c
  key_size = length-take-le c l (omega (arith, t.long))

  key_first_lem : blank (get_or (take c l) 0 0) ≡ false
  key_first_lem = ap blank (get_or-take c l 0 0 (omega (arith, t.some))) ∙ solid (get_or l 0 0) t.key_first

  key_last_lem : blank (get_or (take c l) (length (take c l) - 1) 0) ≡ false
  key_last_lem = rw key_size (ap blank (get_or-take c l (c - 1) 0 (omega (arith, t.some))) ∙ solid (get_or l (c - 1) 0) t.key_last)

  pub key_starts : trim_start (take c l) ≡ 0
  key_starts = whole_start (take c l) (omega (arith, key_size, t.some)) key_first_lem key_last_lem

  pub key_ends : trim_end (take c l) ≡ c
  key_ends = whole_end (take c l) (omega (arith, key_size, t.some)) key_first_lem key_last_lem ∙ key_size

  -- the octet of the value's side at k
  side : (k m : ℕ) → c + 1 + k ≡ m → get_or (drop (c + 1) l) k 0 ≡ get_or l m 0
  side k m e = get_or-drop (c + 1) l k 0 ∙ ap (λ (i : ℕ). get_or l i 0) e

  size : length (drop (c + 1) l) ≡ length l - (c + 3) + 2
  size = omega (arith, length-drop (c + 1) l, t.long)

  value_space : blank (get_or (drop (c + 1) l) 0 0) ≡ true
  unfolding blank has
  value_space = ap blank (side 0 (c + 1) (omega arith) ∙ t.space)

  value_first_lem : blank (get_or (drop (c + 1) l) 1 0) ≡ false
  value_first_lem = ap blank (side 1 (c + 2) (omega arith)) ∙ solid (get_or l (c + 2) 0) t.value_first

  value_last_lem : blank (get_or (drop (c + 1) l) (length l - (c + 3) - 1) 0) ≡ false
  value_last_lem = ap blank (side (length l - (c + 3) - 1) (length l - 3) (omega (arith, t.long))) ∙ solid (get_or l (length l - 3) 0) t.value_last

  value_cr : blank (get_or (drop (c + 1) l) (length l - (c + 3)) 0) ≡ true
  unfolding blank has
  value_cr = ap blank (side (length l - (c + 3)) (length l - 2) (omega (arith, t.long)) ∙ t.cr)

  value_lf : blank (get_or (drop (c + 1) l) (length l - (c + 3) + 1) 0) ≡ true
  unfolding blank has
  value_lf = ap blank (side (length l - (c + 3) + 1) (length l - 1) (omega (arith, t.long)) ∙ t.lf)

  pub value_starts : trim_start (drop (c + 1) l) ≡ 1
  value_starts = inner_start (drop (c + 1) l) (length l - (c + 3)) size (omega (arith, t.long)) value_space value_first_lem value_last_lem value_cr value_lf

  pub value_ends : trim_end (drop (c + 1) l) ≡ length l - (c + 3)
  value_ends = inner_end (drop (c + 1) l) (length l - (c + 3)) size (omega (arith, t.long)) value_space value_first_lem value_last_lem value_cr value_lf
