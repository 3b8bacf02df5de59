-- Where a line ends, looked for by its LF. Assumes nothing.
use mathlib.Core.Path.{◌≡◌, refl, sym, ap, ◌∙◌}
use mathlib.Core.Bool.{Bool, true, false, cond, ◌||◌}
use mathlib.Core.List.{List, [], ◌∷◌}
use Prim.Native.Nat.{ℕ, zero, suc, ◌+◌, ◌-◌, ◌≤◌, ◌<◌}
use native.Mathlib.Nat.{zero-add, add-zero, add_assoc, add-suc}
use native.Mathlib.Omega.{arith}
use native.Mathlib.Numerals.{add-one}
use lib.Dec.{eqb}
use lib.ListN.{length, get_or, take, drop, length-drop, drop_of_length-le}
use lib.Seq.{drop-cons, drop-drop, get_or-drop, take-length}
use Rattle.leaves.specs.Paste.{pasted}
use Rattle.lines.specs.Line.{further, ends_line, taking, Takes, cr_at, line_end}
use Rattle.leaves.specs.Octets.{before}
use Rattle.leaves.proofs.SearchLaws.{before_within, before_is}
use Rattle.lines.specs.declared.Took.TheVariants.{Line, More, Full}

not_lf : (quirks cr : Bool) (x : ℕ) → eqb x 10 ≡ false → ends_line quirks cr x ≡ false
unfolding ends_line
not_lf quirks cr x e = rw e

-- a line does not end before its next LF
skip : (quirks cr : Bool) (k : ℕ) (l : List ℕ) → k ≤ before 10 l → line_end quirks cr l ≡ k + line_end quirks (cr_at cr l k) (drop k l)
unfolding line_end before
skip quirks cr zero l h = sym (zero-add _)
skip quirks cr (suc k) [] h = absurd (omega arith)
skip quirks cr (suc k) (x ∷ xs) h = choose (eqb x 10) refl (λ (j : k ≤ before 10 xs). skip quirks (eqb x 13) k xs j) h
  where
    inner : (k : ℕ) → cr_at (eqb x 13) xs k ≡ eqb (get_or (x ∷ xs) k 0) 13
    inner zero = refl
    inner (suc k) = refl

    choose : (b : Bool) → eqb x 10 ≡ b → (k ≤ before 10 xs → line_end quirks (eqb x 13) xs ≡ k + line_end quirks (cr_at (eqb x 13) xs k) (drop k xs)) → suc k ≤ cond b 0 (suc (before 10 xs))
        → cond (ends_line quirks cr x) 0 (suc (line_end quirks (eqb x 13) xs)) ≡ suc k + line_end quirks (eqb (get_or (x ∷ xs) k 0) 13) (drop k xs)
    choose true e ih h = absurd (omega arith)
    choose false e ih h = rw (not_lf quirks cr x e, ← inner k) (omega (arith, ih (omega arith)))

at_at : (cr : Bool) (s : List ℕ) (i k : ℕ) → cr_at (cr_at cr s i) (drop i s) k ≡ cr_at cr s (i + k)
at_at cr s i zero = rw add-zero
at_at cr s i (suc k) = rw (add-suc i k) (ap (λ (x : ℕ). eqb x 13) (get_or-drop i s k 0))

-- the loop of line_end
pub record Ending (s : List ℕ) (cr quirks : Bool) (i : ℕ) : Type 0 where
  pub within : i ≤ length s
  pub is : line_end quirks cr s ≡ i + line_end quirks (cr_at cr s i) (drop i s)

pub ending_start : (s : List ℕ) (cr quirks : Bool) → Ending s cr quirks 0
ending_start s cr quirks = record { within = omega arith; is = sym (zero-add _) }

module _ {s : List ℕ} {cr quirks : Bool} {i : ℕ} (inv : Ending s cr quirks i) where
  pub ending_end : length s ≤ i → i ≡ line_end quirks cr s
  unfolding line_end
  ending_end h = sym (inv.is ∙ rw (drop_of_length-le s h) (add-zero i))

  module _ (j : ℕ) (found : j ≡ i + before 10 (drop i s)) where
    to_lf : Ending s cr quirks j
    to_lf =
        let n = before 10 (drop i s) in
        let w : n ≤ length (drop i s) = before_within 10 (drop i s) in
        record {
          within = omega (arith, length-drop i s, inv.within);
          is =
              inv.is ∙ ap (λ (k : ℕ). i + k) (skip quirks (cr_at cr s i) n (drop i s) (omega arith)) ∙ sym (add_assoc i n _) ∙
              rw (at_at cr s i n, drop-drop, ← found);
        }

    pub ending_none : length s ≤ j → j ≡ line_end quirks cr s
    unfolding line_end
    ending_none h = sym (to_lf.is ∙ rw (drop_of_length-le s h) (add-zero j))

    module _ (more : j < length s) where
      is_lf : get_or s j 0 ≡ 10
      is_lf =
          let n = before 10 (drop i s) in
          ap (λ (k : ℕ). get_or s k 0) found ∙ sym (get_or-drop i s n 0) ∙ before_is 10 (drop i s) (omega (arith, length-drop i s))

      at_lf : ends_line quirks (cr_at cr s j) (get_or s j 0) ≡ (quirks || cr_at cr s j)
      unfolding ends_line
      at_lf = rw is_lf

      pub ending_stop : (quirks || cr_at cr s j) ≡ true → j ≡ line_end quirks cr s
      unfolding line_end
      ending_stop e = sym (to_lf.is ∙ rw (drop-cons s j 0 more, at_lf, e) (add-zero j))

      pub ending_more : (quirks || cr_at cr s j) ≡ false → Ending s cr quirks (j + 1)
      unfolding line_end
      ending_more e =
          record {
            within = omega arith;
            is = to_lf.is ∙ rw (drop-cons s j 0 more, at_lf, e, add-one) (omega arith);
          }

module _ (quirks : Bool) where
  pub take_ended : (cr : Bool) (room : ℕ) (s : List ℕ) → line_end quirks cr s < length s → line_end quirks cr s < room → taking quirks cr room s ≡ Line (line_end quirks cr s + 1)
  unfolding taking line_end
  take_ended cr room [] h k = absurd (omega arith)
  take_ended cr zero (x ∷ xs) h k = absurd (omega arith)
  take_ended cr (suc room) (x ∷ xs) h k = choose (ends_line quirks cr x) (λ (i : line_end quirks (eqb x 13) xs < length xs) (j : line_end quirks (eqb x 13) xs < room). take_ended (eqb x 13) room xs i j) h k
    where
      choose : (b : Bool) → (line_end quirks (eqb x 13) xs < length xs → line_end quirks (eqb x 13) xs < room → taking quirks (eqb x 13) room xs ≡ Line (line_end quirks (eqb x 13) xs + 1)) → cond b 0 (suc (line_end quirks (eqb x 13) xs)) < suc (length xs) → cond b 0 (suc (line_end quirks (eqb x 13) xs)) < suc room
          → cond b (Line 1) (further 1 (taking quirks (eqb x 13) room xs)) ≡ Line (cond b 0 (suc (line_end quirks (eqb x 13) xs)) + 1)
      choose true ih h k = refl
      choose false ih h k = ap (further 1) (ih (omega arith) (omega arith)) ∙ ap Line (omega arith)

  pub take_full : (cr : Bool) (room : ℕ) (s : List ℕ) → room ≤ line_end quirks cr s → room < length s → taking quirks cr room s ≡ Full room
  unfolding taking line_end
  take_full cr room [] h k = absurd (omega arith)
  take_full cr zero (x ∷ xs) h k = refl
  take_full cr (suc room) (x ∷ xs) h k = choose (ends_line quirks cr x) (λ (i : room ≤ line_end quirks (eqb x 13) xs). take_full (eqb x 13) room xs i (omega arith)) h
    where
      choose : (b : Bool) → (room ≤ line_end quirks (eqb x 13) xs → taking quirks (eqb x 13) room xs ≡ Full room) → suc room ≤ cond b 0 (suc (line_end quirks (eqb x 13) xs))
          → cond b (Line 1) (further 1 (taking quirks (eqb x 13) room xs)) ≡ Full (suc room)
      choose true ih h = absurd (omega arith)
      choose false ih h = ap (further 1) (ih (omega arith)) ∙ ap Full (omega arith)

  pub take_all_of : (cr : Bool) (room : ℕ) (s : List ℕ) → length s ≤ line_end quirks cr s → length s ≤ room → taking quirks cr room s ≡ More (length s)
  unfolding taking line_end
  take_all_of cr room [] h k = refl
  take_all_of cr zero (x ∷ xs) h k = absurd (omega arith)
  take_all_of cr (suc room) (x ∷ xs) h k = choose (ends_line quirks cr x) (λ (i : length xs ≤ line_end quirks (eqb x 13) xs). take_all_of (eqb x 13) room xs i (omega arith)) h
    where
      choose : (b : Bool) → (length xs ≤ line_end quirks (eqb x 13) xs → taking quirks (eqb x 13) room xs ≡ More (length xs)) → suc (length xs) ≤ cond b 0 (suc (line_end quirks (eqb x 13) xs))
          → cond b (Line 1) (further 1 (taking quirks (eqb x 13) room xs)) ≡ More (suc (length xs))
      choose true ih h = absurd (omega arith)
      choose false ih h = ap (further 1) (ih (omega arith)) ∙ ap More (omega arith)

pub end_within : (quirks cr : Bool) (s : List ℕ) → line_end quirks cr s ≤ length s
unfolding line_end
end_within quirks cr [] = omega arith
end_within quirks cr (x ∷ xs) = choose (ends_line quirks cr x) (end_within quirks (eqb x 13) xs)
  where
    choose : (b : Bool) → line_end quirks (eqb x 13) xs ≤ length xs → cond b 0 (suc (line_end quirks (eqb x 13) xs)) ≤ suc (length xs)
    choose true h = omega arith
    choose false h = omega arith

-- what fill_line gives
module _ (quirks cr : Bool) (s d d' : List ℕ) (j : ℕ) (e : j ≡ line_end quirks cr s) where
  pub fill_ended : j < length s → j < length d → d' ≡ pasted d 0 (take (j + 1) s) → Takes quirks cr (length d) 0 s d d' (Line (j + 1))
  fill_ended h k w =
      record { is = sym (take_ended quirks cr (length d) s (omega arith) (omega arith) ∙ rw e); within = omega arith; fits = omega arith; wrote = w }

  pub fill_over : length d ≤ j → length d < length s → d' ≡ pasted d 0 (take (length d) s) → Takes quirks cr (length d) 0 s d d' (Full (length d))
  fill_over h k w = record { is = sym (take_full quirks cr (length d) s (omega arith) k); within = omega arith; fits = omega arith; wrote = w }

  pub fill_rest : length s ≤ j → length s ≤ length d → d' ≡ pasted d 0 s → Takes quirks cr (length d) 0 s d d' (More (length s))
  fill_rest h k w = record { is = sym (take_all_of quirks cr (length d) s (omega arith) k); within = omega arith; fits = k; wrote = rw take-length w }

pub at_place : (cr : Bool) (s : List ℕ) (j : ℕ) → (j ≡ 0 → ⊥) → cr_at cr s j ≡ eqb (get_or s (j - 1) 0) 13
at_place cr s zero h = absurd (h refl)
at_place cr s (suc k) h = let e : suc k - 1 ≡ k = omega arith in rw e
