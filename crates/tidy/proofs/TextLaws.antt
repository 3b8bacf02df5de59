-- Laws of clean texts: what they hold, what trimming leaves of them, and their cases. Assumes nothing.
use Rattle.std.specs.Prelude.{Some}
use mathlib.Core.Path.{◌≡◌, refl, sym, ap, ◌∙◌}
use mathlib.Core.Bool.{Bool, true, false, ◌&&◌, not, false≢true}
use mathlib.Core.List.{List, [], ◌∷◌}
use Prim.Native.Nat.{ℕ, zero, suc, ◌+◌, ◌-◌}
use native.Mathlib.Nat.{zero-add}
use native.Mathlib.Omega.{arith}
use borrow.Author.Tests.{lt-ltb, le-ltb, eq-eqb, ne_eqb}
use lib.Dec.{eqb, ltb}
use lib.ListN.{length, take, drop, length-take, length-drop}
use lib.Seq.{take_all, take-length, take-nil}
use Rattle.leaves.specs.Octets.{has, before, same_list}
use Rattle.leaves.specs.Trim.{trimmed, trim_start, trim_end}
use Rattle.leaves.proofs.NameLaws.{same_list_refl, same_list_eq}
use Rattle.leaves.proofs.SearchLaws.{has_near, has_far}
use Rattle.rebuilds.specs.Clean.{neat, filled, clean_pair, clean_status}
use Rattle.tidy.specs.Keys.{clean_key}

-- a text holds an octet if its first place is not the end
pub holds_is : (c : ℕ) (l : List ℕ) → ltb (before c l) (length l) ≡ has c l
holds_is c l = go (has c l) refl
  where
    go : (t : Bool) → has c l ≡ t → ltb (before c l) (length l) ≡ t
    go true e = lt-ltb _ _ (has_near c (length l) l (ap (has c) (take-length l) ∙ e))
    go false e = le-ltb _ _ (has_far c (length l) l (ap (has c) (take-length l) ∙ e) (omega arith))

pub holds_by : (c : ℕ) (l : List ℕ) (k : ℕ) → k ≡ 0 + before c l → ltb k (length l) ≡ has c l
holds_by c l k e = rw (e, zero-add (before c l)) (holds_is c l)

-- a part as long as the whole is the whole
cut_whole : (a n : ℕ) (l : List ℕ) → length (take n (drop a l)) ≡ length l → take n (drop a l) ≡ l
cut_whole zero n l d = take_all n l (omega (arith, d, length-take n l))
cut_whole (suc a) n [] d = take-nil n
cut_whole (suc a) n (x ∷ xs) d = absurd (omega (arith, d, length-take n (drop a xs), length-drop a xs))

trim_same : (l : List ℕ) → eqb (length (trimmed l)) (length l) ≡ same_list (trimmed l) l
trim_same l = go (same_list (trimmed l) l) refl
  where
    go : (t : Bool) → same_list (trimmed l) l ≡ t → eqb (length (trimmed l)) (length l) ≡ t
    go true e = eq-eqb _ _ (ap length (same_list_eq (trimmed l) l e))
    go false e =
        ne_eqb _ _ (λ d. false≢true (sym e ∙ ap (λ (k : List ℕ). same_list k l) (cut_whole (trim_start l) (trim_end l - trim_start l) l d) ∙ same_list_refl l))

-- neat, by cases
module _ (l : List ℕ) where
  pub with_cr : has 13 l ≡ true → false ≡ neat l
  unfolding neat
  with_cr e = rw e

  pub with_lf : has 13 l ≡ false → has 10 l ≡ true → false ≡ neat l
  unfolding neat
  with_lf e f = rw (e, f)

  pub by_trim : has 13 l ≡ false → has 10 l ≡ false → (t : List ℕ) → t ≡ trimmed l → eqb (length t) (length l) ≡ neat l
  unfolding neat
  by_trim e f t h = rw (h, e, f) (trim_same l)

  -- not empty
  pub filled_not : length l ≡ 0 → filled l ≡ false
  filled_not = go l
    where
      go : (l : List ℕ) → length l ≡ 0 → filled l ≡ false
      go [] e = refl
      go (x ∷ xs) e = absurd (omega (arith, e))

  pub filled_is : (length l ≡ 0 → ⊥) → filled l ≡ true
  filled_is = go l
    where
      go : (l : List ℕ) → (length l ≡ 0 → ⊥) → filled l ≡ true
      go [] e = absurd (e refl)
      go (x ∷ xs) e = refl

  pub bare_status : length l ≡ 0 → false ≡ clean_status (Some l)
  unfolding clean_status
  bare_status e = rw (filled_not e)

  pub full_status : (length l ≡ 0 → ⊥) → (r : Bool) → r ≡ neat l → r ≡ clean_status (Some l)
  unfolding clean_status
  full_status e r h = rw (filled_is e) h

  pub bare_key : length l ≡ 0 → false ≡ clean_key l
  unfolding clean_key
  bare_key e = rw (filled_not e)

  pub colon_key : (length l ≡ 0 → ⊥) → has 58 l ≡ true → false ≡ clean_key l
  unfolding clean_key
  colon_key e f = rw (filled_is e, f)

  pub full_key : (length l ≡ 0 → ⊥) → has 58 l ≡ false → (r : Bool) → r ≡ neat l → r ≡ clean_key l
  unfolding clean_key
  full_key e f r h = rw (filled_is e, f) h

-- a clean pair: its key, then its value
and_regroup : (a b c d : Bool) → (a && (b && (c && d))) ≡ ((a && (b && c)) && d)
and_regroup true true c d = refl
and_regroup true false c d = refl
and_regroup false b c d = refl

module _ (k v : List ℕ) where
  pair_is : clean_pair (record { key = k; value = v }) ≡ (clean_key k && neat v)
  unfolding clean_pair clean_key
  pair_is = and_regroup (filled k) (not (has 58 k)) (neat k) (neat v)

  pub pair_by : clean_key k ≡ true → (r : Bool) → r ≡ neat v → r ≡ clean_pair (record { key = k; value = v })
  pair_by e r h = rw (pair_is, e) h

  pub pair_not : clean_key k ≡ false → false ≡ clean_pair (record { key = k; value = v })
  pair_not e = rw (pair_is, e)
