-- What a clean text has not: LF, outer blanks, and in keys the colon. Assumes nothing.
use mathlib.Core.Path.{◌≡◌, ap}
use mathlib.Core.Bool.{true, false, ◌&&◌, not}
use mathlib.Core.List.{List, ◌∷◌}
use Prim.Native.Nat.{ℕ}
use borrow.Author.Tests.{not-true}
use Rattle.leaves.proofs.ChoiceLaws.{and_left, and_right, and_both}
use Rattle.leaves.specs.Class.{blank}
use Rattle.leaves.specs.Octets.{has, same_list}
use Rattle.leaves.specs.Trim.{trimmed}
use Rattle.leaves.proofs.NameLaws.{same_list_eq}
use Rattle.leaves.proofs.TrimTexts.{first_solid}
use Rattle.maps.specs.Said.{Pair}
use Rattle.rebuilds.specs.Clean.{neat, filled, clean_pair}

-- what neat gives
pub neat_cr : (l : List ℕ) → neat l ≡ true → has 13 l ≡ false
unfolding neat
neat_cr l e = not-true (has 13 l) (and_left (not (has 13 l)) _ e)

pub neat_lf : (l : List ℕ) → neat l ≡ true → has 10 l ≡ false
unfolding neat
neat_lf l e = not-true (has 10 l) (and_left (not (has 10 l)) (same_list (trimmed l) l) (and_right (not (has 13 l)) _ e))

pub neat_trim : (l : List ℕ) → neat l ≡ true → trimmed l ≡ l
unfolding neat
neat_trim l e = same_list_eq (trimmed l) l (and_right (not (has 10 l)) (same_list (trimmed l) l) (and_right (not (has 13 l)) _ e))

-- what a clean pair gives
module _ (p : Pair) (c : clean_pair p ≡ true) where
  pub pair_filled : filled p.key ≡ true
  unfolding clean_pair
  pair_filled = and_left (filled p.key) _ c

  pub pair_colon : has 58 p.key ≡ false
  unfolding clean_pair
  pair_colon = not-true (has 58 p.key) (and_left (not (has 58 p.key)) _ (and_right (filled p.key) _ c))

  pair_texts : (neat p.key && neat p.value) ≡ true
  unfolding clean_pair
  pair_texts = and_right (not (has 58 p.key)) _ (and_right (filled p.key) _ c)

  pub pair_key : neat p.key ≡ true
  pair_key = and_left (neat p.key) (neat p.value) pair_texts

  pub pair_value : neat p.value ≡ true
  pair_value = and_right (neat p.key) (neat p.value) pair_texts

-- and what makes one
pub is_pair : (k v : List ℕ) → filled k ≡ true → has 58 k ≡ false → neat k ≡ true → neat v ≡ true → clean_pair (record { key = k; value = v }) ≡ true
unfolding clean_pair
is_pair k v f h n m = and_both (filled k) _ f (and_both (not (has 58 k)) _ (ap not h) (and_both (neat k) (neat v) n m))

pub record CleanPair (k : ℕ) (ks v : List ℕ) : Type 0 where
  pub solid : blank k ≡ false
  pub colon : has 58 (k ∷ ks) ≡ false
  pub lf_key : has 10 (k ∷ ks) ≡ false
  pub lf_value : has 10 v ≡ false
  pub trim_key : trimmed (k ∷ ks) ≡ k ∷ ks
  pub trim_value : trimmed v ≡ v

pub clean_pair_lem : (k : ℕ) (ks v : List ℕ) → clean_pair (record { key = k ∷ ks; value = v }) ≡ true → CleanPair k ks v
clean_pair_lem k ks v e =
    let u = pair_key (record { key = k ∷ ks; value = v }) e in
    let w = pair_value (record { key = k ∷ ks; value = v }) e in
    record {
      solid = first_solid k ks (neat_trim (k ∷ ks) u);
      colon = pair_colon (record { key = k ∷ ks; value = v }) e;
      lf_key = neat_lf (k ∷ ks) u;
      lf_value = neat_lf v w;
      trim_key = neat_trim (k ∷ ks) u;
      trim_value = neat_trim v w;
    }
