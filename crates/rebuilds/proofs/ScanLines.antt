-- The lines of clean texts and pairs, told by the first CR and the first colon. Assumes nothing.
use mathlib.Core.Path.{◌≡◌, refl, sym, ◌∙◌, ap}
use mathlib.Core.Bool.{Bool, true, false, cond, false≢true}
use mathlib.Core.List.{List, [], ◌∷◌, ◌++◌, append_assoc}
use Prim.Native.Nat.{ℕ, suc, ◌+◌}
use lib.Dec.{eqb}
use lib.ListN.{length, take, drop, take-append-drop}
use lib.Seq.{take_at, drop_at, drop-append-add, drop-drop}
use Rattle.leaves.proofs.ChoiceLaws.{and_left, and_right, and_both}
use Rattle.leaves.specs.Octets.{has, before, same_list}
use Rattle.leaves.proofs.NameLaws.{same_list_refl, same_list_eq}
use Rattle.leaves.proofs.SearchLaws.{before_append}
use Rattle.writes.specs.Written.{crlf, labelled, pair_line}
use Rattle.rebuilds.specs.Clean.{neat, filled}
use Rattle.rebuilds.specs.Scan.{neat_line, after_line, neat_key, after_key}
use Rattle.rebuilds.proofs.CleanTexts.{neat_cr}

pub none_before : (c : ℕ) (l : List ℕ) → has c (take (before c l) l) ≡ false
unfolding has before
none_before c [] = refl
none_before c (x ∷ xs) = choose (eqb x c) refl (none_before c xs)
  where
    choose : (t : Bool) → eqb x c ≡ t → has c (take (before c xs) xs) ≡ false → has c (take (cond t 0 (suc (before c xs))) (x ∷ xs)) ≡ false
    choose true e ih = refl
    choose false e ih = rw e ih

pub split_two : (l : List ℕ) (e : ℕ) (t : List ℕ) → same_list (take 2 (drop e l)) t ≡ true → l ≡ take e l ++ (t ++ drop (e + 2) l)
split_two l e t h =
    sym (take-append-drop e l) ∙
    ap (λ (r : List ℕ). take e l ++ r)
    (sym (take-append-drop 2 (drop e l)) ∙
    ap (λ (a : List ℕ). a ++ drop 2 (drop e l)) (same_list_eq (take 2 (drop e l)) t h) ∙
    ap (λ (d : List ℕ). t ++ d) (drop-drop 2 e l))

-- the line of a neat text
module _ (v w : List ℕ) (n : neat v ≡ true) where
  cr_at_lem : before 13 (v ++ 13 ∷ 10 ∷ w) ≡ length v
  cr_at_lem = before_append 13 v (10 ∷ w) (neat_cr v n)

  pub text_at : take (before 13 (v ++ 13 ∷ 10 ∷ w)) (v ++ 13 ∷ 10 ∷ w) ≡ v
  text_at = rw cr_at_lem (take_at v (13 ∷ 10 ∷ w) (length v) refl)

  pub neat_line_lem : neat_line (v ++ 13 ∷ 10 ∷ w) ≡ true
  unfolding neat_line
  neat_line_lem =
      and_both (neat (take (before 13 (v ++ 13 ∷ 10 ∷ w)) (v ++ 13 ∷ 10 ∷ w))) _ (rw text_at n)
      (rw (cr_at_lem, drop_at v (13 ∷ 10 ∷ w) (length v) refl) (same_list_refl crlf))

  pub after_line_lem : after_line (v ++ 13 ∷ 10 ∷ w) ≡ w
  after_line_lem = rw cr_at_lem (drop-append-add v (13 ∷ 10 ∷ w) 2)

-- a neat line is the line of its text
module _ (l : List ℕ) (h : neat_line l ≡ true) where
  pub line_neat : neat (take (before 13 l) l) ≡ true
  unfolding neat_line
  line_neat = and_left (neat (take (before 13 l) l)) _ h

  pub line_is : l ≡ take (before 13 l) l ++ (crlf ++ after_line l)
  unfolding neat_line
  line_is = split_two l (before 13 l) crlf (and_right (neat (take (before 13 l) l)) _ h)

-- the line of a clean pair
labelled_filled : (k v : List ℕ) → filled k ≡ true → labelled k v ≡ k ++ 58 ∷ 32 ∷ v
labelled_filled [] v e = absurd (false≢true e)
labelled_filled (x ∷ xs) v e = refl

pub pair_shape : (k v w : List ℕ) → filled k ≡ true → pair_line k v ++ w ≡ k ++ 58 ∷ 32 ∷ (v ++ 13 ∷ 10 ∷ w)
unfolding pair_line
pair_shape k v w e = rw (labelled_filled k v e) (simp append_assoc)

module _ (k w : List ℕ) (f : filled k ≡ true) (h : has 58 k ≡ false) (n : neat k ≡ true) where
  colon_at : before 58 (k ++ 58 ∷ 32 ∷ w) ≡ length k
  colon_at = before_append 58 k (32 ∷ w) h

  key_at : take (before 58 (k ++ 58 ∷ 32 ∷ w)) (k ++ 58 ∷ 32 ∷ w) ≡ k
  key_at = rw colon_at (take_at k (58 ∷ 32 ∷ w) (length k) refl)

  pub neat_key_lem : neat_key (k ++ 58 ∷ 32 ∷ w) ≡ true
  unfolding neat_key
  neat_key_lem =
      and_both (filled (take (before 58 (k ++ 58 ∷ 32 ∷ w)) (k ++ 58 ∷ 32 ∷ w))) _ (rw key_at f)
      (and_both (neat (take (before 58 (k ++ 58 ∷ 32 ∷ w)) (k ++ 58 ∷ 32 ∷ w))) _ (rw key_at n)
      (rw (colon_at, drop_at k (58 ∷ 32 ∷ w) (length k) refl) (same_list_refl (58 ∷ 32 ∷ []))))

  pub after_key_lem : after_key (k ++ 58 ∷ 32 ∷ w) ≡ w
  after_key_lem = rw colon_at (drop-append-add k (58 ∷ 32 ∷ w) 2)
