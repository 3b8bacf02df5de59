-- The pass over the lines of pairs: what passes is the lines of clean pairs, and these pass. Assumes nothing.
use mathlib.Core.Path.{◌≡◌, refl, sym, ◌∙◌, ap}
use mathlib.Core.Bool.{Bool, true, false, ◌&&◌, ◌||◌}
use mathlib.Core.List.{List, [], ◌∷◌, ◌++◌, append_assoc}
use Prim.Native.Nat.{ℕ, zero, suc, ◌≤◌}
use native.Mathlib.Omega.{arith}
use lib.ListN.{length, take}
use Rattle.leaves.proofs.ChoiceLaws.{and_left, and_right, and_both, or_second}
use Rattle.leaves.specs.Octets.{before, same_list}
use Rattle.leaves.proofs.NameLaws.{same_list_refl, same_list_eq}
use Rattle.maps.specs.Said.{Pair}
use Rattle.writes.specs.Written.{crlf, pair_line, pair_lines}
use Rattle.rebuilds.specs.Clean.{neat, filled, clean_pair, clean_pairs}
use Rattle.rebuilds.specs.Scan.{neat_line, after_line, neat_key, after_key, scan_pairs}
use Rattle.rebuilds.proofs.CleanTexts.{pair_filled, pair_colon, pair_key, pair_value, is_pair}
use Rattle.rebuilds.proofs.ScanLines.{none_before, split_two, neat_line_lem, after_line_lem, line_neat, line_is, pair_shape, neat_key_lem, after_key_lem}

or_first : (a b : Bool) → a ≡ true → (a || b) ≡ true
or_first a b e = rw e

-- the lines of clean pairs pass
pub scan_clean : (ps : List Pair) (n : ℕ) → clean_pairs ps ≡ true → length ps ≤ n → scan_pairs n (pair_lines ps ++ crlf) ≡ true
unfolding scan_pairs clean_pairs pair_lines
scan_clean [] zero c h = same_list_refl crlf
scan_clean [] (suc n) c h = or_first (same_list crlf crlf) _ (same_list_refl crlf)
scan_clean (p ∷ ps) zero c h = absurd (omega arith)
scan_clean (p ∷ ps) (suc n) c h =
    let d = and_left (clean_pair p) (clean_pairs ps) c in
    let w : List ℕ = pair_lines ps ++ crlf in
    let v = p.value in
    let q : (pair_line p.key v ++ pair_lines ps) ++ crlf ≡ p.key ++ 58 ∷ 32 ∷ (v ++ 13 ∷ 10 ∷ w) =
    append_assoc (pair_line p.key v) (pair_lines ps) crlf ∙ pair_shape p.key v w (pair_filled p d) in
    rw (q, after_key_lem p.key (v ++ 13 ∷ 10 ∷ w) (pair_filled p d) (pair_colon p d) (pair_key p d), after_line_lem v w (pair_value p d))
    (or_second (same_list (p.key ++ 58 ∷ 32 ∷ (v ++ 13 ∷ 10 ∷ w)) crlf) _
    (and_both _ _ (neat_key_lem p.key (v ++ 13 ∷ 10 ∷ w) (pair_filled p d) (pair_colon p d) (pair_key p d))
    (and_both _ _ (neat_line_lem v w (pair_value p d)) (scan_clean ps n (and_right (clean_pair p) (clean_pairs ps) c) (omega arith)))))

-- and what passes is the lines of clean pairs
pub record Lines (n : ℕ) (l : List ℕ) : Type 0 where
  pub pairs : List Pair
  pub is_clean : clean_pairs pairs ≡ true
  pub few : length pairs ≤ n
  pub is : l ≡ pair_lines pairs ++ crlf

lines_none : (n : ℕ) (l : List ℕ) → same_list l crlf ≡ true → Lines n l
unfolding clean_pairs pair_lines
lines_none n l e = record { pairs = []; is_clean = refl; few = omega arith; is = same_list_eq l crlf e }

lines_more : (n : ℕ) (l : List ℕ) → neat_key l ≡ true → neat_line (after_key l) ≡ true → Lines n (after_line (after_key l)) → Lines (suc n) l
unfolding clean_pairs pair_lines neat_key
lines_more n l h g r =
    let k : List ℕ = take (before 58 l) l in
    let v : List ℕ = take (before 13 (after_key l)) (after_key l) in
    let f : filled k ≡ true = and_left (filled k) _ h in
    let t = and_right (filled k) _ h in
    let m : neat k ≡ true = and_left (neat k) _ t in
    let w : List ℕ = pair_lines r.pairs ++ crlf in
    record {
      pairs = record { key = k; value = v } ∷ r.pairs;
      is_clean = and_both _ _ (is_pair k v f (none_before 58 l) m (line_neat (after_key l) g)) r.is_clean;
      few = omega (arith, r.few);
      is =
          split_two l (before 58 l) (58 ∷ 32 ∷ []) (and_right (neat k) _ t) ∙
          ap (λ (d : List ℕ). k ++ 58 ∷ 32 ∷ d) (line_is (after_key l) g ∙ ap (λ (d : List ℕ). v ++ 13 ∷ 10 ∷ d) r.is) ∙
          sym (append_assoc (pair_line k v) (pair_lines r.pairs) crlf ∙ pair_shape k v w f);
    }

pub scan_lines : (n : ℕ) (l : List ℕ) → scan_pairs n l ≡ true → Lines n l
unfolding scan_pairs
scan_lines zero l e = lines_none zero l e
scan_lines (suc n) l e = choose (same_list l crlf) refl (λ (r : scan_pairs n (after_line (after_key l)) ≡ true). scan_lines n (after_line (after_key l)) r) e
  where
    choose : (t : Bool) → same_list l crlf ≡ t → (scan_pairs n (after_line (after_key l)) ≡ true → Lines n (after_line (after_key l)))
        → (t || (neat_key l && (neat_line (after_key l) && scan_pairs n (after_line (after_key l))))) ≡ true → Lines (suc n) l
    choose true s ih e = lines_none (suc n) l s
    choose false s ih e =
        let g = and_right (neat_key l) _ e in
        lines_more n l (and_left (neat_key l) _ e) (and_left (neat_line (after_key l)) _ g) (ih (and_right (neat_line (after_key l)) _ g))
