-- Laws of the ends of a line's blank-free part. Assumes nothing.
use mathlib.Core.Path.{◌≡◌, refl, sym, ap, ◌∙◌}
use mathlib.Core.Bool.{Bool, true, false}
use mathlib.Core.List.{List, [], ◌∷◌, ◌++◌, reverse}
use Prim.Native.Nat.{ℕ, zero, suc, min, ◌+◌, ◌-◌, ◌≤◌, ◌<◌}
use native.Mathlib.Omega.{arith}
use native.Mathlib.Nat.{add-zero}
use lib.ListN.{length, get_or, take, drop, drop_of_length-le}
use lib.Seq.{drop-cons, take-suc, length-take-le}
use Rattle.std.proofs.lemmas.List.{reverse-append, reverse-reverse, length-reverse}
use Rattle.std.specs.List.{prefix_len, suffix_len}
use Rattle.std.proofs.lemmas.List.Sums.{prefix_len-le-length}
use Rattle.leaves.specs.Class.{blank}
use Rattle.leaves.specs.Trim.{leading, trim_end, trim_start, end_after, Trimming}

-- what the octet at i adds to the count of leading blanks
pub leading_more : (s : List ℕ) (i : ℕ) → i < length s → blank (get_or s i 0) ≡ true → leading (drop i s) ≡ suc (leading (drop (suc i) s))
unfolding leading
leading_more s i h e = rw (drop-cons s i 0, e)

pub leading_stop : (s : List ℕ) (i : ℕ) → i < length s → blank (get_or s i 0) ≡ false → leading (drop i s) ≡ 0
unfolding leading
leading_stop s i h e = rw (drop-cons s i 0, e)

pub leading_end : (s : List ℕ) (i : ℕ) → length s ≤ i → leading s ≡ i + leading (drop i s) → i ≡ leading s
unfolding leading
leading_end s i h e = sym (e ∙ rw (drop_of_length-le s h) (add-zero i))

-- a blank at the end does not count
end_blank : (s : List ℕ) (x : ℕ) → blank x ≡ true → trim_end (s ++ (x ∷ [])) ≡ trim_end s
unfolding trim_end
end_blank [] x e = rw e
end_blank (y ∷ ys) x e = ap (end_after (blank y)) (end_blank ys x e)

after_suc : (b : Bool) (n : ℕ) → end_after b (suc n) ≡ suc (suc n)
after_suc true n = refl
after_suc false n = refl

end_full : (s : List ℕ) (x : ℕ) → blank x ≡ false → trim_end (s ++ (x ∷ [])) ≡ suc (length s)
unfolding trim_end
end_full [] x e = rw e
end_full (y ∷ ys) x e = rw (end_full ys x e) (after_suc (blank y) (length ys))

-- one step of the search from the back, at the last of the first e octets
module _ (s : List ℕ) (e : ℕ) (some : 0 < e) (fits : e ≤ length s) where
  last_in : e - 1 < length s
  last_in = omega arith

  taken : take e s ≡ take (e - 1) s ++ (get_or s (e - 1) 0 ∷ [])
  taken =
      let q : e ≡ suc (e - 1) = omega arith in
      ap (λ (n : ℕ). take n s) q ∙ take-suc s (e - 1) 0 last_in

  pub end_less : blank (get_or s (e - 1) 0) ≡ true → trim_end s ≡ trim_end (take e s) → trim_end s ≡ trim_end (take (e - 1) s)
  end_less b q = q ∙ ap trim_end taken ∙ end_blank (take (e - 1) s) (get_or s (e - 1) 0) b

  pub end_stop : blank (get_or s (e - 1) 0) ≡ false → trim_end s ≡ trim_end (take e s) → e ≡ trim_end s
  end_stop b q =
      let h : e - 1 ≤ length s = omega arith in
      let n : length (take (e - 1) s) ≡ e - 1 = length-take-le (e - 1) s h in
      let t : trim_end (take e s) ≡ suc (length (take (e - 1) s)) = ap trim_end taken ∙ end_full (take (e - 1) s) (get_or s (e - 1) 0) b in
      omega arith

pub end_none : (s : List ℕ) (e : ℕ) → e ≤ 0 → trim_end s ≡ trim_end (take e s) → e ≡ trim_end s
unfolding trim_end
end_none s e h q =
    let z : e ≡ 0 = omega arith in
    z ∙ sym (q ∙ ap (λ (n : ℕ). trim_end (take n s)) z)

-- the search from the back passes the blanks there
end_of_reversed : (s : List ℕ) → trim_end (reverse s) ≡ length s - prefix_len blank s
unfolding trim_end
end_of_reversed [] = refl
end_of_reversed (x ∷ xs) = choose (blank x) refl (end_of_reversed xs)
  where
    choose : (b : Bool) → blank x ≡ b → trim_end (reverse xs) ≡ length xs - prefix_len blank xs → trim_end (reverse (x ∷ xs)) ≡ length (x ∷ xs) - prefix_len blank (x ∷ xs)
    choose true e h = rw (reverse-append (x ∷ []) xs, end_blank (reverse xs) x e, h, e) (omega arith)
    choose false e h = rw (reverse-append (x ∷ []) xs, end_full (reverse xs) x e, length-reverse xs, e) (omega arith)

pub suffix_within : (s : List ℕ) → suffix_len blank s ≤ length s
suffix_within s = omega (arith, prefix_len-le-length blank (reverse s), length-reverse s)

pub end_from_back : (s : List ℕ) → trim_end s ≡ length s - suffix_len blank s
end_from_back s = ap trim_end (sym (reverse-reverse s)) ∙ end_of_reversed (reverse s) ∙ ap (λ (n : ℕ). n - prefix_len blank (reverse s)) (length-reverse s)

after_le : (b : Bool) (n m : ℕ) → n ≤ m → end_after b n ≤ suc m
after_le true zero m h = omega arith
after_le false zero m h = omega arith
after_le true (suc n) m h = omega arith
after_le false (suc n) m h = omega arith

pub end_within : (s : List ℕ) → trim_end s ≤ length s
unfolding trim_end
end_within [] = omega arith
end_within (x ∷ xs) = after_le (blank x) (trim_end xs) (length xs) (end_within xs)

module _ (s : List ℕ) (a e : ℕ) (p : a ≡ leading s) (q : e ≡ trim_end s) where
  pub bounds_lt : a < e → Trimming s (record { start = a; «end» = e })
  unfolding trim_start
  bounds_lt h =
      let m : min (leading s) (trim_end s) ≡ a = omega arith in
      let w : trim_end s ≤ length s = end_within s in
      record { is = rw (m, q); order = omega arith; within = omega arith }

  pub bounds_ge : e ≤ a → Trimming s (record { start = e; «end» = e })
  unfolding trim_start
  bounds_ge h =
      let m : min (leading s) (trim_end s) ≡ e = omega arith in
      let w : trim_end s ≤ length s = end_within s in
      record { is = rw (m, q); order = omega arith; within = omega arith }
