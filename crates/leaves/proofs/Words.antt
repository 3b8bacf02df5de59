-- This crate's words of lists, said in the library's. Assumes nothing.
use mathlib.Core.Path.{◌≡◌, refl, sym, ap, ◌∙◌}
use mathlib.Core.Bool.{Bool, true, false, not, cond, ◌&&◌, false≢true}
use mathlib.Core.List.{List, [], ◌∷◌, map}
use Prim.Native.Nat.{ℕ, suc, ◌+◌}
use native.Mathlib.Omega.{arith}
use Rattle.std.proofs.lemmas.Bool.Decides.{nat_tests}
use Rattle.std.specs.Char.{to_ascii_lowercase, is_ascii_digit}
use Rattle.std.specs.List.{list_all, filter, prefix_len}
use Rattle.std.proofs.Common.{◌↔◌}
use Rattle.std.specs.Bool.{IsTrue}
use Rattle.leaves.specs.Class.{blank, digit}
use Rattle.leaves.specs.Name.{lowered, same_name}
use Rattle.leaves.specs.Octets.{all}
use Rattle.leaves.specs.Sanitise.{dropped, spaced, scrubbed}
use Rattle.leaves.specs.Trim.{leading}
use Rattle.leaves.proofs.NameLaws.{same_list_refl, same_list_eq}

pub all_is : (p : ℕ → Bool) (s : List ℕ) → all p s ≡ list_all p s
unfolding all
all_is p [] = refl
all_is p (x ∷ xs) = ap (λ (b : Bool). p x && b) (all_is p xs)

pub leading_is : (s : List ℕ) → leading s ≡ prefix_len blank s
unfolding leading
leading_is [] = refl
leading_is (x ∷ xs) = choose (blank x) (leading_is xs)
  where
    choose : (b : Bool) → leading xs ≡ prefix_len blank xs → cond b (suc (leading xs)) 0 ≡ cond b (1 + prefix_len blank xs) 0
    choose true e = omega arith
    choose false e = refl

-- a trimmed text sanitised and in small letters, octet by octet
pub scrubbed_lowered : (key : Bool) (s : List ℕ) → map lowered (scrubbed key s) ≡ map (λ x. lowered (spaced x)) (filter (λ x. not (dropped key x)) s)
unfolding scrubbed
scrubbed_lowered key [] = refl
scrubbed_lowered key (x ∷ xs) = choose (dropped key x) (scrubbed_lowered key xs)
  where
    choose : (b : Bool) → map lowered (scrubbed key xs) ≡ map (λ y. lowered (spaced y)) (filter (λ y. not (dropped key y)) xs)
        → map lowered (cond b (scrubbed key xs) (spaced x ∷ scrubbed key xs)) ≡ map (λ y. lowered (spaced y)) (cond (not b) (x ∷ filter (λ y. not (dropped key y)) xs) (filter (λ y. not (dropped key y)) xs))
    choose true e = e
    choose false e = ap (λ (l : List ℕ). lowered (spaced x) ∷ l) e

pub lowered_is : (x : ℕ) → lowered x ≡ to_ascii_lowercase x
unfolding lowered
lowered_is x = grind (arith, nat_tests)

pub digit_is : (x : ℕ) → digit x ≡ is_ascii_digit x
unfolding digit
digit_is x = grind (arith, nat_tests)

lowered_all : (s : List ℕ) → map lowered s ≡ map to_ascii_lowercase s
lowered_all [] = refl
lowered_all (x ∷ xs) = rw (lowered_is x, lowered_all xs)

-- what decides whether two texts in small letters are one
pub same_decided : (a b : List ℕ) (r : Bool) → IsTrue r ↔ (map to_ascii_lowercase a ≡ map to_ascii_lowercase b) → same_name a b ≡ r
same_decided a b true (f, g) = rw (lowered_all a, lowered_all b, f refl) (same_list_refl (map to_ascii_lowercase b))
same_decided a b false (f, g) = choose (same_name a b) refl
  where
    choose : (t : Bool) → same_name a b ≡ t → same_name a b ≡ false
    choose true e = absurd (false≢true (g (sym (lowered_all a) ∙ same_list_eq (map lowered a) (map lowered b) e ∙ lowered_all b)))
    choose false e = e
