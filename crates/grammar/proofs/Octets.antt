-- Which octets tokens and texts have not, and what trimming leaves of them. Assumes nothing.
use mathlib.Core.Path.{◌≡◌, refl, sym, ◌∙◌, ap}
use mathlib.Core.Bool.{Bool, true, false, false≢true}
use mathlib.Core.List.{List, [], ◌∷◌}
use Prim.Native.Nat.{ℕ, zero, suc, ◌-◌}
use native.Mathlib.Omega.{arith}
use lib.Dec.{eqb}
use lib.ListN.{length}
use lib.Seq.{take-length}
use borrow.Author.Tests.{ne_eqb}
use Rattle.leaves.proofs.ChoiceLaws.{and_left, and_right}
use Rattle.leaves.specs.Class.{token, text, blank, separator}
use Rattle.leaves.specs.Octets.{has, all}
use Rattle.leaves.specs.Trim.{leading, end_after, trim_end, trim_start, trimmed}

-- an octet that passes a test is none that fails it
pub other : (p : ℕ → Bool) (c x : ℕ) → p c ≡ false → p x ≡ true → eqb x c ≡ false
other p c x f e = ne_eqb x c (λ q. false≢true (sym f ∙ ap p (sym q) ∙ e))

pub lacks : (p : ℕ → Bool) (c : ℕ) (l : List ℕ) → p c ≡ false → all p l ≡ true → has c l ≡ false
unfolding all has
lacks p c [] f e = refl
lacks p c (x ∷ xs) f e = rw (other p c x f (and_left (p x) (all p xs) e)) (lacks p c xs f (and_right (p x) (all p xs) e))

pub text_lf : (l : List ℕ) → all text l ≡ true → has 10 l ≡ false
unfolding text
text_lf l e = lacks text 10 l refl e

pub token_lf : (l : List ℕ) → all token l ≡ true → has 10 l ≡ false
unfolding token separator has
token_lf l e = lacks token 10 l refl e

pub token_colon : (l : List ℕ) → all token l ≡ true → has 58 l ≡ false
unfolding token separator has
token_colon l e = lacks token 58 l refl e

differs : (c x : ℕ) → token c ≡ false → token x ≡ true → eqb c x ≡ false
differs c x f e = ne_eqb c x (λ q. false≢true (sym f ∙ ap token q ∙ e))

pub token_solid : (x : ℕ) → token x ≡ true → blank x ≡ false
unfolding blank has token separator
token_solid x e = rw (differs 32 x refl e, differs 9 x refl e, differs 10 x refl e, differs 12 x refl e, differs 13 x refl e)

end_solid : (n : ℕ) → end_after false n ≡ suc n
end_solid zero = refl
end_solid (suc n) = refl

token_end : (l : List ℕ) → all token l ≡ true → trim_end l ≡ length l
unfolding trim_end all
token_end [] e = refl
token_end (x ∷ xs) e =
    rw (token_solid x (and_left (token x) (all token xs) e), token_end xs (and_right (token x) (all token xs) e)) (end_solid (length xs))

token_leading : (l : List ℕ) → all token l ≡ true → leading l ≡ 0
unfolding leading all
token_leading [] e = refl
token_leading (x ∷ xs) e = rw (token_solid x (and_left (token x) (all token xs) e))

token_start : (l : List ℕ) → all token l ≡ true → trim_start l ≡ 0
unfolding trim_start
token_start l e = rw (token_leading l e) (omega arith)

pub token_trim : (l : List ℕ) → all token l ≡ true → trimmed l ≡ l
token_trim l e =
    let z : length l - 0 ≡ length l = omega arith in
    rw (token_end l e, token_start l e, z) (take-length l)
