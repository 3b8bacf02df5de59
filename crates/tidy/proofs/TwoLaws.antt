-- Laws of two octets at a place, and of CR LF with nothing behind it. Assumes nothing.
use mathlib.Core.Path.{◌≡◌, refl, sym, ap, ◌∙◌}
use mathlib.Core.Bool.{Bool, true, false, ◌&&◌}
use mathlib.Core.List.{List, [], ◌∷◌}
use Prim.Native.Nat.{ℕ, suc, ◌+◌, ◌-◌, ◌≤◌, ◌<◌}
use native.Mathlib.Numerals.{add-one}
use native.Mathlib.Omega.{arith}
use borrow.Author.Tests.{eq-eqb, ne_eqb}
use lib.Dec.{eqb}
use lib.ListN.{length, get_or, take, drop, length-take, length-drop}
use lib.Seq.{drop-cons, take_all}
use Rattle.leaves.specs.Octets.{same_list}
use Rattle.leaves.proofs.NameLaws.{same_list_eq}
use Rattle.writes.specs.Written.{crlf}
use Rattle.leaves.proofs.NameLaws.{apart}

-- two octets at a place
module _ (l : List ℕ) (at x y : ℕ) where
  pub two_short : length l - at < 2 → false ≡ same_list (take 2 (drop at l)) (x ∷ y ∷ [])
  two_short h = sym (apart (take 2 (drop at l)) (x ∷ y ∷ []) (λ e. absurd (omega (arith, e, length-take 2 (drop at l), length-drop at l))))

  module _ (h : 2 ≤ length l - at) where
    two_are : same_list (take 2 (drop at l)) (x ∷ y ∷ []) ≡ (eqb (get_or l at 0) x && (eqb (get_or l (at + 1) 0) y && true))
    unfolding same_list
    two_are =
        let i : at < length l = omega arith in
        let j : suc at < length l = omega arith in
        rw (add-one, drop-cons l at 0 i, drop-cons l (suc at) 0 j)

    pub two_first : get_or l at 0 ≡ x → eqb (get_or l (at + 1) 0) y ≡ same_list (take 2 (drop at l)) (x ∷ y ∷ [])
    two_first e = rw (two_are, eq-eqb (get_or l at 0) x e) (go (eqb (get_or l (at + 1) 0) y))
      where
        go : (t : Bool) → t ≡ (t && true)
        go true = refl
        go false = refl

    pub two_not : (get_or l at 0 ≡ x → ⊥) → false ≡ same_list (take 2 (drop at l)) (x ∷ y ∷ [])
    two_not e = rw (two_are, ne_eqb (get_or l at 0) x e)

pub two_within : (l : List ℕ) (at x y : ℕ) → same_list (take 2 (drop at l)) (x ∷ y ∷ []) ≡ true → at + 2 ≤ length l
two_within l at x y e =
    omega (arith, ap length (same_list_eq (take 2 (drop at l)) (x ∷ y ∷ []) e), length-take 2 (drop at l), length-drop at l)

-- CR LF, and nothing behind it
module _ (l : List ℕ) (at : ℕ) where
  pub end_two : length l - at ≡ 2 → (r : Bool) → r ≡ same_list (take 2 (drop at l)) crlf → r ≡ same_list (drop at l) crlf
  end_two h r e = e ∙ ap (λ (k : List ℕ). same_list k crlf) (take_all 2 (drop at l) (omega (arith, length-drop at l)))

  pub end_not : (length l - at ≡ 2 → ⊥) → false ≡ same_list (drop at l) crlf
  end_not h = sym (apart (drop at l) crlf (λ e. h (sym (length-drop at l) ∙ e)))
