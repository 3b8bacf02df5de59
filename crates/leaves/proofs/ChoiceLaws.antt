-- Laws of choices, of Bools, and of cases that cannot be equal. Assumes nothing.
use mathlib.Core.Path.{◌≡◌, refl, sym}
use mathlib.Core.Bool.{Bool, true, false, ◌&&◌, ◌||◌, false≢true}
use Prim.Native.Nat.{ℕ}
use native.Mathlib.Omega.{arith}
use borrow.Author.Tests.{eqb-true, eqb-false, eq-eqb, ne_eqb}
use lib.Dec.{eqb}
use Rattle.leaves.specs.Choice.{when◌then◌else◌}

-- two cases of a type are never equal: of such an equation `cc` makes 0 ≡ 1, and of that follows anything
pub clash {ℓ} : {A : Type ℓ} → ◌≡◌ {A = ℕ} 0 1 → A
clash z = absurd (omega arith)

pub by_if {ℓ κ} : {A : Type ℓ} (P : A → Type κ) (t : Bool) (a b : A) → (t ≡ true → P a) → (t ≡ false → P b) → P (when t then a else b)
unfolding when◌then◌else◌
by_if P true a b f g = f refl
by_if P false a b f g = g refl

pub if_true {ℓ} : {A : Type ℓ} {t : Bool} (a b : A) → t ≡ true → (when t then a else b) ≡ a
unfolding when◌then◌else◌
if_true a b e = rw e

pub if_false {ℓ} : {A : Type ℓ} {t : Bool} (a b : A) → t ≡ false → (when t then a else b) ≡ b
unfolding when◌then◌else◌
if_false a b e = rw e

pub and_left : (a b : Bool) → (a && b) ≡ true → a ≡ true
and_left true b e = refl
and_left false b e = e

pub and_right : (a b : Bool) → (a && b) ≡ true → b ≡ true
and_right true b e = e
and_right false b e = absurd (false≢true e)

pub and_both : (a b : Bool) → a ≡ true → b ≡ true → (a && b) ≡ true
and_both true b e f = f
and_both false b e f = e

pub and_false : (a b : Bool) → b ≡ false → (a && b) ≡ false
and_false true b e = e
and_false false b e = refl

pub or_assoc : (a b c : Bool) → (a || (b || c)) ≡ ((a || b) || c)
or_assoc true b c = refl
or_assoc false b c = refl

pub or_false : (b : Bool) → (b || false) ≡ b
or_false true = refl
or_false false = refl

pub or_second : (a b : Bool) → b ≡ true → (a || b) ≡ true
or_second true b e = refl
or_second false b e = e

pub or_left : (a b : Bool) → (a || b) ≡ false → a ≡ false
or_left true b e = e
or_left false b e = refl

pub or_right : (a b : Bool) → (a || b) ≡ false → b ≡ false
or_right true b e = absurd (false≢true (sym e))
or_right false b e = e

pub eqb_sym : (a b : ℕ) → eqb a b ≡ eqb b a
eqb_sym a b = choose (eqb b a) refl
  where
    choose : (t : Bool) → eqb b a ≡ t → eqb a b ≡ t
    choose true e = eq-eqb a b (sym (eqb-true b a e))
    choose false e = ne_eqb a b (λ d. eqb-false b a e (sym d))

-- for the search: which side a choice takes
pub ruleset choices = (if_true, if_false)
