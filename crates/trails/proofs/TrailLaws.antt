-- Laws of a trail in numbers: numbers that are a trail's are those of one trail. Assumes nothing.
use mathlib.Core.Path.{◌≡◌, refl, ap, ◌∙◌}
use mathlib.Core.Bool.{true}
use mathlib.Core.List.{List, [], ◌∷◌}
use Prim.Native.Nat.{ℕ, zero, suc, ◌+◌, ◌-◌, ◌≤◌, ◌<◌}
use native.Mathlib.Omega.{arith}
use lib.Dec.{eqb, ltb}
use lib.ListN.{length, get_or, set}
use borrow.Author.Tests.{eqb-true, ltb-true, lt-ltb, le-ltb}
use Rattle.leaves.specs.Choice.{when◌then◌else◌}
use Rattle.leaves.specs.Refusals.{number, refusal}
use Rattle.leaves.specs.declared.refusals.Refusal.{Refusal}
use Rattle.leaves.specs.declared.refusals.Refusal.TheVariants.{BadRooms, ShortLoan, BadMap, BlockFull, FieldsFull, StoreFull, WrongPhase, ShortOutput, BadVersion, BadLength, BadTrailer, CutShort, TooFar}
use Rattle.leaves.proofs.ChoiceLaws.{if_false, and_left, and_right}
use Rattle.leaves.proofs.RefusalLaws.{refusal_number}
use Rattle.walker.specs.declared.Stage.{Stage}
use Rattle.walker.specs.declared.Stage.TheVariants.{Between, Header, Body, Cr, Lf, LastCr, LastLf, Ended, Stopped}
use Rattle.walker.specs.declared.Trail.{Trail}
use Rattle.trails.specs.Trail.{staged, low_stage, stage_of, trail_numbers, trail_of, sound_trail}

-- where a walker stands
pub number_low : (e : Refusal) → (1 ≤ number e) × (number e ≤ 13)
number_low BadRooms = (omega arith, omega arith)
number_low ShortLoan = (omega arith, omega arith)
number_low BadMap = (omega arith, omega arith)
number_low BlockFull = (omega arith, omega arith)
number_low FieldsFull = (omega arith, omega arith)
number_low StoreFull = (omega arith, omega arith)
number_low WrongPhase = (omega arith, omega arith)
number_low ShortOutput = (omega arith, omega arith)
number_low BadVersion = (omega arith, omega arith)
number_low BadLength = (omega arith, omega arith)
number_low BadTrailer = (omega arith, omega arith)
number_low CutShort = (omega arith, omega arith)
number_low TooFar = (omega arith, omega arith)

stopped_back : (e : Refusal) → stage_of (7 + number e) ≡ Stopped e
unfolding stage_of
stopped_back e =
    let n = number e in
    let h : 8 ≤ 7 + n = omega (arith, number_low e) in
    let k : 7 + n - 7 ≡ n = omega arith in
    if_false _ _ (le-ltb (7 + n) 8 h) ∙ ap Stopped (ap refusal k ∙ refusal_number e)

stage_back : (x : Stage) → stage_of (staged x) ≡ x
unfolding stage_of low_stage when◌then◌else◌
stage_back Between = refl
stage_back Header = refl
stage_back Body = refl
stage_back Cr = refl
stage_back Lf = refl
stage_back LastCr = refl
stage_back LastLf = refl
stage_back Ended = refl
stage_back (Stopped e) = stopped_back e

stage_small : (x : Stage) → staged x < 21
stage_small Between = omega arith
stage_small Header = omega arith
stage_small Body = omega arith
stage_small Cr = omega arith
stage_small Lf = omega arith
stage_small LastCr = omega arith
stage_small LastLf = omega arith
stage_small Ended = omega arith
stage_small (Stopped e) = omega (arith, number_low e)

staged_of : (n : ℕ) → n < 21 → staged (stage_of n) ≡ n
unfolding stage_of low_stage when◌then◌else◌
staged_of zero h = refl
staged_of (suc zero) h = refl
staged_of (suc (suc zero)) h = refl
staged_of (suc (suc (suc zero))) h = refl
staged_of (suc (suc (suc (suc zero)))) h = refl
staged_of (suc (suc (suc (suc (suc zero))))) h = refl
staged_of (suc (suc (suc (suc (suc (suc zero)))))) h = refl
staged_of (suc (suc (suc (suc (suc (suc (suc zero))))))) h = refl
staged_of (suc (suc (suc (suc (suc (suc (suc (suc zero)))))))) h = refl
staged_of (suc (suc (suc (suc (suc (suc (suc (suc (suc zero))))))))) h = refl
staged_of (suc (suc (suc (suc (suc (suc (suc (suc (suc (suc zero)))))))))) h = refl
staged_of (suc (suc (suc (suc (suc (suc (suc (suc (suc (suc (suc zero))))))))))) h = refl
staged_of (suc (suc (suc (suc (suc (suc (suc (suc (suc (suc (suc (suc zero)))))))))))) h = refl
staged_of (suc (suc (suc (suc (suc (suc (suc (suc (suc (suc (suc (suc (suc zero))))))))))))) h = refl
staged_of (suc (suc (suc (suc (suc (suc (suc (suc (suc (suc (suc (suc (suc (suc zero)))))))))))))) h = refl
staged_of (suc (suc (suc (suc (suc (suc (suc (suc (suc (suc (suc (suc (suc (suc (suc zero))))))))))))))) h = refl
staged_of (suc (suc (suc (suc (suc (suc (suc (suc (suc (suc (suc (suc (suc (suc (suc (suc zero)))))))))))))))) h = refl
staged_of (suc (suc (suc (suc (suc (suc (suc (suc (suc (suc (suc (suc (suc (suc (suc (suc (suc zero))))))))))))))))) h = refl
staged_of (suc (suc (suc (suc (suc (suc (suc (suc (suc (suc (suc (suc (suc (suc (suc (suc (suc (suc zero)))))))))))))))))) h = refl
staged_of (suc (suc (suc (suc (suc (suc (suc (suc (suc (suc (suc (suc (suc (suc (suc (suc (suc (suc (suc zero))))))))))))))))))) h = refl
staged_of (suc (suc (suc (suc (suc (suc (suc (suc (suc (suc (suc (suc (suc (suc (suc (suc (suc (suc (suc (suc zero)))))))))))))))))))) h = refl
staged_of (suc (suc (suc (suc (suc (suc (suc (suc (suc (suc (suc (suc (suc (suc (suc (suc (suc (suc (suc (suc (suc n))))))))))))))))))))) h = absurd (omega arith)

-- what the tests of a trail say
pub sound_four : (n : List ℕ) → sound_trail n ≡ true → length n ≡ 4
unfolding sound_trail
sound_four n h = eqb-true _ _ (and_left (eqb (length n) 4) (ltb (get_or n 3 0) 21) h)

-- one list of numbers for one trail
four_again : (n : List ℕ) → length n ≡ 4 → get_or n 3 0 < 21 → trail_numbers (trail_of n) ≡ n
four_again [] l h = absurd (omega arith)
four_again (a ∷ []) l h = absurd (omega arith)
four_again (a ∷ b ∷ []) l h = absurd (omega arith)
four_again (a ∷ b ∷ c ∷ []) l h = absurd (omega arith)
four_again (a ∷ b ∷ c ∷ d ∷ []) l h = rw (staged_of d h)
four_again (a ∷ b ∷ c ∷ d ∷ e ∷ r) l h = absurd (omega arith)

pub trail_again : (n : List ℕ) → sound_trail n ≡ true → trail_numbers (trail_of n) ≡ n
unfolding sound_trail
trail_again n h = four_again n (sound_four n h) (ltb-true _ _ (and_right (eqb (length n) 4) (ltb (get_or n 3 0) 21) h))

-- and one trail for one list of numbers
pub trail_back : (w : Trail) → trail_of (trail_numbers w) ≡ w
trail_back w = rw (stage_back w.stage)

pub trail_sound : (w : Trail) → sound_trail (trail_numbers w) ≡ true
unfolding sound_trail
trail_sound w = lt-ltb _ _ (stage_small w.stage)

-- four numbers stored over four
pub four_stored : (n : List ℕ) (a b c d : ℕ) → length n ≡ 4 → set (set (set (set n 0 a) 1 b) 2 c) 3 d ≡ a ∷ b ∷ c ∷ d ∷ []
four_stored [] a b c d l = absurd (omega arith)
four_stored (w ∷ []) a b c d l = absurd (omega arith)
four_stored (w ∷ x ∷ []) a b c d l = absurd (omega arith)
four_stored (w ∷ x ∷ y ∷ []) a b c d l = absurd (omega arith)
four_stored (w ∷ x ∷ y ∷ z ∷ []) a b c d l = refl
four_stored (w ∷ x ∷ y ∷ z ∷ v ∷ r) a b c d l = absurd (omega arith)
