-- A number of the table and its refusal stand for each other. Assumes nothing.
use mathlib.Core.Path.{◌≡◌, refl}
use Prim.Native.Nat.{ℕ, zero, suc, ◌<◌}
use native.Mathlib.Omega.{arith}
use Rattle.leaves.specs.Refusals.{number, refusal}
use Rattle.leaves.specs.declared.refusals.Refusal.{Refusal}
use Rattle.leaves.specs.declared.refusals.Refusal.TheVariants.{BadRooms, ShortLoan, BadMap, BlockFull, FieldsFull, StoreFull, WrongPhase, ShortOutput, BadVersion, BadLength, BadTrailer, CutShort, TooFar}

pub refusal_number : (e : Refusal) → refusal (number e) ≡ e
refusal_number BadRooms = refl
refusal_number ShortLoan = refl
refusal_number BadMap = refl
refusal_number BlockFull = refl
refusal_number FieldsFull = refl
refusal_number StoreFull = refl
refusal_number WrongPhase = refl
refusal_number ShortOutput = refl
refusal_number BadVersion = refl
refusal_number BadLength = refl
refusal_number BadTrailer = refl
refusal_number CutShort = refl
refusal_number TooFar = refl

-- n + 1 is in the table
pub number_refusal : (n : ℕ) → n < 13 → number (refusal (suc n)) ≡ suc n
number_refusal zero h = refl
number_refusal (suc zero) h = refl
number_refusal (suc (suc zero)) h = refl
number_refusal (suc (suc (suc zero))) h = refl
number_refusal (suc (suc (suc (suc zero)))) h = refl
number_refusal (suc (suc (suc (suc (suc zero))))) h = refl
number_refusal (suc (suc (suc (suc (suc (suc zero)))))) h = refl
number_refusal (suc (suc (suc (suc (suc (suc (suc zero))))))) h = refl
number_refusal (suc (suc (suc (suc (suc (suc (suc (suc zero)))))))) h = refl
number_refusal (suc (suc (suc (suc (suc (suc (suc (suc (suc zero))))))))) h = refl
number_refusal (suc (suc (suc (suc (suc (suc (suc (suc (suc (suc zero)))))))))) h = refl
number_refusal (suc (suc (suc (suc (suc (suc (suc (suc (suc (suc (suc zero))))))))))) h = refl
number_refusal (suc (suc (suc (suc (suc (suc (suc (suc (suc (suc (suc (suc zero)))))))))))) h = refl
number_refusal (suc (suc (suc (suc (suc (suc (suc (suc (suc (suc (suc (suc (suc n))))))))))))) h = absurd (omega arith)
