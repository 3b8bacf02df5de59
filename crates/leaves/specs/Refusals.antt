-- The thirteen numbers. Assumes nothing.
use Rattle.std.specs.Prelude.{cond, ℕ, eqb}
use Rattle.leaves.specs.declared.refusals.Refusal.{Refusal}
use Rattle.leaves.specs.declared.refusals.Refusal.TheVariants.{BadRooms, ShortLoan, BadMap, BlockFull, FieldsFull, StoreFull, WrongPhase, ShortOutput, BadVersion, BadLength, BadTrailer, CutShort, TooFar}

abbrev pub number : Refusal → ℕ
number BadRooms = 1
number ShortLoan = 2
number BadMap = 3
number BlockFull = 4
number FieldsFull = 5
number StoreFull = 6
number WrongPhase = 7
number ShortOutput = 8
number BadVersion = 9
number BadLength = 10
number BadTrailer = 11
number CutShort = 12
number TooFar = 13

-- the refusal that a number of the table stands for: definitions say `refusal 3`. `proofs/RefusalLaws`: it is the one of that number
abbrev pub refusal : ℕ → Refusal
refusal n =
    cond (eqb n 1) BadRooms (
    cond (eqb n 2) ShortLoan (
    cond (eqb n 3) BadMap (
    cond (eqb n 4) BlockFull (
    cond (eqb n 5) FieldsFull (
    cond (eqb n 6) StoreFull (
    cond (eqb n 7) WrongPhase (
    cond (eqb n 8) ShortOutput (
    cond (eqb n 9) BadVersion (
    cond (eqb n 10) BadLength (
    cond (eqb n 11) BadTrailer (
    cond (eqb n 12) CutShort (
    TooFar))))))))))))
