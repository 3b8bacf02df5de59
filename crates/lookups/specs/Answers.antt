-- A lookup's answer as a number. Assumes nothing.
use Rattle.leaves.specs.Answers.{found_or}
use Rattle.leaves.specs.declared.refusals.Refusal.{Refusal}
use Rattle.std.specs.Prelude.{ℕ, Err, None, Ok, Option, Result, Some}
use Rattle.leaves.specs.Numbers.{found, missing}
use Rattle.leaves.specs.Refusals.{number}

-- "A lookup from a given field number on gives missing or a field number."
abbrev pub told : Result (Option ℕ) Refusal → ℕ
told r = found_or r
