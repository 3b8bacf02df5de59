-- What a header opens, as a number. Assumes nothing.
use Rattle.leaves.specs.declared.refusals.Refusal.{Refusal}
use Rattle.std.specs.Prelude.{ℕ, Err, Ok, Result}
use Rattle.leaves.specs.Numbers.{record_begun}
use Rattle.leaves.specs.Refusals.{number}

-- "a record begun", or 9 or 10
abbrev pub told : Result (ℕ × ℕ) Refusal → ℕ
told (Ok (size, kind)) = record_begun
told (Err e) = number e
