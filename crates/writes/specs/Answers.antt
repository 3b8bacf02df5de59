-- The answer of a call that writes, as a number. Assumes nothing.
use Rattle.leaves.specs.Answers.{done_or}
use Rattle.leaves.specs.declared.refusals.Refusal.{Refusal}
use Rattle.std.specs.Prelude.{ℕ, Err, Ok, Result}
use Rattle.leaves.specs.Numbers.{done}
use Rattle.leaves.specs.Refusals.{number}

-- "Both answer the count"
abbrev pub told : Result ℕ Refusal → ℕ
told r = done_or r
