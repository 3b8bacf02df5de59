-- Equality's answer as a number. Assumes nothing.
use Rattle.leaves.specs.Answers.{yes_or}
use Rattle.leaves.specs.declared.refusals.Refusal.{Refusal}
use Rattle.std.specs.Prelude.{ℕ, Bool, Err, Ok, Result, false, true}
use Rattle.leaves.specs.Numbers.{yes, other}
use Rattle.leaves.specs.Refusals.{number}

-- "Map equality compares status, keys and values by octets"
abbrev pub told : Result Bool Refusal → ℕ
told r = yes_or r
