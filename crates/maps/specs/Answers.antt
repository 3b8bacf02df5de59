-- The first checks as a number. Assumes nothing.
use Rattle.leaves.specs.Answers.{done_or}
use Rattle.leaves.specs.declared.refusals.Refusal.{Refusal}
use Rattle.std.specs.Prelude.{ℕ, Result, ⊤}

-- what the first checks say
abbrev pub told : Result ⊤ Refusal → ℕ
told r = done_or r
