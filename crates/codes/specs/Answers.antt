-- Status code, content length and record type as answers with a number. Assumes nothing.
use Rattle.leaves.specs.Answers.{found_or}
use Rattle.leaves.specs.declared.refusals.Refusal.{Refusal}
use Rattle.std.specs.Prelude.{ℕ, Bool, Err, None, Ok, Option, Result, Some, false, true}
use Rattle.leaves.specs.Numbers.{found, missing}
use Rattle.leaves.specs.Refusals.{number}

-- a code, or "else none"
abbrev pub code_answer : Result (Option ℕ) Refusal → ℕ
code_answer r = found_or r

-- a content length, or no such field
abbrev pub length_answer : Result (Option ℕ) Refusal → ℕ
length_answer r = found_or r

-- a record type; "no field 0"
abbrev pub kind_answer : Result ℕ Refusal → ℕ
kind_answer (Ok n) = found
kind_answer (Err e) = number e

-- whether there is a reason; "none without it"
abbrev pub phrase_answer : Result Bool Refusal → ℕ
phrase_answer (Ok true) = found
phrase_answer (Ok false) = missing
phrase_answer (Err e) = number e
