-- A walker's answer as a number. Assumes nothing.
use Rattle.leaves.specs.declared.refusals.Refusal.{Refusal}
use Rattle.std.specs.Prelude.{ℕ, Err, Ok, Result}
use Rattle.leaves.specs.Numbers.{done, more, record_begun, body_part, file_end}
use Rattle.leaves.specs.Refusals.{number}
use Rattle.walker.specs.declared.Step.{Step}
use Rattle.walker.specs.declared.Step.TheVariants.{More, Record, Body, End}

-- "A call answers more, a record begun, a body part of the piece, end, or a number"
abbrev pub told : Result Step Refusal → ℕ
told (Ok More) = more
told (Ok (Record start body size kind)) = record_begun
told (Ok Body) = body_part
told (Ok End) = file_end
told (Err e) = number e

-- a walker's start
abbrev pub start_answer : Result Step Refusal → ℕ
start_answer (Ok More) = done
start_answer (Ok (Record start body size kind)) = done
start_answer (Ok Body) = done
start_answer (Ok End) = done
start_answer (Err e) = number e
