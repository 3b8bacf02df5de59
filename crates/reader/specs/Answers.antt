-- A reading's answer as a number. Assumes nothing.
use Rattle.leaves.specs.declared.refusals.Refusal.{Refusal}
use Rattle.std.specs.Prelude.{ℕ, Err, Ok, Result}
use Rattle.leaves.specs.Numbers.{more, blank_line, input_end}
use Rattle.leaves.specs.Refusals.{number}
use Rattle.line_reader.specs.declared.Answer.{Answer}
use Rattle.line_reader.specs.declared.Answer.TheVariants.{More, Blank, Input}

-- "Feeding answers more, ended, or a number"; "an ended reading says whether a blank line or the end of input closed it"
abbrev pub told : Result Answer Refusal → ℕ
told (Ok More) = more
told (Ok Blank) = blank_line
told (Ok Input) = input_end
told (Err e) = number e
