-- What a call answers as a number, by the form of its answer. Assumes nothing.
use Rattle.std.specs.Prelude.{ℕ, Bool, true, false, Option, Some, None, Result, Ok, Err}
use Rattle.leaves.specs.Numbers.{done, found, missing, yes, other}
use Rattle.leaves.specs.Refusals.{number}
use Rattle.leaves.specs.declared.refusals.Refusal.{Refusal}

-- done, whatever it comes with, or refused by a number
abbrev pub done_or : {T : Type 0} → Result T Refusal → ℕ
done_or (Ok x) = done
done_or (Err e) = number e

-- yes or no, or refused by a number
abbrev pub yes_or : Result Bool Refusal → ℕ
yes_or (Ok true) = yes
yes_or (Ok false) = other
yes_or (Err e) = number e

-- found or missing, or refused by a number
abbrev pub found_or : {T : Type 0} → Result (Option T) Refusal → ℕ
found_or (Ok (Some x)) = found
found_or (Ok None) = missing
found_or (Err e) = number e
