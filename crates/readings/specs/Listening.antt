-- What a reading says, in octets: rules 2 to 5 over texts alone, with no place, limit or room. Assumes nothing.
use Rattle.leaves.specs.declared.refusals.Refusal.{Refusal}
use Rattle.std.specs.Prelude.{Bool, true, false, ℕ, suc, length, drop, Err, None, Ok, Result}
use mathlib.Core.List.{List, [], ◌∷◌, ◌++◌, foldl, map}
use Rattle.leaves.specs.Choice.{when◌then◌else◌}
use Rattle.lines.specs.Line.{ends_line, cr_before}
use Rattle.maps.specs.Said.{Said, pair_at, status_at}
use Rattle.folds.specs.Rule.{ends_block}
use Rattle.readings.specs.Heard.{Hearing, heard}
use Rattle.line_reader.specs.Reading.{Reading}
use Rattle.line_reader.specs.declared.Answer.{Answer}
use Rattle.line_reader.specs.declared.Answer.TheVariants.{More, Blank, Input}

-- octets that are being read: how many were taken, those of the line that has not ended, what the lines before it said, and whether the
-- block has ended
pub record Listening : Type 0 where
  pub count : ℕ
  pub line : List ℕ
  pub hearing : Hearing
  pub ended : Bool

-- a status line is expected or not, and nothing was taken
abbrev pub silent : Bool → Listening
silent status = record { count = 0; line = []; hearing = record { awaits = status; said = record { status = None; pairs = [] } }; ended = false }

-- "The block ends at a line that is just CR LF (quirks: any line of blanks only)." "Any other line": rule 4
unfoldable pub line_heard : Bool → ℕ → List ℕ → Hearing → Listening
line_heard quirks count l h =
    when ends_block quirks l then record { count = count; line = []; hearing = h; ended = true }
    else record { count = count; line = []; hearing = heard l h; ended = false }

-- an octet more; "A line ends with CR LF, or in quirks mode with LF." "Nothing after it is taken."
unfoldable pub listened : Bool → Listening → ℕ → Listening
listened quirks l o =
    when l.ended then l
    else when ends_line quirks (cr_before l.line 0 (length l.line)) o then line_heard quirks (suc l.count) (l.line ++ o ∷ []) l.hearing
    else record { count = suc l.count; line = l.line ++ o ∷ []; hearing = l.hearing; ended = false }

unfoldable pub listening : Bool → Listening → List ℕ → Listening
listening quirks l os = foldl (listened quirks) l os

-- "Finish handles a leftover line by rule 4, even one of blanks."
abbrev pub last_heard : List ℕ → Hearing → Hearing
last_heard [] h = h
last_heard (x ∷ xs) h = heard (x ∷ xs) h

-- what a reading says
unfoldable pub said : Reading → Said
said r =
    record {
      status = status_at r.block r.found.store r.found.status;
      pairs = map (pair_at r.block r.found.store) r.found.fields;
    }

abbrev pub hearing_of : Reading → Hearing
hearing_of r = record { awaits = r.found.awaits; said = said r }

-- the reading ended at its blank line
abbrev pub at_blank : Result Answer Refusal → Bool
at_blank (Ok More) = false
at_blank (Ok Blank) = true
at_blank (Ok Input) = false
at_blank (Err e) = false

-- the reading was refused
abbrev pub refused : Result Answer Refusal → Bool
refused (Ok More) = false
refused (Ok Blank) = false
refused (Ok Input) = false
refused (Err e) = true

-- the answer of a feed that is not refused, by whether the block has ended
abbrev pub answered : Bool → Result Answer Refusal
answered false = Ok More
answered true = Ok Blank

-- the same reading in octets
abbrev pub listening_of : Reading → Listening
listening_of r = record { count = length r.block; line = drop r.line r.block; hearing = hearing_of r; ended = at_blank r.answer }
