-- What a line makes of a head and the two loans, and of a table that it does not see. Assumes nothing.
use Rattle.maps.specs.declared.Place.{Place}
use Rattle.leaves.specs.declared.refusals.Refusal.{Refusal}
use Rattle.std.specs.Prelude.{Bool, true, false, List, ℕ, ◌+◌, ◌-◌, ◌≤◌, ◌<◌, ltb, length, take, drop, set, Err, Ok, Option, Result, Some}
use Rattle.leaves.specs.Choice.{when◌then◌else◌}
use Rattle.leaves.specs.Paste.{pasted}
use Rattle.leaves.specs.Refusals.{refusal}
use Rattle.lines.specs.Line.{taken, taking, cr_before}
use Rattle.lines.specs.declared.Took.{Took}
use Rattle.lines.specs.declared.Took.TheVariants.{Line, More as Piece, Full as Limit}
use Rattle.maps.specs.Good.{Fit}
use Rattle.maps.specs.Maps.{Given}
use Rattle.maps.specs.Places.{no_field}
use Rattle.maps.specs.declared.Field.{Field}
use Rattle.maps.specs.declared.Head.{Head}
use Rattle.folds.specs.Rule.{Ruling, ends_block, rule4}
use Rattle.folds.specs.declared.Change.{Change}
use Rattle.folds.specs.declared.Change.TheVariants.{Nothing, Status as Headed, Put}
use Rattle.line_reader.specs.declared.Answer.{Answer}
use Rattle.line_reader.specs.declared.Answer.TheVariants.{More, Blank, Input}
use Rattle.line_reader.specs.declared.Handled.{Handled}

-- what handling a line asks: the counts keep within the rooms, the rooms within the loans, and the last field, if there is one, within the counts
pub record Able (h : Head) (last : Field) (b s : List ℕ) : Type 0 where
  pub small : h.limit ≤ 65536
  pub most : h.room ≤ 65536
  pub count : h.count ≤ h.limit
  pub mark : h.mark ≤ h.room
  pub line : h.line ≤ h.count
  pub few : h.fields ≤ 256
  pub block : h.limit ≤ length b
  pub store : h.room ≤ length s
  pub fits : 0 < h.fields → Fit h.count h.mark last

-- the table after a change
abbrev pub put_in : List Field → Result Change Refusal → List Field
put_in t (Ok Nothing) = t
put_in t (Ok (Headed p)) = t
put_in t (Ok (Put slot x mark)) = set t slot x
put_in t (Err e) = t

-- the slot that a change puts a field into, 0 if it puts none
abbrev pub slot_of : Result Change Refusal → ℕ
slot_of (Ok Nothing) = 0
slot_of (Ok (Headed p)) = 0
slot_of (Ok (Put slot x mark)) = slot
slot_of (Err e) = 0

-- the field that a change puts, an empty one if it puts none
abbrev pub field_of : Result Change Refusal → Field
field_of (Ok Nothing) = no_field
field_of (Ok (Headed p)) = no_field
field_of (Ok (Put slot x mark)) = x
field_of (Err e) = no_field

-- what a change puts has a slot in the table, and places of the largest rooms
pub record Puts (c : Result Change Refusal) : Type 0 where
  pub slot : slot_of c < 256
  pub field : Fit 65536 65536 (field_of c)

-- a head with other counts, status and flag
abbrev pub head_with : Head → ℕ → ℕ → ℕ → ℕ → Option Place → Bool → Head
head_with h count line mark fields status awaits =
    record {
      limit = h.limit;
      room = h.room;
      count = count;
      line = line;
      mark = mark;
      fields = fields;
      status = status;
      awaits = awaits;
      quirks = h.quirks;
      edited = h.edited;
      phase = h.phase;
    }

-- k octets more are taken
abbrev pub counted : Head → ℕ → Head
counted h k = head_with h (h.count + k) h.line h.mark h.fields h.status h.awaits

-- the next line begins at the count
abbrev pub next_line : Head → Head
next_line h = head_with h h.count h.count h.mark h.fields h.status h.awaits

-- the head after a line's change; a refusal leaves the line unhandled
abbrev pub head_by : Head → Result Change Refusal → Head
head_by h (Ok Nothing) = next_line h
head_by h (Ok (Headed p)) = head_with h h.count h.count h.mark h.fields (Some p) false
head_by h (Ok (Put slot x mark)) = head_with h h.count h.count mark (slot + 1) h.status h.awaits
head_by h (Err e) = h

abbrev pub answer_by : Result Answer Refusal → Result Change Refusal → Result Answer Refusal
answer_by a (Ok Nothing) = a
answer_by a (Ok (Headed p)) = a
answer_by a (Ok (Put slot x mark)) = a
answer_by a (Err e) = Err e

abbrev pub going_by : Bool → Result Change Refusal → Bool
going_by going (Ok Nothing) = going
going_by going (Ok (Headed p)) = going
going_by going (Ok (Put slot x mark)) = going
going_by going (Err e) = false

abbrev pub handled_of : Head → Result Change Refusal → ℕ → Result Answer Refusal → Bool → Handled
handled_of h c taken a going = record { head = h; change = c; taken = taken; answer = a; going = going }

-- a line's change, with the answer and the way on if nothing was refused
abbrev pub handled_by : Head → Result Change Refusal → ℕ → Result Answer Refusal → Bool → Handled
handled_by h c taken a going = handled_of (head_by h c) c taken (answer_by a c) (going_by going c)

-- the reading stops
abbrev pub stops_at : Head → ℕ → Result Answer Refusal → Handled
stops_at h taken a = handled_of h (Ok Nothing) taken a false

-- what rule 4 says of the line that ends at a head's count
abbrev pub ruling_at : Head → Field → List ℕ → List ℕ → Ruling
ruling_at h last b s = rule4 h.room (take h.count b) h.line h.awaits h.fields last h.mark (take h.mark s)

abbrev pub handling : Head → Field → List ℕ → List ℕ → ℕ → Result Answer Refusal → Bool → Given Handled
handling h last b s taken a going =
    record { result = handled_by h (ruling_at h last b s).change taken a going; block = b; store = pasted s h.mark (ruling_at h last b s).new }

-- a line that has ended ends the block, or is handled by rule 4
unfoldable pub line_ended : Head → Field → List ℕ → List ℕ → ℕ → Given Handled
line_ended h last b s taken =
    when ends_block h.quirks (drop h.line (take h.count b))
    then record { result = stops_at (next_line h) taken (Ok Blank); block = b; store = s }
    else handling h last b s taken (Ok More) true

-- what was taken, which is in the block
abbrev pub handled_took : Head → Field → List ℕ → List ℕ → ℕ → Took → Given Handled
handled_took h last b s at (Piece k) = record { result = stops_at (counted h k) (at + k) (Ok More); block = b; store = s }
handled_took h last b s at (Limit k) = record { result = stops_at (counted h k) (at + k) (Err (refusal 4)); block = b; store = s }
handled_took h last b s at (Line k) = line_ended (counted h k) last b s (at + k)

-- octets of a piece from a place on, until a line ends, the piece does, or the count is the limit
abbrev pub took_at : Head → List ℕ → List ℕ → ℕ → Took
took_at h b p at = taking h.quirks (cr_before b h.line h.count) (h.limit - h.count) (drop at p)

-- one line of a piece, rules 1 to 4
unfoldable pub next_handled : Head → Field → List ℕ → List ℕ → List ℕ → ℕ → Given Handled
next_handled h last b s p at = handled_took h last (pasted b h.count (take (taken (took_at h b p at)) (drop at p))) s at (took_at h b p at)

-- the leftover line, rule 5
unfoldable pub last_handled : Head → Field → List ℕ → List ℕ → Given Handled
last_handled h last b s =
    when ltb h.line h.count then handling h last b s 0 (Ok Input) false
    else record { result = stops_at h 0 (Ok Input); block = b; store = s }
