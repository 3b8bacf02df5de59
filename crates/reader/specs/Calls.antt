-- The calls on a map and two loans: what each gives, for every input. Assumes nothing.
use Rattle.std.specs.Prelude.{Bool, true, false, ◌&&◌, List, ℕ, ◌-◌, leb, length, Err, Ok, Result, ⊤}
use Rattle.leaves.specs.Paste.{lay}
use Rattle.leaves.specs.declared.refusals.Refusal.{Refusal}
use Rattle.leaves.specs.Refusals.{refusal}
use Rattle.maps.specs.Good.{good_rooms, checked, checked_reading, unless}
use Rattle.maps.specs.Maps.{empty, Given}
use Rattle.maps.specs.declared.Phase.{Phase}
use Rattle.maps.specs.declared.Phase.TheVariants.{Reading as Open, Done}
use Rattle.maps.specs.declared.HeaderMap.{HeaderMap}
use Rattle.line_reader.specs.Reading.{Reading, fed, finished}
use Rattle.line_reader.specs.Standing.{rules_of, reading_of}
use Rattle.line_reader.specs.declared.Answer.{Answer}
use Rattle.line_reader.specs.declared.Answer.TheVariants.{More, Blank, Input}
use Rattle.reader.specs.declared.Fed.{Fed}
use Rattle.reader.specs.declared.Made.{Made}

-- the map that stands for a reading which m went on to
abbrev pub map_at : Phase → Bool → Bool → HeaderMap → Reading → HeaderMap
map_at phase awaits quirks m r =
    record {
      table = lay m.table r.found.fields;
      limit = m.limit;
      room = m.room;
      count = length r.block;
      line = r.line;
      mark = length r.found.store;
      fields = length r.found.fields;
      status = r.found.status;
      awaits = awaits;
      quirks = quirks;
      edited = m.edited;
      phase = phase;
    }

-- a reading that wants more stays as it is, one that ended is Done with its flags off, one that was refused leaves an empty map
abbrev pub map_of : HeaderMap → Reading → Result Answer Refusal → HeaderMap
map_of m r (Ok More) = map_at m.phase r.found.awaits m.quirks m r
map_of m r (Ok Blank) = map_at Done false false m r
map_of m r (Ok Input) = map_at Done false false m r
map_of m r (Err e) = empty (lay m.table r.found.fields) m.limit m.room false false Done

-- a refusal that leaves all
abbrev pub leaves_fed : HeaderMap → List ℕ → List ℕ → Refusal → Given Fed
leaves_fed m b s e = record { result = record { map = m; taken = 0; answer = Err e }; block = b; store = s }

-- what a reading that went on to r gives: "the block holds the octets taken, the store what their folds wrote, the rest is untouched"
abbrev pub gives : HeaderMap → List ℕ → List ℕ → Reading → Given Fed
gives m b s r =
    record {
      result = record { map = map_of m r r.answer; taken = length r.block - m.count; answer = r.answer };
      block = lay b r.block;
      store = lay s r.found.store;
    }

unfoldable pub fed_from : HeaderMap → List ℕ → List ℕ → List ℕ → Given Fed
fed_from m b s p = gives m b s (fed (rules_of m) (reading_of m b s) p)

unfoldable pub finished_from : HeaderMap → List ℕ → List ℕ → Given Fed
finished_from m b s = gives m b s (finished (rules_of m) (reading_of m b s))

-- feed: 3, 2, 7, then rules 1 to 4 over the piece
unfoldable pub feeding : HeaderMap → List ℕ → List ℕ → List ℕ → Given Fed
feeding m b s p = unless (checked_reading m b s) (leaves_fed m b s) (fed_from m b s p)

-- finish: 3, 2, 7, then rule 5
unfoldable pub finishing : HeaderMap → List ℕ → List ℕ → Given Fed
finishing m b s = unless (checked_reading m b s) (leaves_fed m b s) (finished_from m b s)

-- a map that a call made or left, with loans that it cannot change
abbrev pub makes : List ℕ → List ℕ → HeaderMap → Result ⊤ Refusal → Given Made
makes b s m a = record { result = record { map = m; answer = a }; block = b; store = s }

-- clear: 3, 2; "Begin gives one that is Reading, clear one that is Done."
unfoldable pub clearing : HeaderMap → List ℕ → List ℕ → Given Made
clearing m b s =
    unless (checked true m (length b) (length s)) (λ e. makes b s m (Err e))
    (makes b s (empty m.table m.limit m.room false false Done) (Ok tt))

-- "Begin and a walker's start check 1, 2."
abbrev pub first_rooms : Bool → Bool → Result ⊤ Refusal
first_rooms false long = Err (refusal 1)
first_rooms true false = Err (refusal 2)
first_rooms true true = Ok tt

unfoldable pub checked_rooms : ℕ → ℕ → ℕ → ℕ → Result ⊤ Refusal
checked_rooms limit room b s = first_rooms (good_rooms limit room) (leb limit b && leb room s)

unfoldable pub beginning : HeaderMap → ℕ → ℕ → Bool → Bool → List ℕ → List ℕ → Given Made
beginning m limit room awaits quirks b s =
    unless (checked_rooms limit room (length b) (length s)) (λ e. makes b s m (Err e))
    (makes b s (empty m.table limit room awaits quirks Open) (Ok tt))
