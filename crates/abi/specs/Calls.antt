-- What each exported call gives, for every input: numbers that are no map's are number 3 and stay. Assumes nothing.
use Rattle.leaves.specs.declared.refusals.Refusal.{Refusal}
use Rattle.std.specs.Prelude.{◌≡◌, Bool, ◌&&◌, List, [], ◌∷◌, ℕ, ◌+◌, ◌<◌, eqb, length, set, get_or, Err, None, Ok, Option, Result, Some, ⊤}
use Rattle.leaves.specs.Choice.{when◌then◌else◌}
use Rattle.leaves.specs.Refusals.{number, refusal}
use Rattle.leaves.specs.Numbers.{done, missing, yes, other, in_the_block, in_the_store}
use Rattle.maps.specs.Good.{checked_done, unless}
use Rattle.maps.specs.Maps.{Given}
use Rattle.maps.specs.Places.{at, in_block, in_store, no_field}
use Rattle.maps.specs.declared.HeaderMap.{HeaderMap}
use Rattle.maps.specs.declared.Place.{Place}
use Rattle.maps.specs.declared.Place.TheVariants.{Block, Store}
use Rattle.reader.specs.Calls.{beginning, feeding, finishing, clearing}
use Rattle.reader.specs.declared.Fed.{Fed}
use Rattle.reader.specs.declared.Made.{Made}
use Rattle.edits.specs.Edits.{setting, appending, removing, statusing}
use Rattle.edits.specs.declared.Edited.{Edited}
use Rattle.lookups.specs.Lookups.{finding, value_place, key_place, status_place}
use Rattle.writes.specs.Written.{writing, rebuilding, Writing}
use Rattle.codes.specs.Codes.{coding, length_of as lengthIn, kind_of as kindIn}
use Rattle.codes.specs.Line.{reason_start}
use Rattle.tidy.specs.Calls.{cleaning, tidying}
use Rattle.grammar.specs.Walk.{grammatical}
use Rattle.equals.specs.Equal.{comparing}
use Rattle.resume.specs.Resume.{resuming}
use Rattle.walker.specs.Walk.{starting, walking, ending}
use Rattle.walker.specs.declared.Step.{Step}
use Rattle.walker.specs.declared.Step.TheVariants.{More, Record, Body, End}
use Rattle.walker.specs.declared.Walked.{Walked}
use Rattle.walker.specs.declared.Walker.{Walker}
use Rattle.maps.specs.Heads.{head_of as headIn, unmade_head}
use Rattle.lent.specs.Table.{map_in, numbers_of}
use Rattle.lent.specs.Numbers.{head_numbers, sound_map, long_map, map_of}
use Rattle.trails.specs.Trail.{staged, stage_of, sound_trail}
use Rattle.maps.specs.Answers.{told as checkedOf}
use Rattle.reader.specs.Answers.{told as answer_of}
use Rattle.edits.specs.Answers.{told as editOf}
use Rattle.writes.specs.Answers.{told as wroteOf}
use Rattle.equals.specs.Answers.{told as equal_of}
use Rattle.tidy.specs.Answers.{told as test_of}
use Rattle.codes.specs.Answers.{code_answer as code_of, length_answer as length_of, kind_answer as kind_of}
use Rattle.walker.specs.Answers.{told as step_of, start_answer}
use Rattle.resume.specs.Answers.{told as verdictOf}

-- what a call that may change a map gives: its answer, the numbers that it hands out, and all that was lent at its end
pub record Out : Type 0 where
  pub answer : ℕ
  pub numbers : List ℕ
  pub head : List ℕ
  pub table : List ℕ
  pub block : List ℕ
  pub store : List ℕ

pub record Gave (o : Out) (r : ℕ) (z n t b s : List ℕ) : Type 0 where
  pub answer : r ≡ o.answer
  pub numbers : z ≡ o.numbers
  pub head : n ≡ o.head
  pub table : t ≡ o.table
  pub block : b ≡ o.block
  pub store : s ≡ o.store

-- numbers that are no map's
abbrev pub damaged : List ℕ → List ℕ → List ℕ → List ℕ → List ℕ → Out
damaged numbers n t b s = record { answer = 3; numbers = numbers; head = n; table = t; block = b; store = s }

-- by what a call of the layer below gives: the numbers at its end are those of its map, and of no other
abbrev pub out_of : {A : Type 0} → (A → ℕ) → (A → List ℕ) → (A → HeaderMap) → Given A → Out
out_of answer numbers map g =
    record {
      answer = answer g.result;
      numbers = numbers g.result;
      head = head_numbers (headIn (map g.result));
      table = numbers_of (map g.result).table;
      block = g.block;
      store = g.store;
    }

abbrev pub fed_answer : Fed → ℕ
fed_answer r = answer_of r.answer

abbrev pub fed_taken : Fed → List ℕ
fed_taken r = r.taken ∷ []

abbrev pub fed_map : Fed → HeaderMap
fed_map r = r.map

abbrev pub no_numbers : {A : Type 0} → A → List ℕ
no_numbers r = []

abbrev pub made_answer : Made → ℕ
made_answer r = checkedOf r.answer

abbrev pub made_map : Made → HeaderMap
made_map r = r.map

abbrev pub edit_answer : Edited → ℕ
edit_answer r = editOf r.answer

abbrev pub edit_map : Edited → HeaderMap
edit_map r = r.map

-- begin takes whatever numbers there are, if they are as many as a map's; refused, they stay
abbrev pub begun : Result ⊤ Refusal → List ℕ → HeaderMap → List ℕ
begun (Ok _) old new = head_numbers (headIn new)
begun (Err e) old new = old

abbrev pub begun_out : List ℕ → List ℕ → Given Made → Out
begun_out n t g =
    record {
      answer = made_answer g.result;
      numbers = [];
      head = begun g.result.answer n g.result.map;
      table = t;
      block = g.block;
      store = g.store;
    }

unfoldable pub begin_gives : List ℕ → List ℕ → ℕ → ℕ → Bool → Bool → List ℕ → List ℕ → Out
begin_gives n t limit room awaits quirks b s =
    when long_map n t then begun_out n t (beginning (map_in t unmade_head) limit room awaits quirks b s) else damaged [] n t b s

-- how many octets were taken is told at every call: none of numbers that are no map's
unfoldable pub feed_gives : List ℕ → List ℕ → List ℕ → List ℕ → List ℕ → Out
feed_gives n t b s p = when sound_map n t then out_of fed_answer fed_taken fed_map (feeding (map_of n t) b s p) else damaged (0 ∷ []) n t b s

unfoldable pub finish_gives : List ℕ → List ℕ → List ℕ → List ℕ → Out
finish_gives n t b s = when sound_map n t then out_of fed_answer no_numbers fed_map (finishing (map_of n t) b s) else damaged [] n t b s

unfoldable pub clear_gives : List ℕ → List ℕ → List ℕ → List ℕ → Out
clear_gives n t b s = when sound_map n t then out_of made_answer no_numbers made_map (clearing (map_of n t) b s) else damaged [] n t b s

unfoldable pub set_gives : List ℕ → List ℕ → List ℕ → List ℕ → List ℕ → List ℕ → Out
set_gives n t b s k v = when sound_map n t then out_of edit_answer no_numbers edit_map (setting (map_of n t) b s k v) else damaged [] n t b s

unfoldable pub append_gives : List ℕ → List ℕ → List ℕ → List ℕ → List ℕ → List ℕ → Out
append_gives n t b s k v = when sound_map n t then out_of edit_answer no_numbers edit_map (appending (map_of n t) b s k v) else damaged [] n t b s

unfoldable pub remove_gives : List ℕ → List ℕ → List ℕ → List ℕ → List ℕ → Out
remove_gives n t b s k = when sound_map n t then out_of edit_answer no_numbers edit_map (removing (map_of n t) b s k) else damaged [] n t b s

unfoldable pub status_gives : List ℕ → List ℕ → List ℕ → List ℕ → List ℕ → Out
status_gives n t b s x = when sound_map n t then out_of edit_answer no_numbers edit_map (statusing (map_of n t) b s x) else damaged [] n t b s

-- a walker: beside its map's numbers a trail is lent
pub record Went : Type 0 where
  pub out : Out
  pub trail : List ℕ

pub record Goes (o : Went) (r : ℕ) (z w n t b s : List ℕ) : Type 0 where
  pub out : Gave o.out r z n t b s
  pub trail : w ≡ o.trail

abbrev pub trail_in : Walker → List ℕ
trail_in w = w.position ∷ w.rest ∷ w.start ∷ staged w.stage ∷ []

-- the walker that a trail and a map's numbers are
abbrev pub walker_of : List ℕ → List ℕ → List ℕ → Walker
walker_of w n t = record { map = map_of n t; position = get_or w 0 0; rest = get_or w 1 0; stage = stage_of (get_or w 3 0); start = get_or w 2 0 }

abbrev pub walked_answer : Walked → ℕ
walked_answer r = step_of r.step

abbrev pub walked_map : Walked → HeaderMap
walked_map r = r.walker.map

-- a record begun: its start, its body's offset, its length and its type are written over the four numbers lent
abbrev pub record_numbers : Result Step Refusal → List ℕ → List ℕ
record_numbers (Ok More) r = r
record_numbers (Ok (Record a b c d)) r = set (set (set (set r 0 a) 1 b) 2 c) 3 d
record_numbers (Ok Body) r = r
record_numbers (Ok End) r = r
record_numbers (Err e) r = r

abbrev pub walked_numbers : List ℕ → Walked → List ℕ
walked_numbers r w = w.taken ∷ record_numbers w.step r

abbrev pub went_of : (Walked → List ℕ) → Given Walked → Went
went_of numbers g = record { out = out_of walked_answer numbers walked_map g; trail = trail_in g.result.walker }

abbrev pub lost : List ℕ → List ℕ → List ℕ → List ℕ → List ℕ → List ℕ → Went
lost numbers w n t b s = record { out = damaged numbers n t b s; trail = w }

-- start takes whatever numbers there are, if they are as many as a walker's; refused, they stay
abbrev pub started : Result Step Refusal → List ℕ → List ℕ → List ℕ
started (Ok More) old new = new
started (Ok (Record a b c d)) old new = new
started (Ok Body) old new = new
started (Ok End) old new = new
started (Err e) old new = old

abbrev pub started_out : List ℕ → List ℕ → List ℕ → Given Walked → Went
started_out w n t g =
    record {
      out =
          record {
            answer = start_answer g.result.step;
            numbers = [];
            head = started g.result.step n (head_numbers (headIn g.result.walker.map));
            table = t;
            block = g.block;
            store = g.store;
          };
      trail = started g.result.step w (trail_in g.result.walker);
    }

unfoldable pub walker_gives : List ℕ → List ℕ → List ℕ → ℕ → ℕ → List ℕ → List ℕ → Went
walker_gives w n t room position b s =
    when eqb (length w) 4 && long_map n t then started_out w n t (starting (map_in t unmade_head) room position b s) else lost [] w n t b s

unfoldable pub walk_gives : List ℕ → List ℕ → List ℕ → List ℕ → List ℕ → List ℕ → List ℕ → Went
walk_gives w n t r b s p =
    when sound_trail w && sound_map n t then went_of (walked_numbers r) (walking (walker_of w n t) b s p) else lost (0 ∷ r) w n t b s

unfoldable pub end_gives : List ℕ → List ℕ → List ℕ → List ℕ → List ℕ → Went
end_gives w n t b s = when sound_trail w && sound_map n t then went_of no_numbers (ending (walker_of w n t) b s) else lost [] w n t b s

-- the first checks of a call that only looks: 3 for numbers that are no map's too
unfoldable pub open_for : List ℕ → List ℕ → List ℕ → List ℕ → Result ⊤ Refusal
open_for n t b s = when sound_map n t then checked_done (map_of n t) b s else Err (refusal 3)

-- what a call that only looks gives: its answer, and the number that it hands out, which was k before
pub record Told : Type 0 where
  pub answer : ℕ
  pub number : ℕ

pub record Tells (o : Told) (r k : ℕ) : Type 0 where
  pub answer : r ≡ o.answer
  pub number : k ≡ o.number

abbrev pub tells_damaged : ℕ → Told
tells_damaged k = record { answer = 3; number = k }

abbrev pub code_number : Result (Option ℕ) Refusal → ℕ → ℕ
code_number (Ok (Some c)) k = c
code_number (Ok None) k = k
code_number (Err e) k = k

abbrev pub length_number : Result (Option ℕ) Refusal → ℕ → ℕ
length_number (Ok (Some l)) k = l
length_number (Ok None) k = k
length_number (Err e) k = k

abbrev pub kind_number : Result ℕ Refusal → ℕ → ℕ
kind_number (Ok c) k = c
kind_number (Err e) k = k

abbrev pub count_number : Result ℕ Refusal → ℕ → ℕ
count_number (Ok c) k = c
count_number (Err e) k = k

-- how many fields there are: the table's first numbers are then the places of all of them
unfoldable pub fields_tell : List ℕ → List ℕ → ℕ → List ℕ → List ℕ → Told
fields_tell n t k b s = unless (open_for n t b s) (λ x. record { answer = number x; number = k }) (record { answer = done; number = (map_of n t).fields })

abbrev pub code_tells : List ℕ → List ℕ → ℕ → List ℕ → List ℕ → Told
code_tells n t k b s =
    when sound_map n t then record { answer = code_of (coding (map_of n t) b s); number = code_number (coding (map_of n t) b s) k } else tells_damaged k

abbrev pub length_tells : List ℕ → List ℕ → ℕ → List ℕ → List ℕ → Told
length_tells n t k b s =
    when sound_map n t then record { answer = length_of (lengthIn (map_of n t) b s); number = length_number (lengthIn (map_of n t) b s) k } else tells_damaged k

abbrev pub kind_tells : List ℕ → List ℕ → ℕ → List ℕ → List ℕ → Told
kind_tells n t k b s =
    when sound_map n t then record { answer = kind_of (kindIn (map_of n t) b s); number = kind_number (kindIn (map_of n t) b s) k } else tells_damaged k

abbrev pub clean_tells : List ℕ → List ℕ → List ℕ → List ℕ → ℕ
clean_tells n t b s = when sound_map n t then test_of (cleaning (map_of n t) b s) else 3

abbrev pub tidy_tells : List ℕ → Bool → Bool → ℕ → ℕ
tidy_tells o awaits quirks limit = test_of (tidying o awaits quirks limit)

abbrev pub grammar_tells : List ℕ → ℕ
grammar_tells o = when grammatical o then yes else other

-- "With two maps the first is checked whole before the second."
unfoldable pub two_tell : List ℕ → List ℕ → List ℕ → List ℕ → List ℕ → List ℕ → ℕ → ℕ
two_tell n t b s m u both = unless (open_for n t b s) number (when sound_map m u then both else 3)

abbrev pub equal_tells : List ℕ → List ℕ → List ℕ → List ℕ → List ℕ → List ℕ → List ℕ → List ℕ → ℕ
equal_tells n t b s m u c z = two_tell n t b s m u (equal_of (comparing (map_of n t) b s (map_of m u) c z))

abbrev pub resume_tells : List ℕ → List ℕ → List ℕ → List ℕ → List ℕ → List ℕ → List ℕ → List ℕ → ℕ
resume_tells n t b s m u c z = two_tell n t b s m u (verdictOf (resuming (map_of n t) b s (map_of m u) c z))

-- what a call that hands out a place gives: its answer, which says the kind or that there is none, and the place's ends, which were f and e
pub record Lying : Type 0 where
  pub answer : ℕ
  pub from : ℕ
  pub to : ℕ

pub record Lies (o : Lying) (r f e : ℕ) : Type 0 where
  pub answer : r ≡ o.answer
  pub from : f ≡ o.from
  pub to : e ≡ o.to

abbrev pub place_lies : Place → Lying
place_lies (Block a e) = record { answer = in_the_block; from = a.0; to = e.0 }
place_lies (Store a e) = record { answer = in_the_store; from = a.0; to = e.0 }

abbrev pub none_lies : ℕ → ℕ → ℕ → Lying
none_lies r f e = record { answer = r; from = f; to = e }

abbrev pub handed_lies : ℕ → ℕ → Option Place → Lying
handed_lies f e None = none_lies missing f e
handed_lies f e (Some p) = place_lies p

-- a refusal is told, where the lookups hand out an empty part
unfoldable pub look_lies : List ℕ → List ℕ → ℕ → ℕ → List ℕ → List ℕ → Option Place → Lying
look_lies n t f e b s p = unless (open_for n t b s) (λ x. none_lies (number x) f e) (handed_lies f e p)

abbrev pub value_lies : List ℕ → List ℕ → ℕ → ℕ → List ℕ → List ℕ → ℕ → Lying
value_lies n t f e b s i = look_lies n t f e b s (value_place (map_of n t) b s i)

abbrev pub key_lies : List ℕ → List ℕ → ℕ → ℕ → List ℕ → List ℕ → ℕ → Lying
key_lies n t f e b s i = look_lies n t f e b s (key_place (map_of n t) b s i)

abbrev pub status_lies : List ℕ → List ℕ → ℕ → ℕ → List ℕ → List ℕ → Lying
status_lies n t f e b s = look_lies n t f e b s (status_place (map_of n t) b s)

-- the reason is the status from an octet on
abbrev pub shifted : ℕ → Place → Place
shifted k (Block a e) = in_block (a.0 + k) e.0
shifted k (Store a e) = in_store (a.0 + k) e.0

abbrev pub reason_from : Place → Option ℕ → Option Place
reason_from p None = None
reason_from p (Some k) = Some (shifted k p)

abbrev pub reason_of : List ℕ → List ℕ → Option Place → Option Place
reason_of b s None = None
reason_of b s (Some p) = reason_from p (reason_start (at b s p))

abbrev pub reason_lies : List ℕ → List ℕ → ℕ → ℕ → List ℕ → List ℕ → Lying
reason_lies n t f e b s = look_lies n t f e b s (reason_of b s (status_place (map_of n t) b s))

-- what a lookup by name gives: its answer says where the value lies, or that there is none; the field's number was k, the value's ends f and e
pub record Sight : Type 0 where
  pub number : ℕ
  pub place : Lying

pub record Sees (o : Sight) (r k f e : ℕ) : Type 0 where
  pub number : k ≡ o.number
  pub place : Lies o.place r f e

-- a field that a table has
abbrev pub Below : Option ℕ → Type 0
Below (Some i) = i < 256
Below None = Unit {0}

abbrev pub seen_at : HeaderMap → ℕ → ℕ → ℕ → Result (Option ℕ) Refusal → Sight
seen_at m k f e (Ok (Some i)) = record { number = i; place = place_lies (get_or m.table i no_field).value }
seen_at m k f e (Ok None) = record { number = k; place = none_lies missing f e }
seen_at m k f e (Err x) = record { number = k; place = none_lies (number x) f e }

unfoldable pub find_sees : List ℕ → List ℕ → ℕ → ℕ → ℕ → List ℕ → List ℕ → List ℕ → ℕ → Sight
find_sees n t k f e b s name from =
    when sound_map n t then seen_at (map_of n t) k f e (finding (map_of n t) b s name from) else record { number = k; place = none_lies 3 f e }

-- what a call that writes gives: its answer, the count, and the output
pub record Put : Type 0 where
  pub answer : ℕ
  pub number : ℕ
  pub out : List ℕ

pub record Puts (o : Put) (r k : ℕ) (d : List ℕ) : Type 0 where
  pub answer : r ≡ o.answer
  pub number : k ≡ o.number
  pub out : d ≡ o.out

abbrev pub put_of : ℕ → Writing → Put
put_of k g = record { answer = wroteOf g.result; number = count_number g.result k; out = g.out }

abbrev pub puts_damaged : ℕ → List ℕ → Put
puts_damaged k d = record { answer = 3; number = k; out = d }

abbrev pub write_puts : List ℕ → List ℕ → ℕ → List ℕ → List ℕ → List ℕ → Put
write_puts n t k b s d = when sound_map n t then put_of k (writing (map_of n t) b s d) else puts_damaged k d

abbrev pub rebuild_puts : List ℕ → List ℕ → ℕ → List ℕ → List ℕ → List ℕ → Put
rebuild_puts n t k b s d = when sound_map n t then put_of k (rebuilding (map_of n t) b s d) else puts_damaged k d
