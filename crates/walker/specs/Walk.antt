-- The record walker: what each call gives, for every input. Assumes nothing.
use Rattle.std.specs.Prelude.{Bool, true, false, List, [], ◌∷◌, ℕ, suc, ◌+◌, ◌-◌, min, eqb, ltb, length, take, drop, Err, Ok, Result, ⊤}
use Rattle.leaves.specs.Choice.{when◌then◌else◌}
use Rattle.leaves.specs.declared.refusals.Refusal.{Refusal}
use Rattle.leaves.specs.Refusals.{refusal}
use Rattle.maps.specs.Good.{default_limit, checked, unless, is_reading, is_done}
use Rattle.maps.specs.Maps.{empty, Given}
use Rattle.maps.specs.declared.HeaderMap.{HeaderMap}
use Rattle.maps.specs.declared.Phase.{Phase}
use Rattle.maps.specs.declared.Phase.TheVariants.{Reading, Done}
use Rattle.reader.specs.Calls.{checked_rooms, feeding}
use Rattle.reader.specs.declared.Fed.{Fed}
use Rattle.line_reader.specs.declared.Answer.{Answer}
use Rattle.line_reader.specs.declared.Answer.TheVariants.{More as FedMore, Blank, Input}
use Rattle.openings.specs.Opening.{longest, opening}
use Rattle.walker.specs.declared.Stage.{Stage}
use Rattle.walker.specs.declared.Stage.TheVariants.{Between, Header, Body, Cr, Lf, LastCr, LastLf, Ended, Stopped}
use Rattle.walker.specs.declared.Step.{Step}
use Rattle.walker.specs.declared.Step.TheVariants.{More, Record, Body as Part, End}
use Rattle.walker.specs.declared.Walker.{Walker}
use Rattle.walker.specs.declared.Walked.{Walked}

-- "an octet at position 2^62 or later"
abbrev pub furthest : ℕ
furthest = 4611686018427387904

-- "CR LF CR LF"
abbrev pub trailer : List ℕ
trailer = 13 ∷ 10 ∷ 13 ∷ 10 ∷ []

abbrev pub walked : HeaderMap → ℕ → ℕ → Stage → ℕ → ℕ → Result Step Refusal → Walked
walked map position rest stage start taken step =
    record {
      walker = record { map = map; position = position; rest = rest; stage = stage; start = start };
      taken = taken;
      step = step;
    }

-- a call that takes nothing and changes nothing
abbrev pub stands : Walker → Result Step Refusal → Walked
stands w step = record { walker = w; taken = 0; step = step }

-- a number that stops the walker where it stands, and leaves all else
abbrev pub stops_at : Walker → Refusal → Walked
stops_at w e = walked w.map w.position w.rest (Stopped e) w.start 0 (Err e)

-- a call that does not touch the loans
abbrev pub keeps : List ℕ → List ℕ → Walked → Given Walked
keeps b s r = record { result = r; block = b; store = s }

-- "what 4 does": "the map is empty and Done"
abbrev pub emptied : HeaderMap → HeaderMap
emptied m = empty m.table m.limit m.room false false Done

-- "Header (default limit, status expected, no quirks)": the map that a header is read into
abbrev pub fresh : HeaderMap → HeaderMap
fresh m = empty m.table m.limit m.room true false Reading

-- "Begin and a walker's start check 1, 2." "A fresh walker's map is empty and Done"
unfoldable pub starting : HeaderMap → ℕ → ℕ → List ℕ → List ℕ → Given Walked
starting m room position b s =
    unless (checked_rooms default_limit room (length b) (length s))
    (λ e. keeps b s (walked m position 0 (Stopped e) position 0 (Err e)))
    (keeps b s (walked (empty m.table default_limit room false false Done) position 0 Between position 0 (Ok More)))

-- "A stopped walker repeats its number, an ended one end, taking nothing"
abbrev pub resting : Stage → Result Bool Refusal
resting (Stopped e) = Err e
resting Ended = Ok false
resting Between = Ok true
resting Header = Ok true
resting Body = Ok true
resting Cr = Ok true
resting Lf = Ok true
resting LastCr = Ok true
resting LastLf = Ok true

-- "its map Reading just inside a header"
abbrev pub ready_at : Stage → Phase → Bool
ready_at Header phase = is_reading phase
ready_at Between phase = is_done phase
ready_at Body phase = is_done phase
ready_at Cr phase = is_done phase
ready_at Lf phase = is_done phase
ready_at LastCr phase = is_done phase
ready_at LastLf phase = is_done phase
ready_at Ended phase = is_done phase
ready_at (Stopped e) phase = is_done phase

-- "else a walker call first checks 3, 2, 7"; 3 is given for "a walker's body rest over 10's cap" too
unfoldable pub checked_walker : Walker → ℕ → ℕ → Result ⊤ Refusal
checked_walker w b s = when ltb longest w.rest then Err (refusal 3) else checked (ready_at w.stage w.map.phase) w.map b s

-- by the two sentences above
abbrev pub unless_resting {ℓ} : {A : Type ℓ} → Result Bool Refusal → (Result Step Refusal → A) → A → A
unless_resting (Err e) rest go = rest (Err e)
unless_resting (Ok false) rest go = rest (Ok End)
unless_resting (Ok true) rest go = go

-- how many octets of a piece of n may be taken at a position
unfoldable pub allowed : ℕ → ℕ → ℕ
allowed position n = min n (furthest - position)

-- "a body part of the piece"; "13 comes before anything else at an octet"
unfoldable pub body_walked : Walker → ℕ → Walked
body_walked w k =
    when eqb k 0 then stops_at w (refusal 13)
    else walked w.map (w.position + min k w.rest) (w.rest - min k w.rest) Body w.start (min k w.rest) (Ok Part)

-- how many octets two texts have in common from their beginning
unfoldable pub common : List ℕ → List ℕ → ℕ
common [] q = 0
common (x ∷ xs) [] = 0
common (x ∷ xs) (y ∷ ys) = when eqb x y then suc (common xs ys) else 0

-- the stage whose octet is next, after k octets of the trailer
abbrev pub trailer_stage : ℕ → Stage
trailer_stage k = when eqb k 0 then Cr else when eqb k 1 then Lf else when eqb k 2 then LastCr else LastLf

abbrev pub onward : Walker → Stage → ℕ → Result Step Refusal → Walked
onward w stage n step = walked w.map (w.position + n) w.rest stage w.start n step

-- "11 an octet after the body differs from CR LF CR LF"; "the octets of 11 and 13 aren't taken". Of a piece of n octets k may be
-- taken, and same are those that the trailer wants from its octet number past on
unfoldable pub trailer_ended : Walker → ℕ → ℕ → ℕ → ℕ → Walked
trailer_ended w past k n same =
    when eqb (past + same) 4 then onward w Between same (Ok More)
    else when ltb same k then onward w (Stopped (refusal 11)) same (Err (refusal 11))
    else when ltb k n then onward w (Stopped (refusal 13)) same (Err (refusal 13))
    else onward w (trailer_stage (past + same)) same (Ok More)

unfoldable pub trailer_walked : Walker → ℕ → List ℕ → Walked
trailer_walked w past p =
    trailer_ended w past (allowed w.position (length p)) (length p) (common (drop past trailer) (take (allowed w.position (length p)) p))

-- "a record begun", or 9 or 10
abbrev pub opened_at : HeaderMap → ℕ → ℕ → ℕ → ℕ → Result (ℕ × ℕ) Refusal → Walked
opened_at m position rest start taken (Ok (n, t)) = walked m position n Body start taken (Ok (Record start position n t))
opened_at m position rest start taken (Err e) = walked m position rest (Stopped e) start taken (Err e)

-- the reader had k of a piece of n octets, and wants more: 13 inside a header "leaves what 4 does"
unfoldable pub header_more : HeaderMap → ℕ → ℕ → ℕ → ℕ → ℕ → ℕ → Walked
header_more m position rest start taken k n =
    when ltb k n then walked (emptied m) position rest (Stopped (refusal 13)) start taken (Err (refusal 13))
    else walked m position rest Header start taken (Ok More)

-- what an answer of the reader means for the walker; feed never answers that the input ended
abbrev pub header_by : Result Answer Refusal → HeaderMap → ℕ → ℕ → ℕ → ℕ → ℕ → ℕ → List ℕ → List ℕ → Walked
header_by (Ok FedMore) m position rest start taken k n b s = header_more m position rest start taken k n
header_by (Ok Blank) m position rest start taken k n b s = opened_at m position rest start taken (opening m b s)
header_by (Ok Input) m position rest start taken k n b s = walked m position rest Header start taken (Ok More)
header_by (Err e) m position rest start taken k n b s = walked m position rest (Stopped e) start taken (Err e)

abbrev pub header_gives : Walker → ℕ → ℕ → ℕ → Given Fed → Given Walked
header_gives w start k n g =
    record {
      result = header_by g.result.answer g.result.map (w.position + g.result.taken) w.rest start g.result.taken k n g.block g.store;
      block = g.block;
      store = g.store;
    }

-- k octets of a piece are read into a map
unfoldable pub header_read : Walker → HeaderMap → ℕ → ℕ → List ℕ → List ℕ → List ℕ → Given Walked
header_read w m start k b s p = header_gives w start k (length p) (feeding m b s (take k p))

-- "a record's stands until the next header's first octet"
unfoldable pub between_walked : Walker → List ℕ → List ℕ → List ℕ → Given Walked
between_walked w b s p =
    let k : ℕ = allowed w.position (length p) in
    when eqb k 0 then keeps b s (stops_at w (refusal 13)) else header_read w (fresh w.map) w.position k b s p

-- "12 and 13 inside a header leave what 4 does"
abbrev pub stops_inside : Walker → Refusal → Walked
stops_inside w e = walked (emptied w.map) w.position w.rest (Stopped e) w.start 0 (Err e)

unfoldable pub header_walked : Walker → List ℕ → List ℕ → List ℕ → Given Walked
header_walked w b s p =
    let k : ℕ = allowed w.position (length p) in
    when eqb k 0 then keeps b s (stops_inside w (refusal 13)) else header_read w w.map w.start k b s p

-- a body of which nothing is left is a trailer that begins
unfoldable pub rest_walked : Walker → List ℕ → Walked
rest_walked w p = when eqb w.rest 0 then trailer_walked w 0 p else body_walked w (allowed w.position (length p))

-- "it stays in one header, body or trailer"
abbrev pub stage_walked : Stage → Walker → List ℕ → List ℕ → List ℕ → Given Walked
stage_walked Between w b s p = between_walked w b s p
stage_walked Header w b s p = header_walked w b s p
stage_walked Body w b s p = keeps b s (rest_walked w p)
stage_walked Cr w b s p = keeps b s (trailer_walked w 0 p)
stage_walked Lf w b s p = keeps b s (trailer_walked w 1 p)
stage_walked LastCr w b s p = keeps b s (trailer_walked w 2 p)
stage_walked LastLf w b s p = keeps b s (trailer_walked w 3 p)
stage_walked Ended w b s p = keeps b s (stands w (Ok End))
stage_walked (Stopped e) w b s p = keeps b s (stands w (Err e))

-- an empty piece takes nothing
unfoldable pub walked_on : Walker → List ℕ → List ℕ → List ℕ → Given Walked
walked_on w b s p = when eqb (length p) 0 then keeps b s (stands w (Ok More)) else stage_walked w.stage w b s p

-- "A call answers more, a record begun, a body part of the piece, end, or a number, with octets taken"
unfoldable pub walking : Walker → List ℕ → List ℕ → List ℕ → Given Walked
walking w b s p =
    unless_resting (resting w.stage) (λ step. keeps b s (stands w step))
    (unless (checked_walker w (length b) (length s)) (λ e. keeps b s (stops_at w e)) (walked_on w b s p))

-- "12 file ends inside a record"
abbrev pub stage_ended : Stage → Walker → Walked
stage_ended Between w = walked w.map w.position w.rest Ended w.start 0 (Ok End)
stage_ended Header w = stops_inside w (refusal 12)
stage_ended Body w = stops_at w (refusal 12)
stage_ended Cr w = stops_at w (refusal 12)
stage_ended Lf w = stops_at w (refusal 12)
stage_ended LastCr w = stops_at w (refusal 12)
stage_ended LastLf w = stops_at w (refusal 12)
stage_ended Ended w = stands w (Ok End)
stage_ended (Stopped e) w = stands w (Err e)

unfoldable pub ending : Walker → List ℕ → List ℕ → Given Walked
ending w b s =
    unless_resting (resting w.stage) (λ step. keeps b s (stands w step))
    (unless (checked_walker w (length b) (length s)) (λ e. keeps b s (stops_at w e)) (keeps b s (stage_ended w.stage w)))
