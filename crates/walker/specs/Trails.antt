-- A walker but for its map: what a call does on the trail alone, and what becomes of the map. Assumes nothing.
use Rattle.leaves.specs.declared.refusals.Refusal.{Refusal}
use Rattle.std.specs.Prelude.{◌≡◌, true, false, List, ℕ, ◌+◌, ◌≤◌, eqb, ltb, length, Err, Ok, Result, ⊤}
use Rattle.leaves.specs.Choice.{when◌then◌else◌}
use Rattle.leaves.specs.Refusals.{refusal}
use Rattle.maps.specs.Good.{checked, checked_done}
use Rattle.maps.specs.Heads.{under, head_of, empty_head}
use Rattle.maps.specs.Maps.{Given}
use Rattle.maps.specs.declared.Head.{Head}
use Rattle.maps.specs.declared.HeaderMap.{HeaderMap}
use Rattle.maps.specs.declared.Phase.TheVariants.{Reading, Done}
use Rattle.line_reader.specs.declared.Answer.{Answer}
use Rattle.line_reader.specs.declared.Answer.TheVariants.{More as FedMore, Blank, Input as FedInput}
use Rattle.openings.specs.Opening.{longest}
use Rattle.walker.specs.Walk.{walked, keeps, ready_at, opened_at, header_more, header_read, body_walked, trailer_walked, between_walked, header_walked, allowed, walking, ending}
use Rattle.walker.specs.declared.Stage.{Stage}
use Rattle.walker.specs.declared.Stage.TheVariants.{Between, Header, Body, Cr, Lf, LastCr, LastLf, Ended, Stopped}
use Rattle.walker.specs.declared.Step.{Step}
use Rattle.walker.specs.declared.Step.TheVariants.{More}
use Rattle.walker.specs.declared.Walker.{Walker}
use Rattle.walker.specs.declared.Walked.{Walked}
use Rattle.walker.specs.declared.Trail.{Trail}
use Rattle.walker.specs.declared.Trailed.{Trailed}
use Rattle.walker.specs.declared.Kept.{Kept}
use Rattle.walker.specs.declared.Kept.TheVariants.{Same, Emptied, Fresh}
use Rattle.walker.specs.declared.Way.{Way}
use Rattle.walker.specs.declared.Way.TheVariants.{Begins, GoesOn, Passes, Trails}
use Rattle.walker.specs.declared.Turn.{Turn}
use Rattle.walker.specs.declared.Turn.TheVariants.{Stays, Reads}
use Rattle.walker.specs.declared.Headed.{Headed}
use Rattle.walker.specs.declared.Headed.TheVariants.{Goes, Opens, Input}

abbrev pub walker_of : HeaderMap → Trail → Walker
walker_of m t = record { map = m; position = t.position; rest = t.rest; stage = t.stage; start = t.start }

abbrev pub trail_of : Walker → Trail
trail_of w = record { position = w.position; rest = w.rest; stage = w.stage; start = w.start }

-- what is kept of a head: all, its rooms, or its rooms for the next header
abbrev pub kept_head : Kept → Head → Head
kept_head Same h = h
kept_head Emptied h = empty_head h.limit h.room false false Done
kept_head Fresh h = empty_head h.limit h.room true false Reading

abbrev pub kept_map : Kept → HeaderMap → HeaderMap
kept_map k m = under m.table (kept_head k (head_of m))

-- a call that was made on the trail, with the map it was made for
abbrev pub with_map : HeaderMap → Trailed → Walked
with_map m r = walked (kept_map r.kept m) r.trail.position r.trail.rest r.trail.stage r.trail.start r.taken r.step

-- a call on a trail does what F does to the walker of the trail and any map
abbrev pub Follows : Trail → Trailed → (Walker → Walked) → Type 0
Follows t r F = (m : HeaderMap) → with_map m r ≡ F (walker_of m t)

-- a trail at another stage
abbrev pub at_stage : Trail → Stage → ℕ → Result Step Refusal → Kept → Trailed
at_stage t stage taken step kept =
    record { trail = record { position = t.position; rest = t.rest; stage = stage; start = t.start }; taken = taken; step = step; kept = kept }

-- what a turn gives for a map, two loans and a piece
abbrev pub turned : HeaderMap → Trail → List ℕ → List ℕ → List ℕ → Turn → Given Walked
turned m t b s p (Stays r) = keeps b s (with_map m r)
turned m t b s p (Reads kept start k) = header_read (walker_of m t) (kept_map kept m) start k b s p

-- the octets that are to be read are there, and none is too far
abbrev pub Reaches : Trail → List ℕ → Turn → Type 0
Reaches t p (Stays r) = 0 ≤ 0
Reaches t p (Reads kept start k) = (k ≤ length p) × (t.position + k ≤ 18446744073709551615)

-- a turn at a piece does what F does to the walker of the trail and any map, with any loans
pub record Turning (t : Trail) (p : List ℕ) (r : Turn) (F : Walker → List ℕ → List ℕ → Given Walked) : Type 0 where
  pub gives : (m : HeaderMap) (b s : List ℕ) → F (walker_of m t) b s ≡ turned m t b s p r
  pub reaches : Reaches t p r

-- the same of a piece of which k octets may be taken
abbrev pub TurningAt : Trail → ℕ → Turn → (Walker → List ℕ → List ℕ → List ℕ → Given Walked) → Type 0
TurningAt t k r F = (p : List ℕ) → k ≡ allowed t.position (length p) → Turning t p r (λ w b s. F w b s p)

-- which way a walker goes that neither stopped nor ended: it reads, passes a body, or a trailer of which octets were taken
abbrev pub way_of : Stage → ℕ → Way
way_of Between rest = Begins
way_of Header rest = GoesOn
way_of Body rest = when eqb rest 0 then Trails 0 else Passes
way_of Cr rest = Trails 0
way_of Lf rest = Trails 1
way_of LastCr rest = Trails 2
way_of LastLf rest = Trails 3
way_of Ended rest = Passes
way_of (Stopped e) rest = Passes

abbrev pub way_walked : Way → Walker → List ℕ → List ℕ → List ℕ → Given Walked
way_walked Begins w b s p = between_walked w b s p
way_walked GoesOn w b s p = header_walked w b s p
way_walked Passes w b s p = keeps b s (body_walked w (allowed w.position (length p)))
way_walked (Trails past) w b s p = keeps b s (trailer_walked w past p)

-- what a map's first checks say, or 3 for "a walker's body rest over 10's cap"
abbrev pub checked_rest : ℕ → Result ⊤ Refusal → Result ⊤ Refusal
checked_rest rest c = when ltb longest rest then Err (refusal 3) else c

-- c is what the first checks say of a map with a trail and loans of b and s octets
abbrev pub Checks : Trail → Result ⊤ Refusal → HeaderMap → ℕ → ℕ → Type 0
Checks t c m b s = c ≡ checked (ready_at t.stage m.phase) m b s

-- a turn: for every map that the first checks say c of, what walking gives
pub record Turns (t : Trail) (c : Result ⊤ Refusal) (p : List ℕ) (r : Turn) : Type 0 where
  pub gives : (m : HeaderMap) (b s : List ℕ) → Checks t c m (length b) (length s) → walking (walker_of m t) b s p ≡ turned m t b s p r
  pub reaches : Reaches t p r

-- a map that a blank line ended passes the first checks
abbrev pub Judged : Result Answer Refusal → HeaderMap → List ℕ → List ℕ → Type 0
Judged a m b s = a ≡ Ok Blank → Ok tt ≡ checked_done m b s

-- what an answer of the reader comes to, with what the map opens
abbrev pub headed_by : Result Answer Refusal → Result (ℕ × ℕ) Refusal → Result Headed Refusal
headed_by (Ok FedMore) o = Ok Goes
headed_by (Ok Blank) o = Ok (Opens o)
headed_by (Ok FedInput) o = Ok Input
headed_by (Err e) o = Err e

-- and what that means for the walker: `Walk.header_by`
abbrev pub headed_walked : Result Headed Refusal → HeaderMap → ℕ → ℕ → ℕ → ℕ → ℕ → ℕ → Walked
headed_walked (Ok Goes) m position rest start taken k n = header_more m position rest start taken k n
headed_walked (Ok (Opens o)) m position rest start taken k n = opened_at m position rest start taken o
headed_walked (Ok Input) m position rest start taken k n = walked m position rest Header start taken (Ok More)
headed_walked (Err e) m position rest start taken k n = walked m position rest (Stopped e) start taken (Err e)

-- the end of input on a trail: for every map that the first checks say c of
abbrev pub Ends : Trail → Result ⊤ Refusal → Trailed → Type 0
Ends t c r = (m : HeaderMap) (b s : List ℕ) → Checks t c m (length b) (length s) → ending (walker_of m t) b s ≡ keeps b s (with_map m r)
