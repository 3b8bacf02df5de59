-- What the page of the walker speaks of: its stages, and what a call answers and leaves. Assumes nothing.
use Rattle.leaves.specs.declared.refusals.Refusal.{Refusal}
use Rattle.std.specs.Prelude.{◌≡◌, Bool, true, false, List, [], ℕ, ◌<◌, length, get_or, take, drop, Err, Ok, Result}
use Rattle.maps.specs.Maps.{Given}
use Rattle.maps.specs.declared.HeaderMap.{HeaderMap}
use Rattle.walker.specs.Walk.{trailer, resting, checked_walker}
use Rattle.walker.specs.Answers.{told}
use Rattle.walker.specs.declared.Stage.{Stage}
use Rattle.walker.specs.declared.Stage.TheVariants.{Between, Header, Body, Cr, Lf, LastCr, LastLf, Ended, Stopped}
use Rattle.walker.specs.declared.Step.{Step}
use Rattle.walker.specs.declared.Step.TheVariants.{More, Record, Body as Part, End}
use Rattle.walker.specs.declared.Walker.{Walker}
use Rattle.walker.specs.declared.Walked.{Walked}

-- the number of a call's answer
abbrev pub answer : Given Walked → ℕ
answer g = told g.result.step

-- the next octet is one of a header
abbrev pub heading : Stage → Bool
heading Between = true
heading Header = true
heading Body = false
heading Cr = false
heading Lf = false
heading LastCr = false
heading LastLf = false
heading Ended = false
heading (Stopped e) = false

-- the octets of the trailer that are still wanted; a body that ended wants them all
abbrev pub wanted : Stage → List ℕ
wanted Between = []
wanted Header = []
wanted Body = trailer
wanted Cr = trailer
wanted Lf = drop 1 trailer
wanted LastCr = drop 2 trailer
wanted LastLf = drop 3 trailer
wanted Ended = []
wanted (Stopped e) = []

-- a walker that is neither stopped nor ended, and whose first checks pass
pub record Goes (w : Walker) (b s : List ℕ) : Type 0 where
  pub walks : resting w.stage ≡ Ok true
  pub fine : Ok tt ≡ checked_walker w (length b) (length s)

-- a call that leaves this map and these loans
pub record Leaves (m : HeaderMap) (b s : List ℕ) (g : Given Walked) : Type 0 where
  pub map : g.result.walker.map ≡ m
  pub block : g.block ≡ b
  pub store : g.store ≡ s

-- what an answer says of the walker that is left: "walker stops", "an ended one"; a record that was told is the one whose body is next, a part of a body
-- leaves that body, and more a walker that goes on
abbrev pub Follows : Result Step Refusal → Walker → Type 0
Follows (Ok More) w = resting w.stage ≡ Ok true
Follows (Ok (Record start body size kind)) w = (w.stage ≡ Body) × (w.start ≡ start) × (w.position ≡ body) × (w.rest ≡ size)
Follows (Ok Part) w = w.stage ≡ Body
Follows (Ok End) w = w.stage ≡ Ended
Follows (Err e) w = w.stage ≡ Stopped e

-- the octets in front of the octet number n of a piece are the first of those that are wanted, and that octet is not the next one
pub record Differs (p wants : List ℕ) (n : ℕ) : Type 0 where
  pub here : n < length p
  pub wanting : n < length wants
  pub same : take n p ≡ take n wants
  pub other : get_or p n 0 ≡ get_or wants n 0 → ⊥
