-- What the walker's calls give over a lent table, as the walkers of a call by value. Assumes nothing.
use Rattle.std.specs.Prelude.{List, ℕ}
use Rattle.maps.specs.Heads.{under}
use Rattle.maps.specs.Maps.{Is}
use Rattle.maps.specs.declared.Field.{Field}
use Rattle.maps.specs.declared.Head.{Head}
use Rattle.walker.specs.Walk.{starting}
use Rattle.walker.specs.Trails.{walker_of, kept_head}
use Rattle.walker.specs.declared.Trail.{Trail}
use Rattle.walker.specs.declared.Trailed.{Trailed}
use Rattle.walker.specs.declared.Walked.{Walked}
use Rattle.walker.specs.declared.Walker.{Walker}
use Rattle.lent.specs.Table.{table_of, map_in}
use Rattle.lent_walker.specs.declared.WalkedHead.{WalkedHead}

-- the walker of a lent table, a head and a trail
abbrev pub walker_in : List ℕ → Head → Trail → Walker
walker_in t h trail = walker_of (map_in t h) trail

-- what was walked, over a table
abbrev pub walked_under : List Field → WalkedHead → Walked
walked_under T r = record { walker = walker_of (under T r.head) r.trail; taken = r.taken; step = r.step }

-- with the numbers that the lent table has then
abbrev pub walked_in : List ℕ → WalkedHead → Walked
walked_in t r = walked_under (table_of t) r

-- a call that was made on the trail, with the head it was made for
abbrev pub with_head : Head → Trailed → WalkedHead
with_head h r = record { trail = r.trail; head = kept_head r.kept h; taken = r.taken; step = r.step }

-- a start, whatever the table
abbrev pub Starts : Head → ℕ → ℕ → List ℕ → List ℕ → WalkedHead → Type 0
Starts h room position b s r = (T : List Field) → Is (starting (under T h) room position b s) (walked_under T r) b s
