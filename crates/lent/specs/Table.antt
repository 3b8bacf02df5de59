-- A table of fields in lent numbers: four to a field, two to a place. Assumes nothing.
use Rattle.std.specs.Prelude.{Bool, false, ◌&&◌, List, [], ◌∷◌, ℕ, zero, suc, ◌+◌, ◌*◌, ◌-◌, min, leb, ltb, get_or, set, replicate}
use Rattle.leaves.specs.Choice.{when◌then◌else◌}
use Rattle.leaves.specs.Paste.{lay}
use Rattle.maps.specs.Places.{in_block, in_store, no_field}
use Rattle.maps.specs.Heads.{under}
use Rattle.maps.specs.declared.Place.{Place}
use Rattle.maps.specs.declared.Place.TheVariants.{Block, Store}
use Rattle.maps.specs.declared.Field.{Field}
use Rattle.maps.specs.declared.Head.{Head}
use Rattle.maps.specs.declared.HeaderMap.{HeaderMap}

-- offsets of the store stand behind this number, those of the block before it
abbrev pub store_mark : ℕ
store_mark = 2147483648

-- the place that two numbers are: where it begins, and where it ends
unfoldable pub place_of : ℕ → ℕ → Place
place_of from to = when ltb from store_mark then in_block from to else in_store (from - store_mark) to

-- two numbers that are a good place of the store
unfoldable pub good_stored : ℕ → ℕ → ℕ → Bool
good_stored mark from to = when ltb from store_mark then false else (leb (from - store_mark) to && leb to mark)

-- the two numbers of a place
abbrev pub from_of : Place → ℕ
from_of (Block a e) = a.0
from_of (Store a e) = store_mark + a.0

abbrev pub to_of : Place → ℕ
to_of (Block a e) = e.0
to_of (Store a e) = e.0

abbrev pub place_at : List ℕ → ℕ → Place
place_at t at = place_of (get_or t at 0) (get_or t (at + 1) 0)

-- the field i: its key's place, then its value's
abbrev pub field_at : List ℕ → ℕ → Field
field_at t i = record { key = place_at t (i * 4); value = place_at t (i * 4 + 2) }

-- k fields of a table from the field i on
unfoldable pub fields_from : List ℕ → ℕ → ℕ → List Field
fields_from t i zero = []
fields_from t i (suc k) = field_at t i ∷ fields_from t (i + 1) k

-- all of them
abbrev pub table_of : List ℕ → List Field
table_of t = fields_from t 0 256

-- the numbers of fields
unfoldable pub numbers_of : List Field → List ℕ
numbers_of [] = []
numbers_of (x ∷ xs) = from_of x.key ∷ to_of x.key ∷ from_of x.value ∷ to_of x.value ∷ numbers_of xs

abbrev pub place_put : List ℕ → ℕ → Place → List ℕ
place_put t at p = set (set t at (from_of p)) (at + 1) (to_of p)

abbrev pub field_put : List ℕ → ℕ → Field → List ℕ
field_put t i f = place_put (place_put t (i * 4) f.key) (i * 4 + 2) f.value

-- the map of a lent table under a head
abbrev pub map_in : List ℕ → Head → HeaderMap
map_in t h = under (table_of t) h

-- the same with only the fields that count: what stands behind them was never used
abbrev pub live_in : List ℕ → Head → HeaderMap
live_in t h = under (lay (replicate 256 no_field) (fields_from t 0 (min h.fields 256))) h
