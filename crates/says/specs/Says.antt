-- The edits and the lookups at the level of what a map says. Assumes nothing.
use Rattle.leaves.specs.declared.refusals.Refusal.{Refusal}
use Rattle.std.specs.Prelude.{Bool, true, false, ◌||◌, List, [], ◌∷◌, ◌++◌, ℕ, ltb, length, drop, Option, Result, Some, ⊤}
use Rattle.leaves.specs.Sanitise.{sanitised}
use Rattle.maps.specs.Good.{checked_done}
use Rattle.maps.specs.Maps.{Given}
use Rattle.maps.specs.declared.HeaderMap.{HeaderMap}
use Rattle.maps.specs.Said.{Pair, Said, called, saying}
use Rattle.lookups.specs.Lookups.{seeking}
use Rattle.edits.specs.Fields.{keeps, replaced}
use Rattle.edits.specs.Edits.{setting, appending, removing, statusing}
use Rattle.edits.specs.declared.Edited.{Edited}

-- a key and a value as a pair
abbrev pub pair : List ℕ → List ℕ → Pair
pair k v = record { key = k; value = v }

-- "Set replaces the first match with the new key and value, drops later ones, or appends."
abbrev pub set_said : List ℕ → List ℕ → Said → Said
set_said k v x = record { status = x.status; pairs = replaced (called k) (pair k v) x.pairs }

abbrev pub append_said : List ℕ → List ℕ → Said → Said
append_said k v x = record { status = x.status; pairs = x.pairs ++ (pair k v ∷ []) }

-- "Remove drops all matches."
abbrev pub remove_said : List ℕ → Said → Said
remove_said k x = record { status = x.status; pairs = keeps (called k) x.pairs }

abbrev pub status_said : List ℕ → Said → Said
status_said t x = record { status = Some t; pairs = x.pairs }

-- an edit as it is asked for, with the texts that were given
pub data Ask : Type 0 where
  ask_set : (key value : List ℕ) → Ask
  ask_append : (key value : List ℕ) → Ask
  ask_remove : (key : List ℕ) → Ask
  ask_status : (text : List ℕ) → Ask

-- the call that is made
abbrev pub asked : Ask → HeaderMap → List ℕ → List ℕ → Given Edited
asked (ask_set key value) m b s = setting m b s key value
asked (ask_append key value) m b s = appending m b s key value
asked (ask_remove key) m b s = removing m b s key
asked (ask_status text) m b s = statusing m b s text

-- what it makes of what a map says: the texts are sanitised, "in keys and status lines" without colons
abbrev pub ask_said : Ask → Said → Said
ask_said (ask_set key value) x = set_said (sanitised true key) (sanitised false value) x
ask_said (ask_append key value) x = append_said (sanitised true key) (sanitised false value) x
ask_said (ask_remove key) x = remove_said (sanitised true key) x
ask_said (ask_status text) x = status_said (sanitised true text) x

-- "Set and append put the new key, then the new value, at the mark; set status its text": the octets that it puts there
abbrev pub ask_text : Ask → List ℕ
ask_text (ask_set key value) = sanitised true key ++ sanitised false value
ask_text (ask_append key value) = sanitised true key ++ sanitised false value
ask_text (ask_remove key) = []
ask_text (ask_status text) = sanitised true text

-- "Set, append and set status mark the map edited, remove only if something went.": whether the map is edited then, from whether it was
abbrev pub marked : Ask → Bool → Said → Bool
marked (ask_set key value) edited x = true
marked (ask_append key value) edited x = true
marked (ask_remove key) edited x = edited || ltb (length (remove_said (sanitised true key) x).pairs) (length x.pairs)
marked (ask_status text) edited x = true

-- "A lookup from a given field number on gives missing or a field number."
abbrev pub find_said : List ℕ → ℕ → Said → Option ℕ
find_said name from x = seeking (called name) from (drop from x.pairs)

-- what the map of an edit says then, and what the next call's first checks say of it
abbrev pub after : Given Edited → Said
after g = saying g.result.map g.block g.store

abbrev pub usable : Given Edited → Result ⊤ Refusal
usable g = checked_done g.result.map g.block g.store
