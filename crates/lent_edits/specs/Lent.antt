-- What an edit of a map in lent numbers gives, as an edit by value does. Assumes nothing.
use Rattle.std.specs.Prelude.{List, ℕ, Err}
use Rattle.leaves.specs.declared.refusals.Refusal.{Refusal}
use Rattle.maps.specs.declared.Head.{Head}
use Rattle.edits.specs.declared.Edited.{Edited}
use Rattle.edits.specs.declared.tables.Kept.{Kept}
use Rattle.lent.specs.Table.{table_of, map_in}
use Rattle.lent_edits.specs.declared.EditedHead.{EditedHead}

-- a table and how many of its fields count
abbrev pub kept_in : List ℕ → ℕ → Kept
kept_in t n = record { table = table_of t; n = n }

-- an edit's answer, and the map of the table under the head
abbrev pub edited_in : List ℕ → EditedHead → Edited
edited_in t r = record { answer = r.answer; map = map_in t r.head }

-- a refused edit leaves the head
abbrev pub left_head : Head → Refusal → EditedHead
left_head h x = record { answer = Err x; head = h }
