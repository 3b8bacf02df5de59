-- What the reading calls give over a lent table, as the maps of a call by value. Assumes nothing.
use Rattle.std.specs.Prelude.{List, ℕ}
use Rattle.maps.specs.Heads.{under}
use Rattle.maps.specs.declared.Field.{Field}
use Rattle.reader.specs.declared.Fed.{Fed}
use Rattle.reader.specs.declared.Made.{Made}
use Rattle.lent.specs.Table.{map_in}
use Rattle.lent_reader.specs.declared.FedHead.{FedHead}
use Rattle.lent_reader.specs.declared.MadeHead.{MadeHead}

-- what was fed, with the numbers that the lent table has then
abbrev pub fed_in : List ℕ → FedHead → Fed
fed_in t r = record { map = map_in t r.head; taken = r.taken; answer = r.answer }

-- what was made of a head, over a table that stays
abbrev pub made_in : List Field → MadeHead → Made
made_in T r = record { map = under T r.head; answer = r.answer }
