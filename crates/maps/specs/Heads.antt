-- A map but for its table, and the map of a table under it. Assumes nothing.
use Rattle.std.specs.Prelude.{Bool, false, List, ℕ, None}
use Rattle.maps.specs.declared.Field.{Field}
use Rattle.maps.specs.declared.Head.{Head}
use Rattle.maps.specs.declared.HeaderMap.{HeaderMap}
use Rattle.maps.specs.declared.Phase.{Phase}
use Rattle.maps.specs.declared.Phase.TheVariants.{Done}

-- a table under a head is a map
abbrev pub under : List Field → Head → HeaderMap
under t h =
    record {
      table = t;
      limit = h.limit;
      room = h.room;
      count = h.count;
      line = h.line;
      mark = h.mark;
      fields = h.fields;
      status = h.status;
      awaits = h.awaits;
      quirks = h.quirks;
      edited = h.edited;
      phase = h.phase;
    }

-- the head of a map
abbrev pub head_of : HeaderMap → Head
head_of m =
    record {
      limit = m.limit;
      room = m.room;
      count = m.count;
      line = m.line;
      mark = m.mark;
      fields = m.fields;
      status = m.status;
      awaits = m.awaits;
      quirks = m.quirks;
      edited = m.edited;
      phase = m.phase;
    }

-- the head of an empty map
abbrev pub empty_head : ℕ → ℕ → Bool → Bool → Phase → Head
empty_head limit room awaits quirks phase =
    record {
      limit = limit;
      room = room;
      count = 0;
      line = 0;
      mark = 0;
      fields = 0;
      status = None;
      awaits = awaits;
      quirks = quirks;
      edited = false;
      phase = phase;
    }

-- the head of the first map of a caller
abbrev pub unmade_head : Head
unmade_head = empty_head 0 0 false false Done
