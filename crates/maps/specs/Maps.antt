-- Maps made from nothing or emptied, and the form of every call's contract. Assumes nothing.
use Rattle.std.specs.Prelude.{◌≡◌, Bool, false, List, ℕ, replicate, None}
use Rattle.maps.specs.Places.{no_field}
use Rattle.maps.specs.declared.Field.{Field}
use Rattle.maps.specs.declared.Phase.{Phase}
use Rattle.maps.specs.declared.Phase.TheVariants.{Done}
use Rattle.maps.specs.declared.HeaderMap.{HeaderMap}

-- "An empty map keeps its rooms; it is unedited, without status or fields, its count, line start and mark 0." Its table's entries
-- stay, all unused.
abbrev pub empty : List Field → ℕ → ℕ → Bool → Bool → Phase → HeaderMap
empty table limit room awaits quirks phase =
    record {
      table = table;
      limit = limit;
      room = room;
      count = 0;
      line = 0;
      mark = 0;
      fields = 0;
      status = None;
      awaits = awaits;
      quirks = quirks;
      edited = false;
      phase = phase;
    }

-- the first map of a caller
abbrev pub unmade : HeaderMap
unmade = empty (replicate 256 no_field) 0 0 false false Done

-- what a call gives: the result, and both loans at its end
pub record Given (A : Type 0) : Type 0 where
  pub result : A
  pub block : List ℕ
  pub store : List ℕ

-- the form of every contract: the result and the two loans at exit are those of one definition at the inputs
pub record Is {A : Type 0} (g : Given A) (r : A) (b s : List ℕ) : Type 0 where
  pub result : r ≡ g.result
  pub block : b ≡ g.block
  pub store : s ≡ g.store
