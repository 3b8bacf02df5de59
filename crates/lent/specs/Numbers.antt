-- A head in thirteen lent numbers. Assumes nothing.
use Rattle.maps.specs.declared.Place.{Place}
use Rattle.std.specs.Prelude.{Bool, true, false, ◌&&◌, List, [], ◌∷◌, ℕ, eqb, leb, ltb, length, get_or, None, Option, Some}
use Rattle.leaves.specs.Choice.{when◌then◌else◌}
use Rattle.maps.specs.Places.{in_block, in_store}
use Rattle.maps.specs.declared.Place.TheVariants.{Block, Store}
use Rattle.maps.specs.declared.Phase.{Phase}
use Rattle.maps.specs.declared.Phase.TheVariants.{Reading, Done}
use Rattle.maps.specs.declared.Head.{Head}
use Rattle.maps.specs.declared.HeaderMap.{HeaderMap}
use Rattle.lent.specs.Table.{map_in}

abbrev pub flag_of : Bool → ℕ
flag_of true = 1
flag_of false = 0

abbrev pub phase_number : Phase → ℕ
phase_number Reading = 1
phase_number Done = 0

-- the status: 0 if it is absent, else 1 for the block and 2 for the store; and the place's ends
abbrev pub status_kind : Option Place → ℕ
status_kind None = 0
status_kind (Some (Block a e)) = 1
status_kind (Some (Store a e)) = 2

abbrev pub status_from : Option Place → ℕ
status_from None = 0
status_from (Some (Block a e)) = a.0
status_from (Some (Store a e)) = a.0

abbrev pub status_to : Option Place → ℕ
status_to None = 0
status_to (Some (Block a e)) = e.0
status_to (Some (Store a e)) = e.0

-- the numbers of a head: limit, room, count, line start, mark, fields, status, flags, phase
abbrev pub head_numbers : Head → List ℕ
head_numbers h =
    h.limit ∷ h.room ∷ h.count ∷ h.line ∷ h.mark ∷ h.fields ∷ status_kind h.status ∷ status_from h.status ∷ status_to h.status ∷
    flag_of h.awaits ∷ flag_of h.quirks ∷ flag_of h.edited ∷ phase_number h.phase ∷ []

unfoldable pub status_of : ℕ → ℕ → ℕ → Option Place
status_of kind from to = when eqb kind 0 then None else Some (when eqb kind 1 then in_block from to else in_store from to)

abbrev pub phase_of : ℕ → Phase
phase_of n = when eqb n 1 then Reading else Done

-- the head that numbers are
abbrev pub head_of : List ℕ → Head
head_of n =
    record {
      limit = get_or n 0 0;
      room = get_or n 1 0;
      count = get_or n 2 0;
      line = get_or n 3 0;
      mark = get_or n 4 0;
      fields = get_or n 5 0;
      status = status_of (get_or n 6 0) (get_or n 7 0) (get_or n 8 0);
      awaits = eqb (get_or n 9 0) 1;
      quirks = eqb (get_or n 10 0) 1;
      edited = eqb (get_or n 11 0) 1;
      phase = phase_of (get_or n 12 0);
    }

-- a status whose kind is one of its values; an absent one has no place, and a place's ends are below 2^32
unfoldable pub sound_status : ℕ → ℕ → ℕ → Bool
sound_status kind from to = when eqb kind 0 then eqb from 0 && eqb to 0 else leb kind 2 && (ltb from 4294967296 && ltb to 4294967296)

-- numbers that are a head's
unfoldable pub sound_head : List ℕ → Bool
sound_head n =
    eqb (length n) 13 &&
    (sound_status (get_or n 6 0) (get_or n 7 0) (get_or n 8 0) && (leb (get_or n 9 0) 1 && (leb (get_or n 10 0) 1 && (leb (get_or n 11 0) 1 && leb (get_or n 12 0) 1))))

-- numbers that are a map's: those of a head, and a table of 256 fields
unfoldable pub sound_map : List ℕ → List ℕ → Bool
sound_map n t = sound_head n && eqb (length t) 1024

-- as many numbers as a map's, whatever they are
unfoldable pub long_map : List ℕ → List ℕ → Bool
long_map n t = eqb (length n) 13 && eqb (length t) 1024

-- the map that numbers are
abbrev pub map_of : List ℕ → List ℕ → HeaderMap
map_of n t = map_in t (head_of n)
