-- What a line does: the status, a fold or a field. Rules 3 and 4 of a reading. Assumes nothing.
use Rattle.leaves.specs.declared.refusals.Refusal.{Refusal}
use Rattle.std.specs.Prelude.{Bool, false, ◌||◌, List, [], ◌∷◌, ◌++◌, ℕ, ◌+◌, ◌-◌, eqb, ltb, leb, length, take, drop, Err, Ok, Result}
use Rattle.leaves.specs.Choice.{when◌then◌else◌}
use Rattle.leaves.specs.Class.{blank}
use Rattle.leaves.specs.Trim.{trim_end, trim_start, trimmed}
use Rattle.leaves.specs.Octets.{before, all, same_list}
use Rattle.leaves.specs.Refusals.{refusal}
use Rattle.maps.specs.Places.{in_block, in_store, part, read_field}
use Rattle.maps.specs.declared.Field.{Field}
use Rattle.maps.specs.declared.Place.{Place}
use Rattle.maps.specs.declared.Place.TheVariants.{Block, Store}
use Rattle.folds.specs.declared.Change.{Change}
use Rattle.folds.specs.declared.Change.TheVariants.{Nothing, Status as Headed, Put}

-- the place of the blank-free part of l, which stands in the block at n; "A blank side or status is the empty range at its start."
abbrev pub trimmed_at : ℕ → List ℕ → Place
trimmed_at n l = in_block (n + trim_start l) (n + trim_end l)

-- "it starts with space or tab"
abbrev pub continues : List ℕ → Bool
continues [] = false
continues (x ∷ xs) = eqb x 32 || eqb x 9

-- "The block ends at a line that is just CR LF (quirks: any line of blanks only)."
unfoldable pub ends_block : Bool → List ℕ → Bool
ends_block quirks l = when quirks then all blank l else same_list l (13 ∷ 10 ∷ [])

-- what a line does, and the octets that it puts at the store's mark
pub record Ruling : Type 0 where
  pub change : Result Change Refusal
  pub new : List ℕ

-- nothing is put into the store
abbrev pub plain : Result Change Refusal → Ruling
plain c = record { change = c; new = [] }

-- a field in a slot whose value lies in the store and ends at the new mark
abbrev pub put_field : ℕ → Place → ℕ → ℕ → Result Change Refusal
put_field slot key from to = Ok (Put slot (read_field key (in_store from to)) to)

-- new octets at the mark, if they fit, that end the value of the field in a slot; "mark plus new octets exceed the room" is 6
unfoldable pub grown : ℕ → ℕ → Place → ℕ → ℕ → List ℕ → Ruling
grown room slot key from mark new =
    when leb (mark + length new) room
    then record { change = put_field slot key from (mark + length new); new = new }
    else plain (Err (refusal 6))

-- "The first fold of a value copies it to the store .. ; a store value ending at the mark grows there, one ending elsewhere is copied
-- again."
unfoldable pub regrown : ℕ → List ℕ → ℕ → Place → Place → ℕ → List ℕ → List ℕ → Ruling
regrown room block slot key (Block a b) mark store t = grown room slot key mark mark (part a.0 b.0 block ++ 32 ∷ t)
regrown room block slot key (Store a b) mark store t =
    when eqb b.0 mark then grown room slot key a.0 mark (32 ∷ t)
    else grown room slot key mark mark (part a.0 b.0 store ++ 32 ∷ t)

-- "the last value becomes old value, one space, trimmed line; without an earlier field a field with empty key is added"
unfoldable pub folded : ℕ → List ℕ → ℕ → Field → ℕ → List ℕ → List ℕ → Ruling
folded room block fields last mark store t =
    when eqb fields 0 then grown room 0 (in_store mark mark) mark mark t
    else regrown room block (fields - 1) last.key last.value mark store t

-- "Else it splits at the first colon, both sides trimmed; no colon, no field." 5: "a 257th field is needed"
unfoldable pub split : ℕ → List ℕ → ℕ → ℕ → Ruling
split n l fields mark =
    when ltb (before 58 l) (length l)
    then (
    when ltb fields 256
    then plain (Ok (Put fields (read_field (trimmed_at n (take (before 58 l) l)) (trimmed_at (n + (before 58 l + 1)) (drop (before 58 l + 1) l))) mark))
    else plain (Err (refusal 5)))
    else plain (Ok Nothing)

-- rule 4, for the line of the block that begins at n: "if a status line is expected, the trimmed line is the status. Else, if it
-- starts with space or tab", a fold; else a split
unfoldable pub rule4 : ℕ → List ℕ → ℕ → Bool → ℕ → Field → ℕ → List ℕ → Ruling
rule4 room block n awaits fields last mark store =
    when awaits then plain (Ok (Headed (trimmed_at n (drop n block))))
    else when continues (drop n block) then folded room block fields last mark store (trimmed (drop n block))
    else split n (drop n block) fields mark
