-- What the edits give: the answer, the map and both loans. Assumes nothing.
use Rattle.maps.specs.declared.Place.{Place}
use Rattle.std.specs.Prelude.{Bool, true, false, ◌||◌, List, [], ◌∷◌, ◌++◌, ℕ, ◌+◌, ◌-◌, leb, ltb, length, Err, Ok, Option, Result, Some}
use Rattle.leaves.specs.Choice.{when◌then◌else◌}
use Rattle.leaves.specs.Paste.{lay, pasted}
use Rattle.leaves.specs.Sanitise.{sanitised}
use Rattle.leaves.specs.declared.refusals.Refusal.{Refusal}
use Rattle.leaves.specs.Refusals.{refusal}
use Rattle.maps.specs.Places.{in_store, edit_field}
use Rattle.maps.specs.Good.{live, checked_done, unless}
use Rattle.maps.specs.Maps.{Given}
use Rattle.maps.specs.declared.Field.{Field}
use Rattle.maps.specs.declared.HeaderMap.{HeaderMap}
use Rattle.lookups.specs.Lookups.{named}
use Rattle.edits.specs.Fields.{keeps, replaced, put_at}
use Rattle.edits.specs.declared.Edited.{Edited}

-- a map with another table, number of fields, status and mark, and whether it is edited
abbrev pub remade : HeaderMap → List Field → ℕ → Option Place → ℕ → Bool → HeaderMap
remade m table fields status mark edited =
    record {
      table = table;
      limit = m.limit;
      room = m.room;
      count = m.count;
      line = m.line;
      mark = mark;
      fields = fields;
      status = status;
      awaits = m.awaits;
      quirks = m.quirks;
      edited = edited;
      phase = m.phase;
    }

-- the map with these fields
abbrev pub with_fields : HeaderMap → List Field → ℕ → Bool → HeaderMap
with_fields m xs mark edited = remade m (lay m.table xs) (length xs) m.status mark edited

-- a refused edit leaves "all": "map and lent memory keep their contents"
abbrev pub left : HeaderMap → Refusal → Edited
left m x = record { answer = Err x; map = m }

abbrev pub refusing : HeaderMap → List ℕ → List ℕ → Refusal → Given Edited
refusing m b s x = record { result = left m x; block = b; store = s }

-- an edit is done: it gives the map n, and the store became z
abbrev pub done : HeaderMap → List ℕ → List ℕ → Given Edited
done n b z = record { result = record { answer = Ok tt; map = n }; block = b; store = z }

-- "5 a 257th field is needed", "6 mark plus new octets exceed the room", else the map n, with the text t put "at the mark; .. the
-- rest of the store stays"
unfoldable pub changing : HeaderMap → List ℕ → List ℕ → HeaderMap → List ℕ → Given Edited
changing m b s n t =
    when ltb 256 n.fields then refusing m b s (refusal 5)
    else when ltb m.room (m.mark + length t) then refusing m b s (refusal 6)
    else done n b (pasted s m.mark t)

-- "Set and append put the new key, then the new value, at the mark": where they go
abbrev pub new_field : ℕ → ℕ → ℕ → Field
new_field n k v = edit_field (in_store n (n + k)) (in_store (n + k) (n + k + v))

-- what putting the texts k and v in at the number i comes to: "5 a 257th field is needed", "6 mark plus new octets exceed the room", else the
-- field that is to stand at the mark
unfoldable pub planned : ℕ → ℕ → ℕ → List ℕ → List ℕ → Result Field Refusal
planned i mark room k v =
    when ltb i 256
    then (when leb (length k + length v) (room - mark) then Ok (new_field mark (length k) (length v)) else Err (refusal 6))
    else Err (refusal 5)

-- an edit that makes the map n and puts the text t at the mark, after 3, 2 and 7
abbrev pub editing : HeaderMap → List ℕ → List ℕ → HeaderMap → List ℕ → Given Edited
editing m b s n t = unless (checked_done m b s) (refusing m b s) (changing m b s n t)

-- the map with a field for the texts k and v put in; "Set, append .. mark the map edited"
abbrev pub with_field : HeaderMap → (Field → List Field) → List ℕ → List ℕ → HeaderMap
with_field m xs k v = with_fields m (xs (new_field m.mark (length k) (length v))) (m.mark + length (k ++ v)) true

-- "Set replaces the first match with the new key and value, drops later ones, or appends."
unfoldable pub setting : HeaderMap → List ℕ → List ℕ → List ℕ → List ℕ → Given Edited
setting m b s key value =
    editing m b s
    (with_field m (λ new. replaced (named b s (sanitised true key)) new (live m)) (sanitised true key) (sanitised false value))
    (sanitised true key ++ sanitised false value)

-- append puts the new field behind the last
unfoldable pub appending : HeaderMap → List ℕ → List ℕ → List ℕ → List ℕ → Given Edited
appending m b s key value =
    editing m b s
    (with_field m (λ new. live m ++ (new ∷ [])) (sanitised true key) (sanitised false value))
    (sanitised true key ++ sanitised false value)

-- both, by the number of the field, after the first checks
unfoldable pub putting : HeaderMap → List ℕ → List ℕ → ℕ → List ℕ → List ℕ → Given Edited
putting m b s i key value =
    changing m b s
    (with_field m (λ new. put_at (named b s (sanitised true key)) new i (live m)) (sanitised true key) (sanitised false value))
    (sanitised true key ++ sanitised false value)

-- the fields that a remove leaves
abbrev pub leaving : HeaderMap → List ℕ → List ℕ → List ℕ → List Field
leaving m b s key = keeps (named b s (sanitised true key)) (live m)

-- "remove only if something went" marks the map edited
abbrev pub thinned : HeaderMap → List Field → HeaderMap
thinned m xs = with_fields m xs m.mark (m.edited || ltb (length xs) m.fields)

-- "Remove drops all matches."
unfoldable pub removing : HeaderMap → List ℕ → List ℕ → List ℕ → Given Edited
removing m b s key = unless (checked_done m b s) (refusing m b s) (done (thinned m (leaving m b s key)) b s)

-- the map with the text of n octets at the mark as its status
abbrev pub with_status : HeaderMap → ℕ → HeaderMap
with_status m n = remade m m.table m.fields (Some (in_store m.mark (m.mark + n))) (m.mark + n) true

-- "set status its text"; "in keys and status lines drops colons"
unfoldable pub statusing : HeaderMap → List ℕ → List ℕ → List ℕ → Given Edited
statusing m b s text = editing m b s (with_status m (length (sanitised true text))) (sanitised true text)
