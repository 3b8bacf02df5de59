-- The page to believe, of edits and lookups: each sentence with its statement, on the calls. `proofs/EditsHold` inhabits `Edits`. Assumes nothing.
use Rattle.std.specs.Prelude.{◌≡◌, List, [], ℕ, ◌+◌, ◌≤◌, ◌<◌, length, get_or, Err, Ok}
use Rattle.leaves.specs.Paste.{pasted}
use Rattle.leaves.specs.Refusals.{refusal}
use Rattle.leaves.specs.declared.refusals.Refusal.{Refusal}
use Rattle.maps.specs.Good.{checked_done}
use Rattle.maps.specs.Said.{text_of, saying}
use Rattle.maps.specs.declared.HeaderMap.{HeaderMap}
use Rattle.lookups.specs.Lookups.{finding, value_place, key_place, status_place, handed_out}
use Rattle.edits.specs.Edits.{refusing, remade}
use Rattle.says.specs.Says.{pair, Ask, ask_remove, asked, ask_said, ask_text, marked, find_said, after, usable}

-- an edit that is asked of a map and its loans
pub record Alters (a : Ask) (m : HeaderMap) (b s : List ℕ) : Type 0 where
  -- "Set replaces the first match with the new key and value, drops later ones, or appends. Remove drops all matches.": what the map says then
  pub says : (asked a m b s).result.answer ≡ Ok tt → after (asked a m b s) ≡ ask_said a (saying m b s)
  -- the map can be used again: 3, 2 and 7 do not refuse it
  pub again : (asked a m b s).result.answer ≡ Ok tt → Ok tt ≡ usable (asked a m b s)
  -- "Set, append and set status mark the map edited, remove only if something went."; a table has 256 entries, by its type
  pub marks : length m.table ≡ 256 → (asked a m b s).result.answer ≡ Ok tt → (asked a m b s).result.map.edited ≡ marked a m.edited (saying m b s)
  -- "Its store mark grows by the lengths that edits .. add."
  pub mark : (asked a m b s).result.answer ≡ Ok tt → (asked a m b s).result.map.mark ≡ m.mark + length (ask_text a)
  -- nothing else of the map changes
  pub rest : (asked a m b s).result.answer ≡ Ok tt → (n : HeaderMap) → n ≡ (asked a m b s).result.map
      → n ≡ remade m n.table n.fields n.status n.mark n.edited
  -- "Set and append put the new key, then the new value, at the mark; set status its text; the rest of the store stays."
  pub store : (asked a m b s).result.answer ≡ Ok tt → (asked a m b s).store ≡ pasted s m.mark (ask_text a)
  -- the block stays whole
  pub block : (asked a m b s).result.answer ≡ Ok tt → (asked a m b s).block ≡ b
  -- "Every other map call checks 3, 2, 7, then its own in rising order."
  pub refused : (x : Refusal) → Err x ≡ checked_done m b s → asked a m b s ≡ refusing m b s x
  -- "5 a 257th field is needed"
  pub over : Ok tt ≡ checked_done m b s → 256 < length (ask_said a (saying m b s)).pairs → (asked a m b s).result.answer ≡ Err (refusal 5)
  -- "6 mark plus new octets exceed the room"
  pub full : Ok tt ≡ checked_done m b s → length (ask_said a (saying m b s)).pairs ≤ 256 → m.room < m.mark + length (ask_text a)
      → (asked a m b s).result.answer ≡ Err (refusal 6)
  -- an edit that none of the five refuses is done
  pub done : Ok tt ≡ checked_done m b s → length (ask_said a (saying m b s)).pairs ≤ 256 → m.mark + length (ask_text a) ≤ m.room
      → (asked a m b s).result.answer ≡ Ok tt
  -- a refused edit leaves "all": "map and lent memory keep their contents"
  pub left : (x : Refusal) → (asked a m b s).result.answer ≡ Err x → asked a m b s ≡ refusing m b s x

-- lookups in a map that 3, 2 and 7 do not refuse
pub record Looks (m : HeaderMap) (b s : List ℕ) : Type 0 where
  -- "A lookup from a given field number on gives missing or a field number."
  pub find : (name : List ℕ) (from : ℕ) → finding m b s name from ≡ Ok (find_said name from (saying m b s))
  -- "hands out the value ..., others the key and the status"; for a wrong number or no status no octets
  pub value : (i : ℕ) → handed_out b s (value_place m b s i) ≡ (get_or (saying m b s).pairs i (pair [] [])).value
  pub key : (i : ℕ) → handed_out b s (key_place m b s i) ≡ (get_or (saying m b s).pairs i (pair [] [])).key
  pub status : handed_out b s (status_place m b s) ≡ text_of (saying m b s).status

pub record Edits : Type 0 where
  pub alters : (a : Ask) (m : HeaderMap) (b s : List ℕ) → Alters a m b s
  -- 5 and 6 refuse no remove
  pub removes : (key : List ℕ) (m : HeaderMap) (b s : List ℕ) → Ok tt ≡ checked_done m b s → (asked (ask_remove key) m b s).result.answer ≡ Ok tt
  pub looks : (m : HeaderMap) (b s : List ℕ) → Ok tt ≡ checked_done m b s → Looks m b s
