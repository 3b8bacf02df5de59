-- The records of a file in their order, as rows of an index. Assumes nothing.
use Rattle.std.specs.Prelude.{Bool, true, false, List, [], ◌∷◌, ℕ, ◌+◌, ◌≤◌, ◌<◌}
use Rattle.leaves.specs.Choice.{when◌then◌else◌}
use Rattle.records.specs.Layout.{Listed, Sign, begins_record, body_octet, record_ended, ends_file, stopped_by}

-- where a record ends, whose trailer is taken: "body of Content-Length octets, CR LF CR LF"
abbrev pub end_of : Listed → ℕ
end_of r = r.body + r.size + 4

-- every record starts at n or later, its body begins behind its start, and the next record starts where it ends or later
abbrev pub Rising : ℕ → List Listed → Type 0
Rising n [] = Unit {0}
Rising n (r ∷ rs) = (n ≤ r.start) × (r.start < r.body) × Rising (end_of r) rs

-- the records that began
abbrev pub begun : List Sign → List Listed
begun [] = []
begun (begins_record r ∷ xs) = r ∷ begun xs
begun (body_octet x ∷ xs) = begun xs
begun (record_ended ∷ xs) = begun xs
begun (ends_file ∷ xs) = begun xs
begun (stopped_by e ∷ xs) = begun xs

-- whether the record whose body these octets go on with ended
abbrev pub ends : List Sign → Bool
ends [] = false
ends (begins_record r ∷ xs) = false
ends (body_octet x ∷ xs) = ends xs
ends (record_ended ∷ xs) = true
ends (ends_file ∷ xs) = false
ends (stopped_by e ∷ xs) = false

-- the records that ended: their trailer was taken
abbrev pub ended : List Sign → List Listed
ended [] = []
ended (begins_record r ∷ xs) = when ends xs then r ∷ ended xs else ended xs
ended (body_octet x ∷ xs) = ended xs
ended (record_ended ∷ xs) = ended xs
ended (ends_file ∷ xs) = ended xs
ended (stopped_by e ∷ xs) = ended xs
