-- What the code of rule 4 asks of its callers, and what it gives. Assumes nothing.
use Rattle.leaves.specs.declared.refusals.Refusal.{Refusal}
use Rattle.std.specs.Prelude.{◌≡◌, List, ℕ, ◌+◌, ◌-◌, ◌≤◌, ◌<◌, length, Ok, Result}
use Rattle.leaves.specs.Paste.{pasted}
use Rattle.folds.specs.Rule.{Ruling}
use Rattle.maps.specs.Good.{Fits}
use Rattle.maps.specs.Places.{in_block, read_field}
use Rattle.maps.specs.declared.Field.{Field}
use Rattle.folds.specs.declared.Change.{Change}
use Rattle.folds.specs.declared.Change.TheVariants.{Put}

pub record FoldReady (block store : List ℕ) (start count : ℕ) (last : Field) (fields room mark : ℕ) : Type 0 where
  pub order : start ≤ count
  pub inside : count ≤ length block
  pub small : count ≤ 65536
  pub marked : mark ≤ room
  pub roomy : room ≤ length store
  pub most : room ≤ 65536
  pub few : fields ≤ 256
  pub value : 0 < fields → Fits count mark last.value

pub record Changes (g : Ruling) (s : List ℕ) (mark : ℕ) (s' : List ℕ) (r : Result Change Refusal) : Type 0 where
  pub is : r ≡ g.change
  pub wrote : s' ≡ pasted s mark g.new

pub record Roomy (store : List ℕ) (room mark : ℕ) : Type 0 where
  pub marked : mark ≤ room
  pub long : room ≤ length store
  pub most : room ≤ 65536

pub record Folding (block store text : List ℕ) (last : Field) (fields room mark : ℕ) : Type 0 where
  pub roomy : Roomy store room mark
  pub small : length block ≤ 65536
  pub short : length text ≤ 65536
  pub value : 0 < fields → Fits (length block) mark last.value

-- the field of a line of k octets at n in the block: c octets, a colon, a space, the value, CR and LF
abbrev pub put_tight : ℕ → ℕ → ℕ → ℕ → ℕ → Result Change Refusal
put_tight n c k fields mark = Ok (Put fields (read_field (in_block n (n + c)) (in_block (n + (c + 2)) (n + (k - 2)))) mark)
