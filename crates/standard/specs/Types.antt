-- Record types. Assumes nothing.
use Rattle.std.specs.Prelude.{cond, List, [], ◌∷◌, ℕ}
use Rattle.leaves.specs.Octets.{octets}
use Rattle.leaves.specs.Name.{same_name}

-- a type's name and its code
pub record TypeName : Type 0 where
  pub name : List ℕ
  pub code : ℕ

-- "warcinfo 2, response 4, resource 8, request 16, metadata 32, revisit 64, conversion 128, continuation 256"
unfoldable pub kinds : List TypeName
kinds =
    record { name = octets "warcinfo"; code = 2 } ∷
    record { name = octets "response"; code = 4 } ∷
    record { name = octets "resource"; code = 8 } ∷
    record { name = octets "request"; code = 16 } ∷
    record { name = octets "metadata"; code = 32 } ∷
    record { name = octets "revisit"; code = 64 } ∷
    record { name = octets "conversion"; code = 128 } ∷
    record { name = octets "continuation"; code = 256 } ∷ []

unfoldable pub code_among : List TypeName → List ℕ → ℕ
code_among [] s = 32768
code_among (k ∷ ks) s = cond (same_name s k.name) k.code (code_among ks s)

-- "another name 32768"; "Case is ignored"
abbrev pub type_code : List ℕ → ℕ
type_code s = code_among kinds s
