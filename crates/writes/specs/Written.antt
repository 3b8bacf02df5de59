-- The written form of a map, and what the calls that write give. Assumes nothing.
use Rattle.std.specs.Prelude.{◌≡◌, Bool, true, false, List, [], ◌∷◌, ◌++◌, ℕ, ◌+◌, ltb, length, take, Err, None, Ok, Option, Result, Some}
use Rattle.leaves.specs.Choice.{when◌then◌else◌}
use Rattle.leaves.specs.Paste.{pasted, lay}
use Rattle.leaves.specs.declared.refusals.Refusal.{Refusal}
use Rattle.leaves.specs.Refusals.{refusal}
use Rattle.maps.specs.Good.{checked_done, unless}
use Rattle.maps.specs.declared.HeaderMap.{HeaderMap}
use Rattle.maps.specs.Said.{Pair, Said, saying}

abbrev pub crlf : List ℕ
crlf = 13 ∷ 10 ∷ []

-- "the key, colon, space (all three only if the key is non-empty), value"
abbrev pub labelled : List ℕ → List ℕ → List ℕ
labelled [] v = v
labelled (k ∷ ks) v = k ∷ ks ++ 58 ∷ 32 ∷ v

-- "per field the key, colon, space (all three only if the key is non-empty), value, CR LF"
unfoldable pub pair_line : List ℕ → List ℕ → List ℕ
pair_line k v = labelled k v ++ crlf

unfoldable pub pair_lines : List Pair → List ℕ
pair_lines [] = []
pair_lines (p ∷ ps) = pair_line p.key p.value ++ pair_lines ps

-- "status and CR LF if the status is non-empty"
unfoldable pub status_line : Option (List ℕ) → List ℕ
status_line None = []
status_line (Some []) = []
status_line (Some (x ∷ xs)) = x ∷ xs ++ crlf

-- "it rebuilds: status and CR LF if the status is non-empty; per field the key, colon, space (all three only if the key is
-- non-empty), value, CR LF; then CR LF"
unfoldable pub rebuilt : Said → List ℕ
rebuilt m = status_line m.status ++ (pair_lines m.pairs ++ crlf)

-- "unedited and non-empty"
abbrev pub untouched : Bool → ℕ → Bool
untouched true n = false
untouched false n = ltb 0 n

-- "Write gives the block untouched if unedited and non-empty. Otherwise it rebuilds"
unfoldable pub written : HeaderMap → List ℕ → List ℕ → List ℕ
written m b s = when untouched m.edited m.count then take m.count b else rebuilt (saying m b s)

-- what a call that writes gives: the answer, and the output at its end
pub record Writing : Type 0 where
  pub result : Result ℕ Refusal
  pub out : List ℕ

abbrev pub refuses : List ℕ → Refusal → Writing
refuses d x = record { result = Err x; out = d }

-- "8 output shorter than the written form"; "Both answer the count; output past it stays."
unfoldable pub giving : List ℕ → List ℕ → Writing
giving d t = when ltb (length d) (length t) then refuses d (refusal 8) else record { result = Ok (length t); out = lay d t }

-- "A rebuild call always rebuilds."
unfoldable pub rebuilding : HeaderMap → List ℕ → List ℕ → List ℕ → Writing
rebuilding m b s d = unless (checked_done m b s) (refuses d) (giving d (rebuilt (saying m b s)))

unfoldable pub writing : HeaderMap → List ℕ → List ℕ → List ℕ → Writing
writing m b s d = unless (checked_done m b s) (refuses d) (giving d (written m b s))

-- the form of both contracts: the block and the store are only read, the answer and the output are those of one definition
pub record IsWritten (g : Writing) (r : Result ℕ Refusal) (d : List ℕ) : Type 0 where
  pub result : r ≡ g.result
  pub out : d ≡ g.out

-- d₀ became d, with the text t at the place at, which ends at r
pub record Put (d₀ d : List ℕ) (at r : ℕ) (t : List ℕ) : Type 0 where
  pub ends : r ≡ at + length t
  pub is : d ≡ pasted d₀ at t
