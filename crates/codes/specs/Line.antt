-- The code and the reason that a status line's text says. Assumes nothing.
use Rattle.std.specs.Prelude.{Bool, ◌&&◌, List, [], ◌∷◌, ℕ, ◌+◌, eqb, leb, ltb, length, take, drop, None, Option, Some}
use Rattle.leaves.specs.Choice.{when◌then◌else◌}
use Rattle.leaves.specs.Number.{decimal, is_decimal}
use Rattle.leaves.specs.Octets.{octets, before, same_list}

-- "status starts with `HTTP/`"
unfoldable pub is_http : List ℕ → Bool
is_http s = same_list (take 5 s) (octets "HTTP/")

-- the place behind the first space from the place k on, none without one
unfoldable pub behind_space : ℕ → List ℕ → Option ℕ
behind_space k s = when ltb (k + before 32 (drop k s)) (length s) then Some (k + before 32 (drop k s) + 1) else None

-- what is told of a place, if there is one
abbrev pub thence : {A : Type 0} → Option ℕ → (ℕ → Option A) → Option A
thence None f = None
thence (Some k) f = f k

-- the text up to the first space
abbrev pub until_space : List ℕ → List ℕ
until_space s = take (before 32 s) s

-- "an optional `+`"
unfoldable pub without_plus : List ℕ → List ℕ
without_plus [] = []
without_plus (x ∷ xs) = when eqb x 43 then xs else x ∷ xs

-- "one or more digits, at most 65,535; else none"
unfoldable pub small_number : List ℕ → Option ℕ
small_number s = when is_decimal s && leb (decimal s) 65535 then Some (decimal s) else None

-- "Status code: status starts with `HTTP/`; second space-separated part, an optional `+`, one or more digits, at most 65,535; else
-- none."
unfoldable pub status_code : List ℕ → Option ℕ
status_code s = when is_http s then thence (behind_space 0 s) (λ k. small_number (without_plus (until_space (drop k s)))) else None

-- where the reason starts
unfoldable pub reason_start : List ℕ → Option ℕ
reason_start s = when is_http s then thence (behind_space 0 s) (λ k. behind_space k s) else None

-- "Reason: under the same start, the rest after the second space; none without it."
abbrev pub reason_phrase : List ℕ → Option (List ℕ)
reason_phrase s = thence (reason_start s) (λ k. Some (drop k s))
