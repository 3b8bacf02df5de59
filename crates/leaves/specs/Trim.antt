-- Blanks, and the blank-free part of a line. Assumes nothing.
use Rattle.std.specs.Prelude.{◌≡◌, Bool, true, false, cond, List, [], ◌∷◌, ℕ, zero, suc, ◌+◌, ◌-◌, ◌≤◌, min, length, take, drop}
use Rattle.leaves.specs.Class.{blank}
use Rattle.leaves.specs.declared.trims.Span.{Span}

-- how many blanks a line begins with
unfoldable pub leading : List ℕ → ℕ
leading [] = 0
leading (x ∷ xs) = cond (blank x) (suc (leading xs)) 0

-- one more octet in front of a line whose last octet that is no blank ends at n, 0 where it has none
abbrev pub end_after : Bool → ℕ → ℕ
end_after true zero = 0
end_after false zero = 1
end_after true (suc n) = suc (suc n)
end_after false (suc n) = suc (suc n)

-- the place after the last octet that is no blank, 0 where there is none
unfoldable pub trim_end : List ℕ → ℕ
trim_end [] = 0
trim_end (x ∷ xs) = end_after (blank x) (trim_end xs)

-- the place of the first octet that is no blank, 0 where there is none
unfoldable pub trim_start : List ℕ → ℕ
trim_start s = min (leading s) (trim_end s)

-- where the blank-free part of a line lies in it
abbrev pub trim_span : List ℕ → Span
trim_span s = record { start = trim_start s; «end» = trim_end s }

-- the blank-free part of a line
abbrev pub trimmed : List ℕ → List ℕ
trimmed s = take (trim_end s - trim_start s) (drop (trim_start s) s)

-- what trim_bounds says of its answer: the span, and that it can be taken of the line
pub record Trimming (s : List ℕ) (r : Span) : Type 0 where
  pub is : r ≡ trim_span s
  pub order : r.start ≤ r.«end»
  pub within : r.«end» ≤ length s

-- what trim says of its answer: the octets r, at z, of the line s, which lies at x; a blank line's are the empty part at its start
pub record Trimmed (s : List ℕ) (x : ℕ × ℕ) (r : List ℕ) (z : ℕ × ℕ) : Type 0 where
  pub is : r ≡ trimmed s
  pub lies : (z.0 ≡ x.0) × (z.1 ≡ x.1 + trim_start s)
