-- The resume check. Assumes nothing.
use Rattle.leaves.specs.declared.refusals.Refusal.{Refusal}
use Rattle.std.specs.Prelude.{Bool, false, ◌≡◌, List, [], ◌∷◌, ℕ, eqb, length, Err, None, Ok, Option, Result, Some}
use Rattle.leaves.specs.Choice.{when◌then◌else◌}
use Rattle.leaves.specs.Octets.{octets, same_list}
use Rattle.maps.specs.Good.{checked_done, unless}
use Rattle.maps.specs.declared.HeaderMap.{HeaderMap}
use Rattle.maps.specs.Said.{Said, text_of, saying}
use Rattle.codes.specs.Line.{status_code}
use Rattle.codes.specs.Codes.{coding}
use Rattle.singles.specs.Single.{values_of, only_value}
use Rattle.resume.specs.declared.Verdict.{Verdict}
use Rattle.resume.specs.Answers.{answer}

-- not "3 if the second status code isn't 206"
abbrev pub is_partial : Result (Option ℕ) Refusal → Bool
is_partial (Ok (Some n)) = eqb n 206
is_partial (Ok None) = false
is_partial (Err x) = false

-- the value of the only `ETag`, else no octets
abbrev pub tag_of : Said → List ℕ
tag_of x = only_value (octets "ETag") x

-- "1 if either map has not exactly one `ETag` or an empty one; else 2 if the two values differ in any octet; else 0, append"
unfoldable pub tagged : List ℕ → List ℕ → Result Verdict Refusal
tagged x y =
    when eqb (length x) 0 then answer 1
    else when eqb (length y) 0 then answer 1
    else when same_list x y then answer 0
    else answer 2

-- "Resume compares two Done maps"; "With two maps the first is checked whole before the second."
unfoldable pub resuming : HeaderMap → List ℕ → List ℕ → HeaderMap → List ℕ → List ℕ → Result Verdict Refusal
resuming m b s k c z =
    unless (checked_done m b s) Err (unless (checked_done k c z) Err
    (when is_partial (coding k c z) then tagged (tag_of (saying m b s)) (tag_of (saying k c z)) else answer 3))

-- "append": of what two maps say the second has the code 206, and each has exactly one `ETag`, not empty, the same octets
pub record Appends (x y : Said) : Type 0 where
  pub code : status_code (text_of y.status) ≡ Some 206
  pub tag : List ℕ
  pub first : values_of (octets "ETag") x.pairs ≡ tag ∷ []
  pub second : values_of (octets "ETag") y.pairs ≡ tag ∷ []
  pub not_empty : tag ≡ [] → ⊥
