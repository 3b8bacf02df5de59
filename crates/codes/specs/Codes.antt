-- What the calls for status code, reason, content length and record type give. Assumes nothing.
use Rattle.leaves.specs.declared.refusals.Refusal.{Refusal}
use Rattle.std.specs.Prelude.{◌≡◌, List, [], ℕ, ◌+◌, Bool, Err, None, Ok, Option, Result, Some, is_some, unwrap_or}
use Rattle.standard.specs.Names.{name_of}
use Rattle.leaves.specs.Number.{content_length}
use Rattle.standard.specs.Types.{type_code}
use Rattle.standard.specs.declared.names.WarcHeader.TheVariants.{WarcType, ContentLength}
use Rattle.maps.specs.Good.{checked_done, unless}
use Rattle.maps.specs.Places.{Same}
use Rattle.maps.specs.declared.HeaderMap.{HeaderMap}
use Rattle.lookups.specs.Lookups.{finding, status_place, value_place, handed_out, handed_at}
use Rattle.codes.specs.Line.{status_code, reason_start, reason_phrase}

-- the status that a lookup hands out, empty without one
abbrev pub status_text : HeaderMap → List ℕ → List ℕ → List ℕ
status_text m b s = handed_out b s (status_place m b s)

unfoldable pub coding : HeaderMap → List ℕ → List ℕ → Result (Option ℕ) Refusal
coding m b s = unless (checked_done m b s) Err (Ok (status_code (status_text m b s)))

-- whether there is a reason: an empty one is one
unfoldable pub reasoning : HeaderMap → List ℕ → List ℕ → Result Bool Refusal
reasoning m b s = unless (checked_done m b s) Err (Ok (is_some (reason_phrase (status_text m b s))))

-- where the reason begins in memory, the block being lent at x and the status lying at w
abbrev pub phrase_at : ℕ × ℕ → ℕ × ℕ → Option ℕ → ℕ × ℕ
phrase_at x w None = x
phrase_at x w (Some k) = (w.0, w.1 + k)

-- the reason was handed out as the octets r, at z: "the empty part at the start of the block" without one or for a refusal
pub record Phrased (m : HeaderMap) (b s : List ℕ) (x y : ℕ × ℕ) (r : List ℕ) (z : ℕ × ℕ) : Type 0 where
  pub is : r ≡ unwrap_or (reason_phrase (status_text m b s)) []
  pub lies : Same z (phrase_at x (handed_at x y (status_place m b s)) (reason_start (status_text m b s)))

-- by what a lookup found: the content length of the value
abbrev pub length_told : HeaderMap → List ℕ → List ℕ → Result (Option ℕ) Refusal → Result (Option ℕ) Refusal
length_told m b s (Ok (Some i)) = Ok (Some (content_length (handed_out b s (value_place m b s i))))
length_told m b s (Ok None) = Ok None
length_told m b s (Err x) = Err x

-- the content length of the first `Content-Length`
unfoldable pub length_of : HeaderMap → List ℕ → List ℕ → Result (Option ℕ) Refusal
length_of m b s = length_told m b s (finding m b s (name_of ContentLength) 0)

-- "no field 0"
abbrev pub kind_told : HeaderMap → List ℕ → List ℕ → Result (Option ℕ) Refusal → Result ℕ Refusal
kind_told m b s (Ok (Some i)) = Ok (type_code (handed_out b s (value_place m b s i)))
kind_told m b s (Ok None) = Ok 0
kind_told m b s (Err x) = Err x

-- "the first `WARC-Type` counts"
unfoldable pub kind_of : HeaderMap → List ℕ → List ℕ → Result ℕ Refusal
kind_of m b s = kind_told m b s (finding m b s (name_of WarcType) 0)
