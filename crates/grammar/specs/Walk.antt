-- The grammar told in one walk over the octets, by where the walk stands. Assumes nothing.
use Rattle.std.specs.Prelude.{Bool, true, false, ◌&&◌, ◌||◌, List, [], ◌∷◌, ℕ, eqb, take, drop}
use Rattle.leaves.specs.Choice.{when◌then◌else◌}
use Rattle.leaves.specs.Class.{token, text}
use Rattle.leaves.specs.Octets.{octets, same_list}
use Rattle.grammar.specs.declared.Stage.{Stage}
use Rattle.grammar.specs.declared.Stage.TheVariants.{First, Line, Key, Text, Return, Closing, Over, Wrong}

-- a line begins: with a token, or as the blank line
unfoldable pub opened : ℕ → Stage
opened x = when token x then Key else when eqb x 13 then Closing else Wrong

-- a line begins behind a field: "folded lines of space or tab and text"
unfoldable pub folded : ℕ → Stage
folded x = when eqb x 32 then Text else when eqb x 9 then Text else opened x

-- inside a key: "token, colon"
unfoldable pub keyed : ℕ → Stage
keyed x = when token x then Key else when eqb x 58 then Text else Wrong

-- inside a text: "text, CR"
unfoldable pub texted : ℕ → Stage
texted x = when text x then Text else when eqb x 13 then Return else Wrong

-- behind a CR: "LF"
unfoldable pub awaited : Stage → ℕ → Stage
awaited onward x = when eqb x 10 then onward else Wrong

abbrev pub next : Stage → ℕ → Stage
next First x = opened x
next Line x = folded x
next Key x = keyed x
next Text x = texted x
next Return x = awaited Line x
next Closing x = awaited Over x
next Over x = Wrong
next Wrong x = Wrong

abbrev pub is_over : Stage → Bool
is_over First = false
is_over Line = false
is_over Key = false
is_over Text = false
is_over Return = false
is_over Closing = false
is_over Over = true
is_over Wrong = false

-- whether the walk over a list, from a stage on, ends behind the blank line
unfoldable pub walk : Stage → List ℕ → Bool
walk stage [] = is_over stage
walk stage (x ∷ xs) = walk (next stage x) xs

-- "`WARC/1.0` or `WARC/1.1`, CR LF"
unfoldable pub is_version : List ℕ → Bool
is_version l = same_list l (octets "WARC/1.0\r\n") || same_list l (octets "WARC/1.1\r\n")

unfoldable pub grammatical : List ℕ → Bool
grammatical l = is_version (take 10 l) && walk First (drop 10 l)
