-- The grammar of a header. Assumes nothing.
use Rattle.std.specs.Prelude.{◌≡◌, Bool, true, false, ◌&&◌, ◌||◌, List, [], ◌∷◌, ◌++◌, ℕ, eqb}
use Rattle.leaves.specs.Class.{token, text}
use Rattle.leaves.specs.Octets.{octets, all, same_list}
use Rattle.writes.specs.Written.{crlf}

-- a folded line: what it begins with, and its text
pub record Fold : Type 0 where
  pub lead : ℕ
  pub text : List ℕ

-- a field with its folded lines
pub record Entry : Type 0 where
  pub key : List ℕ
  pub text : List ℕ
  pub folds : List Fold

-- a header: what its first line says, and its fields
pub record Header : Type 0 where
  pub version : List ℕ
  pub entries : List Entry

-- "folded lines of space or tab and text"
unfoldable pub is_fold : Fold → Bool
is_fold f = (eqb f.lead 32 || eqb f.lead 9) && all text f.text

unfoldable pub are_folds : List Fold → Bool
are_folds [] = true
are_folds (f ∷ fs) = is_fold f && are_folds fs

-- "Token, never empty"
unfoldable pub is_token : List ℕ → Bool
is_token [] = false
is_token (x ∷ xs) = all token (x ∷ xs)

-- "fields of token, colon, text, CR LF, with folded lines"
unfoldable pub is_entry : Entry → Bool
is_entry e = is_token e.key && (all text e.text && are_folds e.folds)

-- "any number of fields"
unfoldable pub are_entries : List Entry → Bool
are_entries [] = true
are_entries (e ∷ es) = is_entry e && are_entries es

-- "`WARC/1.0` or `WARC/1.1`"
unfoldable pub is_header : Header → Bool
is_header h = (same_list h.version (octets "WARC/1.0") || same_list h.version (octets "WARC/1.1")) && are_entries h.entries

-- the octets of folded lines, of fields and of a header
unfoldable pub fold_lines : List Fold → List ℕ
fold_lines [] = []
fold_lines (f ∷ fs) = f.lead ∷ (f.text ++ (crlf ++ fold_lines fs))

unfoldable pub entry_lines : List Entry → List ℕ
entry_lines [] = []
entry_lines (e ∷ es) = e.key ++ 58 ∷ (e.text ++ (crlf ++ (fold_lines e.folds ++ entry_lines es)))

unfoldable pub header_lines : Header → List ℕ
header_lines h = h.version ++ (crlf ++ (entry_lines h.entries ++ crlf))

-- "Grammatical: `WARC/1.0` or `WARC/1.1`, CR LF; any number of fields of token, colon, text, CR LF, with folded lines of space or tab
-- and text; then CR LF. Token, never empty .. Text, maybe empty"
pub record Grammatical (l : List ℕ) : Type 0 where
  pub header : Header
  pub right : is_header header ≡ true
  pub is : l ≡ header_lines header
