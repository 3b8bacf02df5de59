-- The answers that are no refusals, each with a number of its own: 1 to 31 are kept for the refusals, and these begin at 64. Assumes nothing.
use Rattle.std.specs.Prelude.{ℕ, ◌+◌}

-- a call that has done what it was asked, or written
abbrev pub done : ℕ
done = 0

-- "Feeding answers more, ended, or a number"; "an ended reading says whether a blank line or the end of input closed it"
abbrev pub more : ℕ
more = 64

abbrev pub blank_line : ℕ
blank_line = 65

abbrev pub input_end : ℕ
input_end = 66

-- "missing or a field number"; a code, a length or a type that there is
abbrev pub found : ℕ
found = 67

abbrev pub missing : ℕ
missing = 68

-- "all answer yes or no"
abbrev pub yes : ℕ
yes = 69

abbrev pub other : ℕ
other = 70

-- "a part of the block or of the store"
abbrev pub in_the_block : ℕ
in_the_block = 71

abbrev pub in_the_store : ℕ
in_the_store = 72

-- "a record begun, a body part of the piece, end"
abbrev pub record_begun : ℕ
record_begun = 73

abbrev pub body_part : ℕ
body_part = 74

abbrev pub file_end : ℕ
file_end = 75

-- "These are answers, apart from the table.": resume's 0 to 3
abbrev pub resumes : ℕ → ℕ
resumes n = 80 + n
