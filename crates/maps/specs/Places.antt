-- Places, and what they say. Assumes nothing.
use Rattle.std.specs.Prelude.{◌≡◌, List, ℕ, ◌+◌, ◌-◌, ◌≤◌, min, length, take, drop, get_or}
use Rattle.maps.specs.declared.Place.{Place}
use Rattle.maps.specs.declared.Place.TheVariants.{Block, Store}
use Rattle.maps.specs.declared.Field.{Field}

-- "A place is a range of the block or a range of the store"
abbrev pub in_block : ℕ → ℕ → Place
in_block a e = Block (record { 0 = a }) (record { 0 = e })

abbrev pub in_store : ℕ → ℕ → Place
in_store a e = Store (record { 0 = a }) (record { 0 = e })

-- octets a to before e of a list
abbrev pub part : ℕ → ℕ → List ℕ → List ℕ
part a e l = take (e - a) (drop a l)

-- the octets at a place
abbrev pub at : List ℕ → List ℕ → Place → List ℕ
at b s (Block a e) = part a.0 e.0 b
at b s (Store a e) = part a.0 e.0 s

-- the place lies in its text
abbrev pub Within : List ℕ → List ℕ → Place → Type 0
Within b s (Block a e) = (a.0 ≤ e.0) × (e.0 ≤ length b)
Within b s (Store a e) = (a.0 ≤ e.0) × (e.0 ≤ length s)

-- where it begins in memory, the block being lent at x and the store at y
abbrev pub begins : ℕ × ℕ → ℕ × ℕ → Place → ℕ × ℕ
begins x y (Block a e) = (x.0, x.1 + a.0)
begins x y (Store a e) = (y.0, y.1 + a.0)

-- two places in memory are the same
abbrev pub Same : ℕ × ℕ → ℕ × ℕ → Type 0
Same z w = (z.0 ≡ w.0) × (z.1 ≡ w.1)

-- where octets a to before e of a text begin in it: at a, or if a is past e or past the text's end at the lesser of the two
unfoldable pub cut_from : List ℕ → ℕ → ℕ → ℕ
cut_from s a e = min a (min e (length s))

-- and in memory, the text being lent at x
abbrev pub cut_at : List ℕ → ℕ × ℕ → ℕ → ℕ → ℕ × ℕ
cut_at s x a e = (x.0, x.1 + cut_from s a e)

-- the octets r at z are those from a to before e of s, which lies at x
pub record Cut (s : List ℕ) (x : ℕ × ℕ) (a e : ℕ) (r : List ℕ) (z : ℕ × ℕ) : Type 0 where
  pub is : r ≡ part a e s
  pub lies : Same z (cut_at s x a e)

-- where the octets at a place begin, of one outside its text too; `PartLaws.within_begins`: at `begins` if it lies in its text
abbrev pub part_at : List ℕ → List ℕ → ℕ × ℕ → ℕ × ℕ → Place → ℕ × ℕ
part_at b s x y (Block a e) = cut_at b x a.0 e.0
part_at b s x y (Store a e) = cut_at s y a.0 e.0

-- what part says of its answer
pub record Parted (b s : List ℕ) (x y : ℕ × ℕ) (p : Place) (r : List ℕ) (z : ℕ × ℕ) : Type 0 where
  pub is : r ≡ at b s p
  pub small : length r ≤ 4294967295
  pub lies : Same z (part_at b s x y p)

-- "A field has a key place and a value place.": one that lines gave
abbrev pub read_field : Place → Place → Field
read_field key value = record { key = key; value = value }

-- one that an edit made
abbrev pub edit_field : Place → Place → Field
edit_field key value = record { key = key; value = value }

-- what stands in an entry that was never used
abbrev pub no_field : Field
no_field = record { key = in_block 0 0; value = in_block 0 0 }

-- the last field
unfoldable pub last_of : List Field → Field
last_of xs = get_or xs (length xs - 1) no_field
