-- Text written over a part of a list: the rest of the list stays. Assumes nothing.
use Rattle.std.specs.Prelude.{List, ◌++◌, ℕ, ◌+◌, length, take, drop}

-- the list d with the list s written over it from the place at on
unfoldable pub pasted : List ℕ → ℕ → List ℕ → List ℕ
pasted d at s = take at d ++ (s ++ drop (at + length s) d)

-- the list l with xs written over its start
abbrev pub lay {ℓ} : {A : Type ℓ} → List A → List A → List A
lay l xs = xs ++ drop (length xs) l
