-- The lines of the written form: how long they are, and where they are written. Assumes nothing.
use Rattle.std.specs.Prelude.{None, Option, Some}
use mathlib.Core.Path.{◌≡◌, refl, ap, ◌∙◌}
use mathlib.Core.List.{List, [], ◌∷◌, ◌++◌, append_assoc, map}
use Prim.Native.Nat.{ℕ, ◌+◌, ◌≤◌}
use native.Mathlib.Omega.{arith}
use lib.ListN.{length, length-append}
use Rattle.maps.specs.Places.{at}
use Rattle.maps.specs.declared.Field.{Field}
use Rattle.maps.specs.declared.Place.{Place}
use Rattle.maps.specs.Said.{pair_at, status_at}
use Rattle.writes.specs.Written.{Put, pair_line, pair_lines, status_line, crlf}
use Rattle.writes.proofs.PutLaws.{Writing, write_step, write_end}

-- a field's line
pub pair_bare : (k v : List ℕ) → length k ≡ 0 → pair_line k v ≡ v ++ crlf
unfolding pair_line
pair_bare [] v e = refl
pair_bare (x ∷ xs) v e = absurd (omega arith)

pub pair_full : (k v : List ℕ) → (length k ≡ 0 → ⊥) → pair_line k v ≡ k ++ ((58 ∷ 32 ∷ []) ++ (v ++ crlf))
unfolding pair_line
pair_full [] v e = absurd (e refl)
pair_full (x ∷ xs) v e = append_assoc (x ∷ xs) (58 ∷ 32 ∷ v) crlf

pub bare_length : (k v : List ℕ) → length k ≡ 0 → length (pair_line k v) ≡ length v + 2
bare_length k v e = ap length (pair_bare k v e) ∙ length-append v crlf

pub full_length : (k v : List ℕ) → (length k ≡ 0 → ⊥) → length (pair_line k v) ≡ length k + 2 + length v + 2
full_length k v e =
    ap length (pair_full k v e) ∙ length-append k ((58 ∷ 32 ∷ []) ++ (v ++ crlf)) ∙
    (let z : length (v ++ crlf) ≡ length v + 2 = length-append v crlf in omega arith)

pub status_bare : (t : List ℕ) → length t ≡ 0 → status_line (Some t) ≡ []
unfolding status_line
status_bare [] e = refl
status_bare (x ∷ xs) e = absurd (omega arith)

pub status_full : (t : List ℕ) → (length t ≡ 0 → ⊥) → status_line (Some t) ≡ t ++ crlf
unfolding status_line
status_full [] e = absurd (e refl)
status_full (x ∷ xs) e = refl

-- the status line, by what the status is
module _ (b s : List ℕ) (st : Option Place) where
  pub line_none : st ≡ None → status_line (status_at b s st) ≡ []
  unfolding status_line
  line_none e = rw e

  module _ (p : Place) (r : List ℕ) (e : st ≡ Some p) (f : r ≡ at b s p) where
    pub line_bare : length r ≡ 0 → status_line (status_at b s st) ≡ []
    line_bare z = rw (e, ← f) (status_bare r z)

    pub line_full : (length r ≡ 0 → ⊥) → status_line (status_at b s st) ≡ r ++ crlf
    line_full z = rw (e, ← f) (status_full r z)

    pub line_length : (length r ≡ 0 → ⊥) → length (status_line (status_at b s st)) ≡ length r + 2
    line_length z = ap length (line_full z) ∙ length-append r crlf

-- the lines of fields, all of them being x and the rest
module _ (b s : List ℕ) (x : Field) (all rest : List Field) (e : all ≡ x ∷ rest) (kt vt : List ℕ) (ke : kt ≡ at b s x.key) (ve : vt ≡ at b s x.value) where
  turn : pair_lines (map (pair_at b s) all) ≡ pair_line kt vt ++ pair_lines (map (pair_at b s) rest)
  unfolding pair_lines
  turn = rw (e, ke, ve)

  pub lines_length : length (pair_lines (map (pair_at b s) all)) ≡ length (pair_line kt vt) + length (pair_lines (map (pair_at b s) rest))
  lines_length = ap length turn ∙ length-append (pair_line kt vt) (pair_lines (map (pair_at b s) rest))

  -- one turn of the loop that writes them
  module _ (d₀ : List ℕ) (a : ℕ) (whole d : List ℕ) (k : ℕ) (inv : Writing d₀ a whole (pair_lines (map (pair_at b s) all)) d k) where
    pub fields_room : k + length (pair_line kt vt) ≤ length d
    fields_room = omega (arith, inv.room, lines_length)

    pub fields_step : (d₁ : List ℕ) (j : ℕ) → Put d d₁ k j (pair_line kt vt) → Writing d₀ a whole (pair_lines (map (pair_at b s) rest)) d₁ j
    fields_step d₁ j p = write_step d₀ a whole (pair_line kt vt) (pair_lines (map (pair_at b s) rest)) d d₁ k j (rw turn at inv) p

-- and none
module _ (b s : List ℕ) (all : List Field) (e : all ≡ []) where
  pub lines_none : pair_lines (map (pair_at b s) all) ≡ []
  unfolding pair_lines
  lines_none = rw e

  pub fields_end : (d₀ : List ℕ) (a : ℕ) (whole d : List ℕ) (k : ℕ) → a ≤ length d₀
      → Writing d₀ a whole (pair_lines (map (pair_at b s) all)) d k → Put d₀ d a k whole
  fields_end d₀ a whole d k g inv = write_end d₀ a whole d k g (rw lines_none at inv)
