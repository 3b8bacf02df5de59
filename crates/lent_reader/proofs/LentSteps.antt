-- The last field of a lent table. Assumes nothing.
use mathlib.Core.Path.{◌≡◌}
use mathlib.Core.List.{List}
use Prim.Native.Nat.{ℕ, ◌-◌, ◌<◌}
use native.Mathlib.Omega.{arith}
use Rattle.maps.specs.declared.Field.{Field}
use Rattle.maps.specs.declared.Head.{Head}
use Rattle.maps.specs.declared.HeaderMap.{HeaderMap}
use Rattle.line_reader.proofs.HeldLaws.{Held}
use Rattle.line_reader.proofs.LineSteps.{Seated, seated}
use Rattle.lent.specs.Table.{field_at, table_of, map_in}
use Rattle.lent.proofs.LentLaws.{fields_at}

-- the field that was read is the last one of the table that the numbers are
pub seated_in : {p b₀ s₀ b s : List ℕ} {m : HeaderMap} {at₀ at : ℕ} (t : List ℕ) (h : Head) → Held p m b₀ s₀ at₀ (map_in t h) b s at
    → {i : ℕ} {f : Field} → i ≡ h.fields - 1 → f ≡ field_at t i → Seated (table_of t) h f b s
seated_in t h k {i} {f} place is =
    let q : i < 256 = omega (arith, place, k.facts.few) in
    rw (is, ← fields_at t 256 i q) (seated (table_of t) h k place)
