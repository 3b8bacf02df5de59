-- The fields of a lent table, one turn of a loop after the other. Assumes nothing.
use mathlib.Core.Path.{◌≡◌, sym, ap, ◌∙◌}
use mathlib.Core.List.{List, ◌∷◌}
use Prim.Native.Nat.{ℕ, ◌+◌, ◌-◌, ◌<◌}
use native.Mathlib.Omega.{arith}
use Rattle.maps.specs.declared.Field.{Field}
use Rattle.lent.specs.Table.{field_at, fields_from}
use Rattle.lent.proofs.LentLaws.{from_cons}

module _ (t : List ℕ) (n : ℕ) where
  pub turn_start : fields_from t 0 (n - 0) ≡ fields_from t 0 n
  turn_start = let e : n - 0 ≡ n = omega arith in ap (fields_from t 0) e

  pub turn_more : (i : ℕ) (x : Field) → x ≡ field_at t i → i < n → fields_from t i (n - i) ≡ x ∷ fields_from t (i + 1) (n - (i + 1))
  turn_more i x e h = from_cons t n i h ∙ ap (λ (y : Field). y ∷ fields_from t (i + 1) (n - (i + 1))) (sym e)
