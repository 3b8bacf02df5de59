-- A pass over the fields of a lent table. Assumes nothing.
use mathlib.Core.Path.{◌≡◌, sym, ap, ◌∙◌}
use mathlib.Core.List.{List, ◌∷◌}
use Prim.Native.Nat.{ℕ, ◌+◌, ◌≤◌, ◌<◌}
use native.Mathlib.Omega.{arith}
use lib.ListN.{length, get_or, take, drop}
use Rattle.maps.specs.Places.{no_field}
use Rattle.maps.specs.declared.Field.{Field}
use Rattle.lookups.proofs.SeekLaws.{live_cons, live_end}
use Rattle.openings.specs.Sights.{spots_at, spotted}
use Rattle.openings.specs.declared.Sights.{Sights}
use Rattle.openings.proofs.SightLaws.{Passing, passing_end}
use Rattle.lent.specs.Table.{field_at, table_of}
use Rattle.lent.proofs.LentLaws.{fields_length, fields_at}

module _ (t : List ℕ) (n i : ℕ) (h : n ≤ 256) where
  -- the field i is next
  pub table_next : i < n → drop i (take n (table_of t)) ≡ field_at t i ∷ drop (i + 1) (take n (table_of t))
  table_next k =
      let w : n ≤ length (table_of t) = rw (fields_length t 0 256) h in
      live_cons (table_of t) n i w k ∙ ap (λ (x : Field). x ∷ drop (i + 1) (take n (table_of t))) (fields_at t 256 i (omega (arith, h, k)))

-- the two values at the end of a pass
pub spots_end : (b s t : List ℕ) (n i : ℕ) (z : Sights) → Passing b s (take n (table_of t)) z i → n ≤ i → (x y : Field) → x ≡ field_at t z.length.at → y ≡ field_at t z.kind.at
    → record { lengths = z.length.times; length = x.value; kinds = z.kind.times; kind = y.value } ≡ spotted b s (table_of t) n
unfolding spotted
spots_end b s t n i z p h x y e f =
    let near : z.length.at < 256 = omega (arith, p.near) in
    let far : z.kind.at < 256 = omega (arith, p.far) in
    let u : x ≡ get_or (table_of t) z.length.at no_field = e ∙ sym (fields_at t 256 z.length.at near) in
    let v : y ≡ get_or (table_of t) z.kind.at no_field = f ∙ sym (fields_at t 256 z.kind.at far) in
    rw (u, v) (ap (spots_at (table_of t)) (sym (passing_end b s (take n (table_of t)) z i p (live_end (table_of t) n i h))))
