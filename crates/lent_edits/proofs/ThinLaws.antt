-- One pass over a lent table that drops the fields that pass a test, and the search for the first. Assumes nothing.
use mathlib.Core.Path.{◌≡◌, sym, ap, ◌∙◌}
use mathlib.Core.Bool.{Bool, true, false}
use mathlib.Core.List.{List, ◌++◌}
use Prim.Native.Nat.{ℕ, ◌+◌, ◌≤◌, ◌<◌}
use native.Mathlib.Omega.{arith}
use lib.ListN.{length, get_or, take, drop}
use lib.Seq.{get_or-take, length-take-le}
use Rattle.maps.specs.Places.{no_field}
use Rattle.maps.specs.Good.{Fit, FitAll}
use Rattle.maps.specs.declared.Field.{Field}
use Rattle.maps.proofs.FitLaws.{fit_get}
use Rattle.edits.specs.Fields.{keeps, first_at, laid}
use Rattle.edits.proofs.KeepLaws.{Keeping, keep_start, seen, keep_drop, keep_move, keep_end, first_more, first_hit}
use Rattle.lent.specs.Table.{field_at, table_of, field_put}
use Rattle.lent.proofs.LentLaws.{fields_length, fields_at, field_length, fields_set}
use Rattle.lent_edits.specs.Lent.{kept_in}

-- the first n fields of a lent table are there, and the field i is among them
module _ (t : List ℕ) (n : ℕ) (few : n ≤ 256) where
  pub within : n ≤ length (table_of t)
  within = rw (fields_length t 0 256) few

  got : (i : ℕ) → i < n → (f : Field) → f ≡ field_at t i → f ≡ get_or (table_of t) i no_field
  got i h f e = let l : i < 256 = omega (arith, h, few) in e ∙ sym (fields_at t 256 i l)

-- the pass over the fields of the lent table t, which was t₀
pub record Thinning (p : Field → Bool) (t₀ : List ℕ) (start n : ℕ) (t : List ℕ) (k i : ℕ) : Type 0 where
  pub long : length t ≡ 1024
  pub keeping : Keeping p (table_of t₀) start n (table_of t) k i

pub thin_start : (p : Field → Bool) (t : List ℕ) (start n : ℕ) → length t ≡ 1024 → start ≤ n → Thinning p t start n t start start
thin_start p t start n l h = record { long = l; keeping = keep_start p (table_of t) start n h }

module _ (p : Field → Bool) (t₀ : List ℕ) (start n : ℕ) (few : n ≤ 256) (t : List ℕ) (k i : ℕ) (inv : Thinning p t₀ start n t k i) where
  module _ (h : i < n) (f : Field) (e : f ≡ field_at t i) where
    pub thin_drop : p f ≡ true → Thinning p t₀ start n t k (i + 1)
    thin_drop q =
        record {
          long = inv.long;
          keeping = keep_drop p (table_of t₀) start n (within t₀ n few) (table_of t) k i inv.keeping h (ap p (sym (got t n few i h f e)) ∙ q);
        }

    module _ (all : FitAll 65536 65536 (take n (table_of t₀))) where
      pub thin_fit : Fit 65536 65536 f
      thin_fit =
          let s = seen p (table_of t₀) start n (within t₀ n few) (table_of t) k i inv.keeping in
          let z : get_or (take n (table_of t₀)) i no_field ≡ f = get_or-take n (table_of t₀) i no_field h ∙ sym s ∙ sym (got t n few i h f e) in
          rw z at (fit_get all i)

      pub thin_move : p f ≡ false → (u : List ℕ) → u ≡ field_put t k f → Thinning p t₀ start n u (k + 1) (i + 1)
      thin_move q u v =
          let l : k < 256 = omega (arith, inv.keeping.order, h, few) in
          let g : f ≡ get_or (table_of t) i no_field = got t n few i h f e in
          let x : Keeping p (table_of t₀) start n (table_of (field_put t k f)) (k + 1) (i + 1) =
          rw (fields_set t k f inv.long l thin_fit, g)
          (keep_move p (table_of t₀) start n (within t₀ n few) (table_of t) k i inv.keeping h (ap p (sym g) ∙ q)) in
          rw v (record { long = field_length t k f ∙ inv.long; keeping = x })

  pub thin_end : n ≤ i → kept_in t k ≡ laid (table_of t₀) (take start (table_of t₀) ++ keeps p (drop start (take n (table_of t₀))))
  thin_end d = keep_end p (table_of t₀) start n (within t₀ n few) (table_of t) k i inv.keeping d

-- the search for the first: i fields were passed
module _ (p : Field → Bool) (t : List ℕ) (n i : ℕ) (few : n ≤ 256) (h : i < n) (f : Field) (e : f ≡ field_at t i) where
  among : i < length (take n (table_of t))
  among = rw (length-take-le n (table_of t) (within t n few)) h

  pub first_passed : p f ≡ false → i + first_at p (drop i (take n (table_of t))) ≡ i + 1 + first_at p (drop (i + 1) (take n (table_of t)))
  first_passed q = first_more p (take n (table_of t)) i among (ap p (get_or-take n (table_of t) i no_field h ∙ sym (got t n few i h f e)) ∙ q)

  pub first_found : p f ≡ true → i + first_at p (drop i (take n (table_of t))) ≡ i
  first_found q = first_hit p (take n (table_of t)) i among (ap p (get_or-take n (table_of t) i no_field h ∙ sym (got t n few i h f e)) ∙ q)
