-- A field put into a lent table, later matches dropped. Assumes nothing.
use mathlib.Core.Path.{◌≡◌, ap, ◌∙◌}
use mathlib.Core.Bool.{Bool}
use mathlib.Core.List.{List, ◌++◌}
use Prim.Native.Nat.{ℕ, zero, suc, ◌+◌, ◌≤◌, ◌<◌}
use native.Mathlib.Omega.{arith}
use lib.ListN.{length, set, take, drop}
use lib.Seq.{take-set-lt}
use Rattle.maps.specs.Good.{Fit, lies_in_store, FitAll, fit_none, fit_more, live, Ready}
use Rattle.maps.specs.declared.Field.{Field}
use Rattle.maps.specs.declared.HeaderMap.{HeaderMap}
use Rattle.maps.proofs.FitLaws.{all_mono}
use Rattle.edits.specs.Fields.{keeps, put_at, laid}
use Rattle.edits.specs.declared.tables.Kept.{Kept}
use Rattle.edits.specs.Edits.{new_field}
use Rattle.edits.proofs.PutLaws.{put_last, put_inner}
use Rattle.lent.specs.Table.{table_of, field_put}
use Rattle.lent.proofs.LentLaws.{fields_length, fields_set}
use Rattle.lent_edits.specs.Lent.{kept_in}
use Rattle.lent_edits.proofs.ThinLaws.{within}

-- a good map's fields and the new field are numbers that a lent table holds
pub all_fit : {m : HeaderMap} {b s : List ℕ} → Ready m b s → FitAll 65536 65536 (live m)
all_fit {m} w =
    let c : m.count ≤ 65536 = omega (arith, w.count, w.small) in
    let k : m.mark ≤ 65536 = omega (arith, w.mark, w.most) in
    all_mono c k w.fields

pub new_fit : (mark k v : ℕ) → mark + k + v ≤ 65536 → (f : Field) → f ≡ new_field mark k v → Fit 65536 65536 f
new_fit mark k v h f e =
    rw e (record { key = lies_in_store mark (mark + k) (omega arith) (omega (arith, h)); value = lies_in_store (mark + k) (mark + k + v) (omega arith) h })

-- fields fit with one of them replaced
all_set : {b s : ℕ} {xs : List Field} (i : ℕ) {f : Field} → FitAll b s xs → Fit b s f → FitAll b s (set xs i f)
all_set i fit_none w = fit_none
all_set zero (fit_more g r) w = fit_more w r
all_set (suc i) (fit_more g r) w = fit_more g (all_set i r w)

-- in a table whose first n fields count; u is the table with the new field
module _ (new : Field) (t : List ℕ) (n i : ℕ) (long : length t ≡ 1024) (few : n ≤ 256) (inside : i < 256) (fit : Fit 65536 65536 new) (u : List ℕ) (e : u ≡ field_put t i new) where
  is_set : table_of u ≡ set (table_of t) i new
  is_set = ap table_of e ∙ fields_set t i new long inside fit

  there : i < length (table_of t)
  there = rw (fields_length t 0 256) inside

  pub still_fit : FitAll 65536 65536 (take n (table_of t)) → i + 1 ≤ n → FitAll 65536 65536 (take n (table_of u))
  still_fit all l =
      let k : i < n = omega (arith, l) in
      rw (is_set, take-set-lt n (table_of t) i new k) (all_set i all fit)

  module _ (p : Field → Bool) (h : i ≤ n) where
    pub at_the_end : n < i + 1 → kept_in u (i + 1) ≡ laid (table_of t) (put_at p new i (take n (table_of t)))
    at_the_end l = rw is_set (put_last p new (table_of t) n i (within t n few) h there l)

    pub among_them : i + 1 ≤ n → (r : Kept) → r ≡ laid (table_of u) (take (i + 1) (table_of u) ++ keeps p (drop (i + 1) (take n (table_of u))))
        → r ≡ laid (table_of t) (put_at p new i (take n (table_of t)))
    among_them l r d = put_inner p new (table_of t) n i (within t n few) h there l r (rw is_set at d)
