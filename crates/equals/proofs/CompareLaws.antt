-- What compare gives, case by case. Assumes nothing.
use Rattle.std.specs.Prelude.{Err, Ok}
use mathlib.Core.Path.{◌≡◌, refl, sym, ap, ◌∙◌}
use mathlib.Core.Bool.{Bool, true, false, ◌&&◌}
use mathlib.Core.List.{List, map}
use Prim.Native.Nat.{ℕ, ◌≤◌}
use native.Mathlib.Omega.{arith}
use lib.ListN.{length, take, length-map}
use lib.Seq.{length-take-le}
use Rattle.leaves.specs.Choice.{when◌then◌else◌}
use Rattle.leaves.proofs.ChoiceLaws.{and_false}
use Rattle.maps.specs.Good.{checked_done, live}
use Rattle.maps.specs.declared.HeaderMap.{HeaderMap}
use Rattle.leaves.specs.declared.refusals.Refusal.{Refusal}
use Rattle.maps.specs.Said.{pair_at, status_at, saying}
use Rattle.equals.specs.Equal.{same_pairs, same_status, same_said, comparing}
use Rattle.equals.proofs.PairLaws.{pairs_apart}

-- by cases of the call
module _ (m : HeaderMap) (b s : List ℕ) (k : HeaderMap) (c z : List ℕ) where
  pub first_refused : (x : Refusal) → Err x ≡ checked_done m b s → Err x ≡ comparing m b s k c z
  unfolding comparing
  first_refused x e = rw (sym e)

  module _ (e : Ok tt ≡ checked_done m b s) where
    pub second_refused : (x : Refusal) → Err x ≡ checked_done k c z → Err x ≡ comparing m b s k c z
    unfolding comparing
    second_refused x f = rw (sym e, sym f)

    module _ (f : Ok tt ≡ checked_done k c z) where
      no_by : same_said (saying m b s) (saying k c z) ≡ false → Ok false ≡ comparing m b s k c z
      unfolding comparing when◌then◌else◌
      no_by h = rw (sym e, sym f, h)

      yes_by : same_said (saying m b s) (saying k c z) ≡ true → Ok true ≡ comparing m b s k c z
      unfolding comparing when◌then◌else◌
      yes_by h = rw (sym e, sym f, h)

      said : (p q : Bool) → same_status (status_at b s m.status) (status_at c z k.status) ≡ p → same_pairs (map (pair_at b s) (live m)) (map (pair_at c z) (live k)) ≡ q
          → same_said (saying m b s) (saying k c z) ≡ p && q
      unfolding same_said saying
      said p q g h = rw (g, h)

      pub status_differs : same_status (status_at b s m.status) (status_at c z k.status) ≡ false → Ok false ≡ comparing m b s k c z
      status_differs g = no_by (said false _ g refl)

      pub counts_differ : length m.table ≡ 256 → length k.table ≡ 256 → m.fields ≤ 256 → k.fields ≤ 256 → (m.fields ≡ k.fields → ⊥) → Ok false ≡ comparing m b s k c z
      counts_differ l₁ l₂ n₁ n₂ h =
          let p : length (live m) ≡ m.fields = length-take-le m.fields m.table (omega arith) in
          let q : length (live k) ≡ k.fields = length-take-le k.fields k.table (omega arith) in
          let d = pairs_apart (map (pair_at b s) (live m)) (map (pair_at c z) (live k)) (λ x. h (sym p ∙ sym (length-map (live m) (pair_at b s)) ∙ x ∙ length-map (live k) (pair_at c z) ∙ q)) in
          no_by (said _ false refl d ∙ and_false (same_status (status_at b s m.status) (status_at c z k.status)) false refl)

      module _ (g : same_status (status_at b s m.status) (status_at c z k.status) ≡ true) (h : m.fields ≡ k.fields) where
        pairs_are : (r : Bool) → r ≡ same_pairs (map (pair_at b s) (take m.fields m.table)) (map (pair_at c z) (take m.fields k.table)) → same_pairs (map (pair_at b s) (live m)) (map (pair_at c z) (live k)) ≡ r
        pairs_are r d = ap (λ (n : ℕ). same_pairs (map (pair_at b s) (live m)) (map (pair_at c z) (take n k.table))) (sym h) ∙ sym d

        pub same_is : (r : Bool) → r ≡ same_pairs (map (pair_at b s) (take m.fields m.table)) (map (pair_at c z) (take m.fields k.table)) → Ok r ≡ comparing m b s k c z
        same_is true d = yes_by (said true true g (pairs_are true d))
        same_is false d = no_by (said true false g (pairs_are false d))
