-- Laws of the code and the reason of a status line's text. Assumes nothing.
use Rattle.std.specs.Prelude.{None, Option, Some}
use mathlib.Core.Path.{◌≡◌, refl, ◌∙◌}
use mathlib.Core.Bool.{Bool, true, false}
use mathlib.Core.List.{List, [], ◌∷◌}
use Prim.Native.Nat.{ℕ, ◌+◌, ◌-◌, ◌≤◌, ◌<◌, min}
use native.Mathlib.Omega.{arith}
use borrow.Author.Tests.{lt-ltb, le-ltb, ltb-true, ltb-false, le-leb, lt-leb, eq-eqb, ne_eqb}
use lib.Dec.{ltb}
use lib.ListN.{length, get_or, take, drop, length-take}
use Rattle.leaves.specs.Choice.{when◌then◌else◌}
use Rattle.leaves.proofs.ChoiceLaws.{by_if, clash}
use Rattle.leaves.specs.Number.{decimal, is_decimal, content_length}
use Rattle.leaves.specs.Octets.{octets, before, same_list}
use Rattle.leaves.proofs.NameLaws.{apart}
use Rattle.leaves.proofs.PasteLaws.{tail_all}
use Rattle.codes.specs.Line.{is_http, behind_space, thence, until_space, without_plus, small_number, status_code, reason_start}

pub http_short : (s : List ℕ) → length s < 5 → is_http s ≡ false
unfolding is_http
http_short s h = apart (take 5 s) (octets "HTTP/") (λ e. omega (arith, e, length-take 5 s, h))

pub http_is : (s : List ℕ) (t : Bool) → t ≡ same_list (take 5 s) (octets "HTTP/") → t ≡ is_http s
unfolding is_http
http_is s t e = e

-- the place behind a space
module _ (k : ℕ) (s : List ℕ) where
  module _ (i : ℕ) (e : i ≡ k + before 32 (drop k s)) where
    pub behind_hit : i < length s → behind_space k s ≡ Some (i + 1)
    unfolding behind_space when◌then◌else◌
    behind_hit h = rw (← e, lt-ltb i (length s) h)

    pub behind_none : length s ≤ i → behind_space k s ≡ None
    unfolding behind_space when◌then◌else◌
    behind_none h = rw (← e, le-ltb i (length s) h)

  pub behind_within : (j : ℕ) → behind_space k s ≡ Some j → j ≤ length s
  behind_within j e = choose (ltb (k + before 32 (drop k s)) (length s)) refl
    where
      choose : (t : Bool) → ltb (k + before 32 (drop k s)) (length s) ≡ t → j ≤ length s
      choose true f =
          let h : k + before 32 (drop k s) < length s = ltb-true _ _ f in
          let z : k + before 32 (drop k s) + 1 ≡ j = cc (behind_hit (k + before 32 (drop k s)) refl h) in
          omega (arith, z, h)
      choose false f = clash (cc (behind_none (k + before 32 (drop k s)) refl (ltb-false _ _ f)))

  pub until_space_lem : (i : ℕ) → i ≡ k + before 32 (drop k s) → take (i - k) (drop k s) ≡ until_space (drop k s)
  until_space_lem i e =
      let z : i - k ≡ before 32 (drop k s) = omega arith in
      rw z

-- an optional `+`
pub plus_empty : (s : List ℕ) → length s ≡ 0 → s ≡ without_plus s
unfolding without_plus
plus_empty [] h = refl
plus_empty (x ∷ xs) h = absurd (omega arith)

pub plus_gone : (s : List ℕ) → (length s ≡ 0 → ⊥) → get_or s 0 0 ≡ 43 → drop 1 s ≡ without_plus s
unfolding without_plus when◌then◌else◌
plus_gone [] h e = absurd (h refl)
plus_gone (x ∷ xs) h e = rw (eq-eqb x 43 e)

pub plus_tail : (s : List ℕ) → (length s ≡ 0 → ⊥) → get_or s 0 0 ≡ 43 → take (length s - 1) (drop 1 s) ≡ without_plus s
plus_tail s h e = tail_all s 1 ∙ plus_gone s h e

pub plus_kept : (s : List ℕ) → (length s ≡ 0 → ⊥) → (get_or s 0 0 ≡ 43 → ⊥) → s ≡ without_plus s
unfolding without_plus when◌then◌else◌
plus_kept [] h e = refl
plus_kept (x ∷ xs) h e = rw (ne_eqb x 43 e)

-- a number of at most 65,535
module _ (s : List ℕ) where
  pub number_none : is_decimal s ≡ false → small_number s ≡ None
  unfolding small_number when◌then◌else◌
  number_none e = rw e

  module _ (e : is_decimal s ≡ true) (n : ℕ) (f : n ≡ content_length s) where
    capped : n ≡ min (decimal s) 18446744073709551615
    unfolding content_length
    capped = f ∙ rw e

    pub number_small : n ≤ 65535 → small_number s ≡ Some n
    unfolding small_number when◌then◌else◌
    number_small h =
        let z : decimal s ≡ n = omega (arith, capped, h) in
        rw (e, z, le-leb n 65535 h)

    pub number_large : 65535 < n → small_number s ≡ None
    unfolding small_number when◌then◌else◌
    number_large h =
        let z : 65535 < decimal s = omega (arith, capped, h) in
        rw (e, lt-leb (decimal s) 65535 z)

-- the code and the reason, case by case
module _ (s : List ℕ) where
  pub code_other : is_http s ≡ false → status_code s ≡ None
  unfolding status_code when◌then◌else◌
  code_other e = rw e

  pub start_other : is_http s ≡ false → reason_start s ≡ None
  unfolding reason_start when◌then◌else◌
  start_other e = rw e

  module _ (e : is_http s ≡ true) where
    pub code_none : behind_space 0 s ≡ None → status_code s ≡ None
    unfolding status_code when◌then◌else◌
    code_none f = rw (e, f)

    pub code_at : (k : ℕ) → behind_space 0 s ≡ Some k → (t : List ℕ) → t ≡ without_plus (until_space (drop k s))
        → status_code s ≡ small_number t
    unfolding status_code when◌then◌else◌
    code_at k f t g = rw (e, f, g)

    pub start_none : behind_space 0 s ≡ None → reason_start s ≡ None
    unfolding reason_start when◌then◌else◌
    start_none f = rw (e, f)

    pub start_at : (k : ℕ) → behind_space 0 s ≡ Some k → reason_start s ≡ behind_space k s
    unfolding reason_start when◌then◌else◌
    start_at k f = rw (e, f)

  -- a reason starts in its line
  pub start_within : (k : ℕ) → reason_start s ≡ Some k → k ≤ length s
  unfolding reason_start
  start_within k e =
      by_if (λ o. o ≡ Some k → k ≤ length s) (is_http s) (thence (behind_space 0 s) (λ j. behind_space j s)) None
      (λ _. thence_within (behind_space 0 s)) (λ _ f. clash (cc)) e
    where
      thence_within : (o : Option ℕ) → thence o (λ j. behind_space j s) ≡ Some k → k ≤ length s
      thence_within None f = clash (cc)
      thence_within (Some j) f = behind_within j s k f
