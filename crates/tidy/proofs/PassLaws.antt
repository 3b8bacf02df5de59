-- Laws of one step of a pass over a block: a text and what follows it, a pair. Assumes nothing.
use Rattle.std.specs.Prelude.{None, Option, Some}
use mathlib.Core.Path.{◌≡◌, refl, sym, ap, ◌∙◌}
use mathlib.Core.Bool.{Bool, true, false, ◌&&◌, false≢true}
use mathlib.Core.List.{List, [], ◌∷◌}
use Prim.Native.Nat.{ℕ, ◌+◌, ◌-◌, ◌≤◌, ◌<◌}
use native.Mathlib.Nat.{add_assoc}
use native.Mathlib.Omega.{arith}
use borrow.Author.Tests.{ne_eqb}
use lib.ListN.{length, get_or, take, drop, length-drop, drop_of_length-le}
use lib.Seq.{drop-cons, drop-drop, take-nil}
use Rattle.leaves.proofs.ChoiceLaws.{and_left, and_right, and_false}
use Rattle.leaves.specs.Octets.{before, same_list}
use Rattle.leaves.proofs.SearchLaws.{before_here, before_not}
use Rattle.rebuilds.specs.Clean.{neat, filled}
use Rattle.rebuilds.specs.Scan.{neat_key, neat_line, after_key}
use Rattle.tidy.specs.Pass.{past, ends, behind, past_text, past_filled, past_pair}
use Rattle.tidy.proofs.TwoLaws.{two_within}

-- a place that was found
abbrev place_of : Option ℕ → ℕ
place_of (Some e) = e
place_of None = 0

abbrev is_at : Option ℕ → Bool
is_at (Some e) = true
is_at None = false

pub past_true : (t : Bool) (e v : ℕ) → Some v ≡ past t e → t ≡ true
past_true true e v h = refl
past_true false e v h = absurd (false≢true (sym (ap is_at h)))

pub past_place : (t : Bool) (e v : ℕ) → Some v ≡ past t e → v ≡ e
past_place true e v h = ap place_of h
past_place false e v h = absurd (false≢true (sym (ap is_at h)))

pub past_false : (t : Bool) (e : ℕ) → None ≡ past t e → t ≡ false
past_false true e h = absurd (false≢true (ap is_at h))
past_false false e h = refl

-- past a text
module _ (x y : ℕ) (l : List ℕ) (at : ℕ) where
  module _ (e : ℕ) (h : e ≡ at + before x (drop at l)) where
    two_there : same_list (take 2 (drop e l)) (x ∷ y ∷ []) ≡ same_list (take 2 (drop (before x (drop at l)) (drop at l))) (x ∷ y ∷ [])
    two_there = rw (h, drop-drop)

    text_there : take (e - at) (drop at l) ≡ take (before x (drop at l)) (drop at l)
    text_there = let z : e - at ≡ before x (drop at l) = omega arith in rw z

    pub text_past : same_list (take 2 (drop e l)) (x ∷ y ∷ []) ≡ true → neat (take (e - at) (drop at l)) ≡ true → Some (e + 2) ≡ past_text x y l at
    unfolding past_text ends
    text_past t n = rw (sym (ap neat text_there) ∙ n, sym two_there ∙ t, h)

    pub text_not_neat : neat (take (e - at) (drop at l)) ≡ false → None ≡ past_text x y l at
    unfolding past_text ends
    text_not_neat n = rw (sym (ap neat text_there) ∙ n)

    pub text_not_two : same_list (take 2 (drop e l)) (x ∷ y ∷ []) ≡ false → None ≡ past_text x y l at
    unfolding past_text ends
    text_not_two t = rw (and_false (neat (take (before x (drop at l)) (drop at l))) _ (sym two_there ∙ t))

  -- past a text that is not empty
  pub filled_past : at < length l → (get_or l at 0 ≡ x → ⊥) → (r : Option ℕ) → r ≡ past_text x y l at → r ≡ past_filled x y l at
  unfolding past_text past_filled
  filled_past h n r e =
      let f : filled (take (before x (drop at l)) (drop at l)) ≡ true = rw (before_not x l at h (ne_eqb (get_or l at 0) x n), drop-cons l at 0 h) in
      rw f e

  pub filled_here : at < length l → get_or l at 0 ≡ x → None ≡ past_filled x y l at
  unfolding past_filled
  filled_here h e = let f : filled (take (before x (drop at l)) (drop at l)) ≡ false = rw (before_here x l at h e) in rw f

  pub filled_end : length l ≤ at → None ≡ past_filled x y l at
  unfolding past_filled
  filled_end h =
      let f : filled (take (before x (drop at l)) (drop at l)) ≡ false = rw (drop_of_length-le l h, take-nil (before x [])) in
      rw f

  ends_within : at ≤ length l → ends x y (drop at l) ≡ true → behind x l at ≤ length l
  unfolding ends
  ends_within h e =
      let k = two_within (drop at l) (before x (drop at l)) x y (and_right (neat (take (before x (drop at l)) (drop at l))) _ e) in
      omega (arith, k, length-drop at l)

  pub filled_within : at ≤ length l → (v : ℕ) → Some v ≡ past_filled x y l at → v ≤ length l
  unfolding past_filled
  filled_within h v e =
      let f : Bool = filled (take (before x (drop at l)) (drop at l)) in
      let t = past_true (f && ends x y (drop at l)) (behind x l at) v e in
      let w = ends_within h (and_right f (ends x y (drop at l)) t) in
      let p = past_place (f && ends x y (drop at l)) (behind x l at) v e in
      omega (arith, w, p)

-- past a pair
pub line_ends : (l : List ℕ) → neat_line l ≡ ends 13 10 l
unfolding neat_line ends
line_ends l = refl

key_ends : (l : List ℕ) → neat_key l ≡ (filled (take (before 58 l) l) && ends 58 32 l)
unfolding neat_key ends
key_ends l = refl

pub after_is : (l : List ℕ) (at : ℕ) → after_key (drop at l) ≡ drop (behind 58 l at) l
after_is l at = drop-drop (before 58 (drop at l) + 2) at l ∙ ap (λ (n : ℕ). drop n l) (sym (add_assoc at (before 58 (drop at l)) 2))

module _ (l : List ℕ) (at : ℕ) where
  pub pair_past : (v : ℕ) → Some v ≡ past_filled 58 32 l at → (r : Option ℕ) → r ≡ past_text 13 10 l v → r ≡ past_pair l at
  unfolding past_filled past_text past_pair
  pair_past v e r h =
      let t = past_true (filled (take (before 58 (drop at l)) (drop at l)) && ends 58 32 (drop at l)) (behind 58 l at) v e in
      let p = past_place (filled (take (before 58 (drop at l)) (drop at l)) && ends 58 32 (drop at l)) (behind 58 l at) v e in
      rw (key_ends (drop at l), t, after_is l at, line_ends (drop (behind 58 l at) l)) (rw p at h)

  pub pair_not_key : None ≡ past_filled 58 32 l at → None ≡ past_pair l at
  unfolding past_filled past_pair
  pair_not_key e = rw (key_ends (drop at l), past_false (filled (take (before 58 (drop at l)) (drop at l)) && ends 58 32 (drop at l)) (behind 58 l at) e)

  pub pair_within : at ≤ length l → (v : ℕ) → Some v ≡ past_pair l at → v ≤ length l
  unfolding past_pair
  pair_within h v e =
      let t = past_true (neat_key (drop at l) && neat_line (after_key (drop at l))) (behind 13 l (behind 58 l at)) v e in
      let p = past_place (neat_key (drop at l) && neat_line (after_key (drop at l))) (behind 13 l (behind 58 l at)) v e in
      let k = sym (key_ends (drop at l)) ∙ and_left (neat_key (drop at l)) (neat_line (after_key (drop at l))) t in
      let w = ends_within 58 32 l at h (and_right (filled (take (before 58 (drop at l)) (drop at l))) (ends 58 32 (drop at l)) k) in
      let n = and_right (neat_key (drop at l)) (neat_line (after_key (drop at l))) t in
      let z = ends_within 13 10 l (behind 58 l at) w (sym (line_ends (drop (behind 58 l at) l)) ∙ ap neat_line (sym (after_is l at)) ∙ n) in
      omega (arith, z, p)
