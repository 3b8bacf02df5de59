-- Laws of the trimmed text: of a blank in front, of blanks behind, and where it stands in a longer text. Assumes nothing.
use mathlib.Core.Path.{◌≡◌, refl, sym, ◌∙◌, ap}
use mathlib.Core.Bool.{Bool, true, false, cond}
use mathlib.Core.List.{List, [], ◌∷◌, ◌++◌}
use Prim.Native.Nat.{ℕ, zero, suc, min, ◌+◌, ◌-◌, ◌≤◌}
use native.Mathlib.Omega.{arith}
use lib.ListN.{length, take, drop, length-take, length-drop}
use lib.Seq.{take-append-le, drop-append-le, drop-drop}
use Rattle.leaves.proofs.ChoiceLaws.{and_left, and_right}
use Rattle.leaves.specs.Class.{blank}
use Rattle.leaves.specs.Octets.{all, has}
use Rattle.leaves.specs.Trim.{leading, trim_end, trim_start, trimmed, end_after}
use Rattle.leaves.proofs.TrimLaws.{end_within}

pub trimmed_length : (l : List ℕ) → length (trimmed l) ≤ length l
trimmed_length l = simp (length-take, length-drop) (omega arith)

pub start_within : (l : List ℕ) → trim_start l ≤ trim_end l
unfolding trim_start
start_within l = omega arith

-- a blank in front goes
blank_first : (x a e : ℕ) (l : List ℕ)
    → take (end_after true e - min (suc a) (end_after true e)) (drop (min (suc a) (end_after true e)) (x ∷ l)) ≡ take (e - min a e) (drop (min a e) l)
blank_first x a zero l =
    let z : zero - min a zero ≡ 0 = omega arith in
    let y : zero - min (suc a) zero ≡ 0 = omega arith in
    rw (z, y)
blank_first x a (suc e) l =
    let y : min (suc a) (suc (suc e)) ≡ suc (min a (suc e)) = omega arith in
    let z : suc (suc e) - suc (min a (suc e)) ≡ suc e - min a (suc e) = omega arith in
    rw (y, z)

pub trim_blank : (x : ℕ) (l : List ℕ) → blank x ≡ true → trimmed (x ∷ l) ≡ trimmed l
unfolding trim_start trim_end leading
trim_blank x l e = rw e (blank_first x (leading l) (trim_end l) l)

pub trim_space : (l : List ℕ) → trimmed (32 ∷ l) ≡ trimmed l
unfolding blank has
trim_space l = trim_blank 32 l refl

-- blanks at the end go
blanks_end : (w : List ℕ) → all blank w ≡ true → trim_end w ≡ 0
unfolding trim_end all
blanks_end [] e = refl
blanks_end (x ∷ xs) e = rw (blanks_end xs (and_right (blank x) (all blank xs) e), and_left (blank x) (all blank xs) e)

end_append : (l w : List ℕ) → all blank w ≡ true → trim_end (l ++ w) ≡ trim_end l
unfolding trim_end
end_append [] w e = blanks_end w e
end_append (x ∷ xs) w e = ap (end_after (blank x)) (end_append xs w e)

start_step : (t : Bool) (a b e : ℕ) → min a e ≡ min b e → min (cond t (suc a) 0) (end_after t e) ≡ min (cond t (suc b) 0) (end_after t e)
start_step true a b zero h = omega arith
start_step true a b (suc e) h = omega arith
start_step false a b e h = refl

start_append : (l w : List ℕ) → all blank w ≡ true → trim_start (l ++ w) ≡ trim_start l
unfolding trim_start leading trim_end
start_append [] w e = rw (blanks_end w e) (omega arith)
start_append (x ∷ xs) w e = rw (end_append xs w e) (start_step (blank x) (leading (xs ++ w)) (leading xs) (trim_end xs) (rw (end_append xs w e) at (start_append xs w e)))

-- a part of the front is a part of the whole
pub part_front : (l q : List ℕ) (a e : ℕ) → a ≤ e → e ≤ length l → take (e - a) (drop a (l ++ q)) ≡ take (e - a) (drop a l)
part_front l q a e h k =
    ap (take (e - a)) (drop-append-le a l q (omega arith)) ∙ take-append-le (e - a) (drop a l) q (omega (arith, length-drop a l))

-- the trimmed text of a line that stands in a longer text at n, where the line's ends say
pub trimmed_in : (b l q : List ℕ) (n : ℕ) → drop n b ≡ l ++ q → take (n + trim_end l - (n + trim_start l)) (drop (n + trim_start l) b) ≡ trimmed l
trimmed_in b l q n e =
    let z : n + trim_end l - (n + trim_start l) ≡ trim_end l - trim_start l = omega arith in
    rw z
    (ap (take (trim_end l - trim_start l)) (sym (drop-drop (trim_start l) n b) ∙ ap (drop (trim_start l)) e) ∙
    part_front l q (trim_start l) (trim_end l) (start_within l) (end_within l))

pub trim_append : (l w : List ℕ) → all blank w ≡ true → trimmed (l ++ w) ≡ trimmed l
trim_append l w e = rw (end_append l w e, start_append l w e) (part_front l w (trim_start l) (trim_end l) (start_within l) (end_within l))

pub trim_line : (l : List ℕ) → trimmed (l ++ 13 ∷ 10 ∷ []) ≡ trimmed l
unfolding all blank has
trim_line l = trim_append l (13 ∷ 10 ∷ []) refl

-- a text that trimming leaves begins with no blank
pub first_solid : (x : ℕ) (xs : List ℕ) → trimmed (x ∷ xs) ≡ x ∷ xs → blank x ≡ false
first_solid x xs e = go (blank x) refl
  where
    go : (t : Bool) → blank x ≡ t → t ≡ false
    go false u = refl
    go true u = absurd (omega (arith, ap length (sym (trim_blank x xs u) ∙ e), trimmed_length xs))
