-- Laws of octets i to before j of a text, as far as it has them. Assumes nothing.
use mathlib.Core.Path.{◌≡◌, sym, ◌∙◌}
use mathlib.Core.List.{List, []}
use Prim.Native.Nat.{ℕ, ◌+◌, ◌-◌, ◌≤◌}
use native.Mathlib.Omega.{arith}
use lib.ListN.{length, take, drop, length-drop, length-take, drop_of_length-le}
use lib.Seq.{take_all, take-nil}
use Rattle.maps.specs.Places.{Within, Same, begins, cut_from, part_at}
use Rattle.maps.specs.declared.Place.{Place}
use Rattle.maps.specs.declared.Place.TheVariants.{Block, Store}

pub none_between : (l : List ℕ) (j : ℕ) → take (j - j) l ≡ []
none_between l j =
    let z : j - j ≡ 0 = omega arith in
    rw z

module _ (s : List ℕ) (i j : ℕ) where
  pub none_past : length s ≤ i → take (j - i) (drop i s) ≡ []
  none_past h = rw (drop_of_length-le s h) (take-nil (j - i))

  pub none_reversed : j ≤ i → take (j - i) (drop i s) ≡ []
  none_reversed h =
      let z : j - i ≡ 0 = omega arith in
      rw z

  pub all_past : length s ≤ j → take (length s - i) (drop i s) ≡ take (j - i) (drop i s)
  all_past h =
      take_all (length s - i) (drop i s) (simp length-drop (omega arith)) ∙
      sym (take_all (j - i) (drop i s) (simp length-drop (omega arith)))

  pub part_small : (m : ℕ) → j ≤ m → length (take (j - i) (drop i s)) ≤ m
  part_small m h = simp length-take (omega arith)

cut_begins : (s : List ℕ) (n a e : ℕ) → a ≤ e → e ≤ length s → n + cut_from s a e ≡ n + a
unfolding cut_from
cut_begins s n a e h k = omega arith

-- the octets at a place in its text begin at its start
pub within_begins : (b s : List ℕ) (x y z : ℕ × ℕ) (p : Place) → Within b s p → Same z (part_at b s x y p) → Same z (begins x y p)
within_begins b s x y z (Block a e) w h = (h.0, h.1 ∙ cut_begins b x.1 a.0 e.0 w.0 w.1)
within_begins b s x y z (Store a e) w h = (h.0, h.1 ∙ cut_begins s y.1 a.0 e.0 w.0 w.1)
