-- Maps that compare the same are those that say the same. Assumes nothing.
use Rattle.std.specs.Prelude.{None, Option, Some}
use mathlib.Core.Path.{◌≡◌, refl, sym, ap, ◌∙◌}
use mathlib.Core.Bool.{true, ◌&&◌, false≢true}
use mathlib.Core.List.{List, [], ◌∷◌}
use Prim.Native.Nat.{ℕ}
use Rattle.leaves.proofs.ChoiceLaws.{and_left, and_right}
use Rattle.leaves.specs.Octets.{same_list}
use Rattle.leaves.proofs.NameLaws.{same_list_refl, same_list_eq}
use Rattle.maps.specs.Said.{Pair, Said}
use Rattle.maps.proofs.SaidLaws.{pair_same, said_same}
use Rattle.equals.specs.Equal.{same_pairs, same_status, same_said}

pairs_eq : (ps qs : List Pair) → same_pairs ps qs ≡ true → ps ≡ qs
unfolding same_pairs
pairs_eq [] [] e = refl
pairs_eq [] (q ∷ qs) e = absurd (false≢true e)
pairs_eq (p ∷ ps) [] e = absurd (false≢true e)
pairs_eq (p ∷ ps) (q ∷ qs) e =
    let t : (same_list p.value q.value && same_pairs ps qs) ≡ true = and_right (same_list p.key q.key) _ e in
    let k : p.key ≡ q.key = same_list_eq p.key q.key (and_left (same_list p.key q.key) _ e) in
    let v : p.value ≡ q.value = same_list_eq p.value q.value (and_left (same_list p.value q.value) (same_pairs ps qs) t) in
    let h : p ≡ q = pair_same p.key q.key p.value q.value k v in
    let r : ps ≡ qs = pairs_eq ps qs (and_right (same_list p.value q.value) (same_pairs ps qs) t) in
    rw (h, r)

pairs_refl : (ps : List Pair) → same_pairs ps ps ≡ true
unfolding same_pairs
pairs_refl [] = refl
pairs_refl (p ∷ ps) = rw (same_list_refl p.key, same_list_refl p.value) (pairs_refl ps)

status_eq : (x y : Option (List ℕ)) → same_status x y ≡ true → x ≡ y
unfolding same_status
status_eq None None e = refl
status_eq None (Some y) e = absurd (false≢true e)
status_eq (Some x) None e = absurd (false≢true e)
status_eq (Some x) (Some y) e = ap Some (same_list_eq x y e)

status_refl : (x : Option (List ℕ)) → same_status x x ≡ true
unfolding same_status
status_refl None = refl
status_refl (Some x) = same_list_refl x

pub said_eq : (x y : Said) → same_said x y ≡ true → x ≡ y
unfolding same_said
said_eq x y e =
    said_same x.status y.status x.pairs y.pairs
    (status_eq x.status y.status (and_left (same_status x.status y.status) _ e))
    (pairs_eq x.pairs y.pairs (and_right (same_status x.status y.status) _ e))

said_refl : (x : Said) → same_said x x ≡ true
unfolding same_said
said_refl x = rw (status_refl x.status) (pairs_refl x.pairs)

pub eq_said : (x y : Said) → x ≡ y → same_said x y ≡ true
eq_said x y e = ap (same_said x) (sym e) ∙ said_refl x
