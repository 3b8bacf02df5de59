-- Laws of taking octets until a line ends. Assumes nothing.
use mathlib.Core.Path.{◌≡◌, sym, subst, ◌∙◌}
use mathlib.Core.Bool.{Bool, true, false, cond}
use mathlib.Core.List.{List, [], ◌∷◌, ◌++◌, append_assoc}
use Prim.Native.Nat.{ℕ, zero, suc, ◌+◌, ◌-◌, ◌≤◌, ◌<◌}
use native.Mathlib.Omega.{arith}
use lib.Dec.{eqb}
use lib.ListN.{length, take, drop, length-append}
use lib.Seq.{length-take-le, take_at, drop_at}
use Rattle.leaves.specs.Paste.{pasted}
use Rattle.leaves.proofs.PasteLaws.{tail_all, part_length, part_back}
use Rattle.lines.specs.Line.{taken, further, ends_line, taking, Takes}
use Rattle.lines.specs.declared.Took.{Took}
use Rattle.lines.specs.declared.Took.TheVariants.{Line, More, Full}

-- what fill_line says of a part of the block and of the piece's rest, said of the whole
pub take_back : (p d₀ : List ℕ) (from count limit : ℕ) (quirks cr b : Bool) (ys : List ℕ) (r : Took)
    → count ≤ limit → limit ≤ length d₀ → b ≡ cr
    → Takes quirks b (length (take (limit - count) (drop count d₀))) 0 (take (length p - from) (drop from p)) (take (limit - count) (drop count d₀)) ys r
    → Takes quirks cr (limit - count) count (drop from p) d₀ (take count d₀ ++ (ys ++ drop (limit - count) (drop count d₀))) r
take_back p d₀ from count limit quirks cr b ys r order within e t =
    let u = tail_all p from in
    let l = part_length d₀ count limit order within in
    let n : taken r ≤ length (drop from p) = rw u at t.within in
    let w : ys ≡ pasted (take (limit - count) (drop count d₀)) 0 (take (taken r) (drop from p)) = rw u at t.wrote in
    let f : taken r ≤ limit - count = rw l at t.fits in
    record {
      is = rw (← e, ← u, ← l) t.is;
      within = n;
      fits = f;
      wrote = part_back d₀ count limit order within (take (taken r) (drop from p)) ys (rw (length-take-le (taken r) (drop from p) n) f) w;
    }

-- what was taken stands in the block from its place on
pub taken_back : {quirks cr : Bool} {room at : ℕ} {s d₀ d : List ℕ} {r : Took} → Takes quirks cr room at s d₀ d r → at + room ≤ length d₀
    → drop at (take (at + taken r) d) ≡ take (taken r) s
unfolding pasted
taken_back {quirks} {cr} {room} {at} {s} {d₀} {d} {r} t fits =
    let new = take (taken r) s in
    let n : length new ≡ taken r = length-take-le (taken r) s t.within in
    let m : length (take at d₀) ≡ at = length-take-le at d₀ (omega arith) in
    let l : length (take at d₀ ++ new) ≡ at + taken r = length-append (take at d₀) new ∙ rw (m, n) in
    let q : d ≡ (take at d₀ ++ new) ++ drop (at + length new) d₀ = t.wrote ∙ sym (append_assoc (take at d₀) new (drop (at + length new) d₀)) in
    rw (q, take_at (take at d₀ ++ new) (drop (at + length new) d₀) (at + taken r) l) (drop_at (take at d₀) new at m)

-- a line that ends has an octet
abbrev Some : Took → Type 0
Some (Line n) = 0 < n
Some (More n) = Unit {0}
Some (Full n) = Unit {0}

further_some : (t : Took) → Some (further 1 t)
further_some (Line m) = omega arith
further_some (More m) = tt
further_some (Full m) = tt

some : (quirks cr : Bool) (room : ℕ) (s : List ℕ) → Some (taking quirks cr room s)
unfolding taking
some quirks cr room [] = tt
some quirks cr zero (x ∷ xs) = tt
some quirks cr (suc room) (x ∷ xs) = choose (ends_line quirks cr x)
  where
    choose : (b : Bool) → Some (cond b (Line 1) (further 1 (taking quirks (eqb x 13) room xs)))
    choose true = omega arith
    choose false = further_some (taking quirks (eqb x 13) room xs)

pub line_some : (quirks cr : Bool) (room n : ℕ) (s : List ℕ) → Line n ≡ taking quirks cr room s → 0 < n
line_some quirks cr room n s e = subst Some (sym e) (some quirks cr room s)
