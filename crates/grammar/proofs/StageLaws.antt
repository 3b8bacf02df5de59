-- Laws of the walk over a header: of its version line, of one octet more, and of its end. Assumes nothing.
use mathlib.Core.Path.{◌≡◌}
use mathlib.Core.Bool.{true, false}
use mathlib.Core.List.{List}
use Prim.Native.Nat.{ℕ, ◌+◌, ◌≤◌, ◌<◌}
use native.Mathlib.Numerals.{add-one}
use native.Mathlib.Omega.{arith}
use lib.ListN.{length, get_or, take, drop, drop_of_length-le, length-take}
use lib.Seq.{drop-cons}
use Rattle.leaves.specs.Octets.{octets, same_list}
use Rattle.leaves.proofs.NameLaws.{apart}
use Rattle.grammar.specs.declared.Stage.{Stage}
use Rattle.grammar.specs.declared.Stage.TheVariants.{First}
use Rattle.grammar.specs.Walk.{next, is_over, walk, is_version, grammatical}

pub first_version : (l : List ℕ) → same_list l (octets "WARC/1.0\r\n") ≡ true → is_version l ≡ true
unfolding is_version
first_version l e = rw e

pub second_version : (l : List ℕ) → same_list l (octets "WARC/1.0\r\n") ≡ false → is_version l ≡ same_list l (octets "WARC/1.1\r\n")
unfolding is_version
second_version l e = rw e

pub walk_more : (stage : Stage) (l : List ℕ) (i : ℕ) → i < length l → walk stage (drop i l) ≡ walk (next stage (get_or l i 0)) (drop (i + 1) l)
unfolding walk
walk_more stage l i h = rw (add-one, drop-cons l i 0)

pub walk_end : (stage : Stage) (l : List ℕ) (i : ℕ) → length l ≤ i → walk stage (drop i l) ≡ is_over stage
unfolding walk
walk_end stage l i h = rw (drop_of_length-le l h)

-- a header is no shorter than its version line
pub short : (l : List ℕ) → length l < 10 → grammatical l ≡ false
unfolding grammatical is_version
short l h =
    let n : length (take 10 l) < 10 = rw length-take (omega arith) in
    rw (apart (take 10 l) (octets "WARC/1.0\r\n") (λ e. omega (arith, e, n)), apart (take 10 l) (octets "WARC/1.1\r\n") (λ e. omega (arith, e, n)))

pub unversioned : (l : List ℕ) → is_version (take 10 l) ≡ false → grammatical l ≡ false
unfolding grammatical
unversioned l e = rw e

pub versioned : (l : List ℕ) → is_version (take 10 l) ≡ true → grammatical l ≡ walk First (drop 10 l)
unfolding grammatical
versioned l e = rw e
