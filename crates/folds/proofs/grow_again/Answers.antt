-- `folds::grow_again` meets its contract. Assumes nothing.
use Rattle.folds.proofs.GrowLaws.{part_long}
use Rattle.maps.specs.Places.{part}
use native.Mathlib.Omega.{arith}
use mathlib.Core.Path.{sym}
use mathlib.Core.List.{◌∷◌, ◌++◌}
use Prim.Native.Nat.{◌≤◌}
use lib.ListN.{length}
use Rattle.folds.proofs.GrowLaws.{grown_full, grown_fits, grow_twice, length_joined}
use Rattle.maps.proofs.TextLaws.{part_cut}
use Rattle.folds.proofs.grow_again.Goals as goal

pub returns-then-room-mark : goal.returns-then-room-mark
returns-then-room-mark c =
    let a = c.args in
    let t = a.store.now in
    let l : a.mark ≤ length t = omega (arith, c.requires.0.marked, c.requires.0.long) in
    let q = part_cut t a.from a.«end» a.mark c.requires.2 in
    let z = part_long t a.from a.«end» c.requires.1 (omega arith) in
    rw q (grown_full _ _ _ _ _ _ (part a.from a.«end» t ++ (32 ∷ a.text.now)) _ (length_joined (part a.from a.«end» t) a.text.now _ (sym z)) c.requires.0.marked c.if-room-mark.true)

pub returns : goal.returns
returns c =
    let a = c.args in
    let t = a.store.now in
    let l : a.mark ≤ length t = omega (arith, c.requires.0.marked, c.requires.0.long) in
    let q = part_cut t a.from a.«end» a.mark c.requires.2 in
    let z = part_long t a.from a.«end» c.requires.1 (omega arith) in
    rw q (grown_fits _ _ _ _ _ _ (part a.from a.«end» t ++ (32 ∷ a.text.now)) _ _ _ (length_joined (part a.from a.«end» t) a.text.now _ (sym z)) c.requires.0.marked (omega arith) c.put_field.ensures
    (grow_twice t (part a.from a.«end» t) a.text.now _ _ _ _ (sym z) (omega arith) c.copy_within.ensures c.put_tail.ensures))
