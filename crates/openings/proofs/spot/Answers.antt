-- `openings::spot` meets its contract. Assumes nothing.
use Rattle.openings.proofs.SightLaws.{passing_more, passing_end}
use Rattle.maps.specs.Places.{no_field}
use Rattle.openings.specs.Sights.{spotted, spots_at}
use native.Mathlib.Numerals.{add-one}
use native.Mathlib.Omega.{arith}
use mathlib.Core.Path.{sym, ap}
use Prim.Native.Nat.{◌≤◌}
use lib.ListN.{get_or, take, length-take, drop_of_length-le}
use lib.Seq.{drop-cons}
use Rattle.openings.proofs.spot.Goals as goal

pub loop-i-preserved : goal.loop-i-preserved
loop-i-preserved c =
    let a = c.args in
    let i = c.loop-i.i in
    let xs = take a.n a.t.now in
    let l : i ≤ 255 = omega (arith, c.loop-i-test.true, c.requires.0, length-take a.n a.t.now) in
    passing_more a.block.now a.store.now xs c.loop-i.z i c.loop-i.invariant l (get_or xs i no_field) (rw add-one (drop-cons xs i no_field c.loop-i-test.true)) _ c.part.ensures.is _ c.note-z.ensures

pub returns : goal.returns
unfolding spotted
returns c =
    let a = c.args in
    let xs = take a.n a.t.now in
    sym (ap (spots_at a.t.now) (passing_end a.block.now a.store.now xs c.loop-i.z c.loop-i.i c.loop-i.invariant (drop_of_length-le xs c.loop-i-test.false)))
