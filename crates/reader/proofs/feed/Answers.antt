-- `reader::feed` meets its contract. Assumes nothing.
use Rattle.std.specs.Prelude.{Err, Ok}
use mathlib.Core.Path.{◌≡◌, refl, sym, ◌∙◌}
use Rattle.maps.proofs.GoodLaws.{ready_of}
use Rattle.maps.specs.Good.{checked_reading}
use Rattle.reader.proofs.CallLaws.{feeding_goes, feeding_stops}
use Rattle.reader.proofs.feed.Goals as goal

pub feed_lines-requires : goal.feed_lines-requires
feed_lines-requires c =
    let a = c.args in
    let q : Ok tt ≡ checked_reading a.m a.block.now a.store.now = sym c.in-Ok.is ∙ rw c.is_reading-ready.ensures at c.check.ensures in
    ready_of _ a.m a.block.now a.store.now q

pub returns-in-Ok : goal.returns-in-Ok
returns-in-Ok c =
    let a = c.args in
    let q : Ok tt ≡ checked_reading a.m a.block.now a.store.now = sym c.in-Ok.is ∙ rw c.is_reading-ready.ensures at c.check.ensures in
    rw (feeding_goes a.m a.block.now a.store.now a.piece.now q) c.feed_lines.ensures

pub returns-in-Err : goal.returns-in-Err
returns-in-Err c =
    let a = c.args in
    let q : Err _ ≡ checked_reading a.m a.block.now a.store.now = sym c.in-Err.is ∙ rw c.is_reading-ready.ensures at c.check.ensures in
    rw (feeding_stops a.m a.block.now a.store.now a.piece.now _ q) (record { result = refl; block = refl; store = refl })
