-- `lent_reader::begin` meets its contract. Assumes nothing.
use Rattle.std.specs.Prelude.{Err, Ok}
use mathlib.Core.Path.{sym, ◌∙◌}
use Rattle.maps.specs.Heads.{under}
use Rattle.reader.proofs.CallLaws.{begun}
use Rattle.lent_reader.proofs.begin.Goals as goal

pub returns-in-Ok : goal.returns-in-Ok
returns-in-Ok c T =
    let a = c.args in
    rw c.empty_head.ensures
    (begun (under T a.h) a.limit a.room a.awaits a.quirks a.block.now a.store.now (Ok tt) (sym c.in-Ok.is ∙ c.check_rooms.ensures))

pub returns-in-Err : goal.returns-in-Err
returns-in-Err c T =
    let a = c.args in
    begun (under T a.h) a.limit a.room a.awaits a.quirks a.block.now a.store.now (Err _) (sym c.in-Err.is ∙ c.check_rooms.ensures)
