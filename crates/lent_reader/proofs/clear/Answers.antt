-- `lent_reader::clear` meets its contract. Assumes nothing.
use mathlib.Core.Path.{refl, sym, ◌∙◌}
use Rattle.reader.proofs.CallLaws.{clearing_goes, clearing_stops}
use Rattle.lent.specs.Table.{map_in}
use Rattle.lent_reader.proofs.clear.Goals as goal

pub returns-in-Ok : goal.returns-in-Ok
returns-in-Ok c =
    let a = c.args in
    rw (clearing_goes (map_in a.t.now a.h) a.block.now a.store.now (sym c.in-Ok.is ∙ c.check.ensures), c.empty_head.ensures)
    (record { result = refl; block = refl; store = refl })

pub returns-in-Err : goal.returns-in-Err
returns-in-Err c =
    let a = c.args in
    rw (clearing_stops (map_in a.t.now a.h) a.block.now a.store.now _ (sym c.in-Err.is ∙ c.check.ensures))
    (record { result = refl; block = refl; store = refl })
