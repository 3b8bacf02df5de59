-- `lent_walker::open_good` meets its contract. Assumes nothing.
use Rattle.lent.specs.Table.{map_in}
use Rattle.openings.proofs.OpenLaws.{opened_spots, opening_goes}
use Rattle.openings.specs.Sights.{opened_at}
use Rattle.maps.proofs.GoodLaws.{ready_of}
use mathlib.Core.Path.{sym, ap, ◌∙◌}
use Rattle.lent_walker.proofs.open_good.Goals as goal

pub spot-z-requires : goal.spot-z-requires
spot-z-requires c =
    let a = c.args in
    ((ready_of _ (map_in a.t.now a.h) a.block.now a.store.now c.requires.1).few, c.requires.0)

pub returns : goal.returns
returns c =
    let a = c.args in
    let m = map_in a.t.now a.h in
    c.open_spots.ensures ∙ ap (opened_at a.block.now a.store.now a.h.status) c.spot-z.ensures ∙ opened_spots m a.block.now a.store.now ∙ sym (opening_goes m a.block.now a.store.now c.requires.1)
