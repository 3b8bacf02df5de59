-- `openings::open_good` meets its contract. Assumes nothing.
use Rattle.openings.proofs.OpenLaws.{opened_spots}
use Rattle.openings.specs.Sights.{opened_at}
use Rattle.maps.proofs.GoodLaws.{ready_of}
use mathlib.Core.Path.{ap, ◌∙◌}
use Rattle.openings.proofs.open_good.Goals as goal

pub spot-z-requires : goal.spot-z-requires
spot-z-requires c =
    ((ready_of _ c.args.m c.args.block.now c.args.store.now c.requires).few, c.well_formed.0.1.1.0.1.0.1)

pub returns : goal.returns
returns c =
    let a = c.args in
    c.open_spots.ensures ∙ ap (opened_at a.block.now a.store.now a.m.status) c.spot-z.ensures ∙ opened_spots a.m a.block.now a.store.now
