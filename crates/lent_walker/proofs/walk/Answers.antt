-- `lent_walker::walk` meets its contract. Assumes nothing.
use Rattle.lent_walker.specs.Lent.{walker_in}
use Rattle.lent.specs.Table.{map_in}
use Rattle.walker.proofs.TrailLaws.{walk_reads}
use mathlib.Core.Path.{refl, ap}
use Rattle.lent_walker.proofs.walk.Goals as goal

pub returns-in-Reads : goal.returns-in-Reads
returns-in-Reads c =
    let a = c.args in
    walk_reads (walker_in a.t.now a.h a.trail) a.block.now a.store.now a.trail refl _ c.check_map-c.ensures a.piece.now _ c.turn.ensures _ _ _ c.in-Reads.is (map_in a.t.now c.kept_head-begun.result) (ap (map_in a.t.now) c.kept_head-begun.ensures) _ _ _ c.read_header.ensures
