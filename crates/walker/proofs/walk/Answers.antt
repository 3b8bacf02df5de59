-- `walker::walk` meets its contract. Assumes nothing.
use Rattle.walker.proofs.TrailLaws.{walk_reads}
use Rattle.walker.proofs.walk.Goals as goal

pub returns-in-Reads : goal.returns-in-Reads
returns-in-Reads c =
    let a = c.args in
    walk_reads a.w a.block.now a.store.now _ c.trail_of-t.ensures _ c.check_map-c.ensures a.piece.now _ c.turn.ensures _ _ _ c.in-Reads.is _ c.kept_map-m.ensures _ _ _ c.read_header.ensures
