-- `walker::read_header` meets its contract. Assumes nothing.
use Rattle.walker.proofs.TrailLaws.{fed_judged, reads_by}
use Rattle.reader.proofs.FedLaws.{fed_fits}
use native.Mathlib.Omega.{arith}
use Rattle.walker.proofs.read_header.Goals as goal

pub comes_to-h-requires : goal.comes_to-h-requires
comes_to-h-requires c =
    let a = c.args in
    fed_judged a.m a.block.now a.store.now _ _ _ _ c.feed-fed.ensures

pub returns : goal.returns
returns c =
    let a = c.args in
    reads_by a.t a.m a.start a.k a.block.now a.store.now a.piece.now _ _ _ c.feed-fed.ensures _ c.comes_to-h.ensures c.behind_header-r.result (c.behind_header-r.ensures _) _ c.with_map.ensures

pub overflow_add-trail : goal.overflow_add-trail
overflow_add-trail c =
    let a = c.args in
    let h = fed_fits a.m a.block.now a.store.now a.piece.now a.k a.t.position c.requires.1 _ c.feed-fed.ensures.result in
    omega (arith, h)
