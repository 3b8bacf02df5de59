-- `lent_walker::read_header` meets its contract. Assumes nothing.
use Rattle.lent_walker.specs.Lent.{walked_in}
use Rattle.lent_reader.specs.Lent.{fed_in}
use Rattle.lent.specs.Table.{map_in}
use Rattle.walker.proofs.TrailLaws.{fed_judged, reads_by}
use Rattle.reader.proofs.FedLaws.{fed_fits}
use native.Mathlib.Omega.{arith}
use mathlib.Core.Path.{ap, ◌∙◌}
use Rattle.lent_walker.proofs.read_header.Goals as goal

pub comes_to-came-requires : goal.comes_to-came-requires
comes_to-came-requires c =
    let a = c.args in
    (c.feed-fed.auto.t ∙ c.requires.0, fed_judged (map_in a.t.now a.h) a.block.now a.store.now _ (fed_in _ c.feed-fed.result) _ _ c.feed-fed.ensures)

pub overflow_add-onward : goal.overflow_add-onward
overflow_add-onward c =
    let a = c.args in
    let h = fed_fits (map_in a.t.now a.h) a.block.now a.store.now a.piece.now a.k a.trail.position c.requires.2 _ c.feed-fed.ensures.result in
    omega (arith, h)

pub returns : goal.returns
returns c =
    let a = c.args in
    reads_by a.trail (map_in a.t.now a.h) a.start a.k a.block.now a.store.now a.piece.now (fed_in _ c.feed-fed.result) _ _ c.feed-fed.ensures _ c.comes_to-came.ensures c.behind_header-r.result (c.behind_header-r.ensures _) _ (ap (walked_in _) c.with_head.ensures)
