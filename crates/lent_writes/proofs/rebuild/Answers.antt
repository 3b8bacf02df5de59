-- `lent_writes::rebuild` meets its contract. Assumes nothing.
use Rattle.std.proofs.lemmas.Result.{err_from_is_err_and}
use Rattle.maps.proofs.GoodLaws.{ready_of}
use Rattle.writes.proofs.WriteLaws.{rebuild_refused, rebuild_fine}
use Rattle.lent.specs.Table.{map_in}
use mathlib.Core.Path.{sym, ◌∙◌}
use Rattle.lent_writes.proofs.rebuild.Goals as goal

pub give_map-requires : goal.give_map-requires
give_map-requires c =
    let e = sym c.in_ok-check_done.was ∙ c.check_done.ensures in
    ((ready_of _ (map_in c.args.t.now c.args.h) c.args.block.now c.args.store.now e).few, c.requires)

pub returns : goal.returns
returns c =
    let s = c.args in
    let e = sym c.in_ok-check_done.was ∙ c.check_done.ensures in
    rebuild_fine (map_in s.t.now s.h) s.block.now s.store.now s.out.now e c.give_map.ensures

pub returns-in_err-check_done : goal.returns-in_err-check_done
returns-in_err-check_done c =
    let s = c.args in
    let p = err_from_is_err_and c.from_residual.result c.from_residual.ensures.1 in
    rw (p.1, p.2) (rebuild_refused (map_in s.t.now s.h) s.block.now s.store.now s.out.now _ (sym c.in_err-check_done.was ∙ c.check_done.ensures))
