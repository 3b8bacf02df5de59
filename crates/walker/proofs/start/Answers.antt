-- `walker::start` meets its contract. Assumes nothing.
use Rattle.walker.proofs.WalkLaws.{starts, start_refused}
use Rattle.walker.proofs.start.Goals as goal

pub returns-in-Ok : goal.returns-in-Ok
returns-in-Ok c =
    let a = c.args in
    starts a.m a.room a.position a.block.now a.store.now _ c.begin-made.ensures.result c.in-Ok.is _ c.kept_map.ensures

pub returns-in-Err : goal.returns-in-Err
returns-in-Err c =
    let a = c.args in
    start_refused a.m a.room a.position a.block.now a.store.now _ c.begin-made.ensures.result _ c.in-Err.is
