-- `lent_walker::start` meets its contract. Assumes nothing.
use Rattle.lent_reader.specs.Lent.{made_in}
use Rattle.maps.specs.declared.Head.{Head}
use Rattle.maps.specs.Heads.{under}
use Rattle.walker.proofs.WalkLaws.{starts, start_refused}
use mathlib.Core.Path.{ap}
use Rattle.lent_walker.proofs.start.Goals as goal

pub returns-in-Ok : goal.returns-in-Ok
returns-in-Ok c =
    let a = c.args in
    λ T. starts (under T a.h) a.room a.position a.block.now a.store.now (made_in T c.begin-made.result) (c.begin-made.ensures T).result c.in-Ok.is _ (ap (λ (x : Head). under T x) c.kept_head.ensures)

pub returns-in-Err : goal.returns-in-Err
returns-in-Err c =
    let a = c.args in
    λ T. start_refused (under T a.h) a.room a.position a.block.now a.store.now (made_in T c.begin-made.result) (c.begin-made.ensures T).result _ c.in-Err.is
