-- `writes::give` meets its contract. Assumes nothing.
use Rattle.writes.proofs.WriteLaws.{give_short, give_all}
use Rattle.writes.proofs.give.Goals as goal

pub returns-then-out-text : goal.returns-then-out-text
returns-then-out-text c = let s = c.args in give_short s.out.now s.text.now c.if-out-text.true

pub returns : goal.returns
returns c =
    let s = c.args in
    give_all s.out.now s.text.now c.if-out-text.false _ _ c.put.ensures
